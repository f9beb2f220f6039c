-- The last steps of a copy that is to end early: the part is removed, if it can be; each folder that is
-- dirty is tried once to be synced, the inner ones first; and then it ends.
use Rattle.std.specs.Prelude.{◌≡◌, ◌⊎◌, ℕ, ◌+◌, ⊤, true, false, [], Option, Some, None}
use Rattle.mc_text.specs.Routes.{Route}
use Rattle.tree_trait.specs.declared.calls.TreeError.{TreeError}
use Rattle.tree_trait.specs.Change.{CallLog}
use Rattle.job_reports.specs.declared.report.Ending.{Ending}
use Rattle.job_reports.specs.declared.report.Did.TheVariants.{Cleaned, Ended}
use Rattle.job_reports.specs.declared.report.LastStepResult.{LastStepResult}
use Rattle.copy_file.specs.Copying as file
use Rattle.copy_file.specs.Copying.{Copying, part_at}
use Rattle.copy_file.specs.LastSteps as file_last
use Rattle.copy_folders.specs.FolderCopying.{FolderCopying, is_dirty}
use Rattle.copy_folders.specs.FolderSteps.{SyncTried}
use Rattle.copy_folders.specs.declared.stage.NamesState.TheVariants.{Synced}
use Rattle.copy_file.specs.LastSteps.{left_at}
use Rattle.copy_link.specs.LinkCopying.{LinkCopying, is_removable}
use Rattle.copy_link.specs.LastTries.{RemovalTried}
use Rattle.copy_link.specs.declared.removal.Removal.TheVariants as removal
use Rattle.copy_link.specs.declared.removal.RemovalStep.{RemovalStep}
use Rattle.copy_tree.specs.declared.progress.Progress.TheVariants.{UnderWay}
use Rattle.copy_tree.specs.Progress.{progress}
use Rattle.copy_tree.specs.TreeCopySteps.{idle}
use Rattle.copy_tree.specs.declared.item.ItemAtWork.{ItemAtWork}
use Rattle.copy_tree.specs.declared.item.ItemAtWork.TheVariants.{Next, File, Link, Stays}
use Rattle.copy_folders.specs.Levels.{LeftAll, Levels, dirtied_levels, with_copy}
use Rattle.copy_tree.specs.Standing.{Seen}

-- a part that stays is remembered
abbrev pub stays_if : Option Route → ItemAtWork
stays_if (Some part) = Stays part
stays_if None = Next

-- the sync of the folder that is worked is tried
pub record TriesFolder (part : Option Route) (mid : Levels) (old new : Seen) (last : LastStepResult)
    (before after : Option CallLog) (faults faults_after : ℕ) : Type 0 where
  pub dirty : is_dirty mid.inner.copy.names ≡ true
  pub moved : FolderCopying
  pub tried : SyncTried mid.inner.copy last moved before after faults faults_after
  pub stands : new ≡ record old { item = stays_if part; levels = with_copy moved mid }

-- no folder is dirty any more: the end, which names a part that stays
pub record EndsAll (ending : Ending) (part : Option Route) (mid : Levels) (old new : Seen)
    (last : LastStepResult) (before after : Option CallLog) (faults faults_after : ℕ) : Type 0 where
  pub clean : is_dirty mid.inner.copy.names ≡ false
  pub outermost : mid.around ≡ []
  pub says : last ≡ record { did = Ended ending part; calls = 0; left = None }
  pub same : after ≡ before
  pub later : faults_after ≡ faults
  pub stands : new ≡ record old { item = Next; levels = mid }

-- the next folder that is dirty is tried, or all is at its end
pub record FoldersWind (ending : Ending) (part : Option Route) (old new : Seen) (last : LastStepResult)
    (before after : Option CallLog) (faults faults_after : ℕ) : Type 0 where
  pub count : ℕ
  pub mid : Levels
  pub left : LeftAll count old.levels mid
  pub winds : TriesFolder part mid old new last before after faults faults_after
      ⊎ EndsAll ending part mid old new last before after faults faults_after

-- where the copy stands after a last step of a file's copy: a part that stays is remembered, and the
-- folder is dirty or was tried
abbrev pub after_file_wind : Copying → Seen → Seen
after_file_wind f c = record c {
  item = stays_if (part_at f.stage);
  levels = dirtied_levels
      (file.is_dirty f.folder) (with_copy (record c.levels.inner.copy { names = Synced }) c.levels);
}

-- a last step of a file's copy
pub record FileWinds (ending : Ending) (f : Copying) (old new : Seen) (last : LastStepResult)
    (before after : Option CallLog) (faults faults_after : ℕ) : Type 0 where
  pub moved : Copying
  pub winds : file_last.WindsOn ending f moved last.did last.calls last.left before after faults faults_after
  pub stands : new ≡ after_file_wind moved old

-- A last step of a link's copy: its part is gone; or it stays, and the next folder is tried, or all ends.
pub record LinkCleaned (l : LinkCopying) (old new : Seen) (last : LastStepResult)
    (before after : Option CallLog) (faults faults_after : ℕ) : Type 0 where
  pub moved : LinkCopying
  pub tried : RemovalStep
  pub removed : RemovalTried l tried moved before after faults faults_after
  pub gone : tried.removal ≡ removal.Cleaned
  pub says : last ≡ record { did = Cleaned l.part; calls = tried.calls; left = None }
  pub stands : new ≡ record old { levels = dirtied_levels true old.levels }

-- a part stays after so many calls, and the next folder is tried, or all ends
pub record WindsAfter (calls : ℕ) (ending : Ending) (part : Route) (old new : Seen) (last : LastStepResult)
    (before after : Option CallLog) (faults faults_after : ℕ) : Type 0 where
  pub next : LastStepResult
  pub winds : FoldersWind ending (Some part) old new next before after faults faults_after
  pub says : last ≡ record next { calls = calls + next.calls }

pub record LinkStays (ending : Ending) (l : LinkCopying) (old new : Seen) (last : LastStepResult)
    (before after : Option CallLog) (faults faults_after : ℕ) : Type 0 where
  pub moved : LinkCopying
  pub tried : RemovalStep
  pub mid : Option CallLog
  pub since : ℕ
  pub removed : RemovalTried l tried moved before mid faults since
  pub refused : (e : TreeError) × (tried.removal ≡ removal.Stays e)
  pub winds : WindsAfter tried.calls ending l.part old new last mid after since faults_after

abbrev pub LinkWinds : Ending → LinkCopying → Seen → Seen → LastStepResult → Option CallLog → Option CallLog
    → ℕ → ℕ → Type 0
LinkWinds ending l old new last before after faults faults_after =
    LinkCleaned l old new last before after faults faults_after
    ⊎ LinkStays ending l old new last before after faults faults_after

-- A last step, by what is at work.
abbrev pub WindsAt : ItemAtWork → Ending → Seen → Seen → LastStepResult → Option CallLog → Option CallLog
    → ℕ → ℕ → Type 0
WindsAt Next ending old new last before after faults faults_after =
    FoldersWind ending None old new last before after faults faults_after
WindsAt (File f) ending old new last before after faults faults_after =
    FileWinds ending f (idle old) new last before after faults faults_after
WindsAt (Link l) ending old new last before after faults faults_after =
    LinkWinds ending l (idle old) new last before after faults faults_after
WindsAt (Stays part) ending old new last before after faults faults_after =
    FoldersWind ending (Some part) (idle old) new last before after faults faults_after

-- a part that is to be removed stands, or none does
abbrev pub IsWindable : ItemAtWork → Type 0
IsWindable Next = ⊤
IsWindable (File f) = (progress f.stage ≡ UnderWay) × (left_at f.stage ≡ None)
IsWindable (Link l) = is_removable l.stage ≡ true
IsWindable (Stays part) = ⊤
