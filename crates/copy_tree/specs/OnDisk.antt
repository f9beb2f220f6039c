-- A folder that was made is on the disk before anything is put into it: of the open folders only the
-- innermost is dirty, but for the moment after it was made, when the one around it is.
use Rattle.std.specs.Prelude.{◌≡◌, ℕ, ⊤, Bool, true, false, List, [], ◌∷◌, Option}
use Rattle.mc_text.specs.Routes.{Route}
use Rattle.tree_trait.specs.Change.{CallLog}
use Rattle.job_answers.specs.declared.replies.Replies.{Replies}
use Rattle.job_reports.specs.declared.report.Cause.{Cause}
use Rattle.job_reports.specs.declared.report.Did.{Did}
use Rattle.job_reports.specs.declared.report.Ending.{Ending}
use Rattle.job_reports.specs.declared.report.LastStepResult.{LastStepResult}
use Rattle.copy_folders.specs.FolderCopying.{is_dirty}
use Rattle.copy_tree.specs.declared.copy.Named.{Named}
use Rattle.copy_tree.specs.declared.item.ItemAtWork.{ItemAtWork}
use Rattle.copy_tree.specs.declared.item.ItemAtWork.TheVariants.{Next}
use Rattle.copy_folders.specs.declared.level.Level.{Level}
use Rattle.copy_tree.specs.Ending.{WindsAt}
use Rattle.copy_tree.specs.Skipping.{Skips, retried_copy}
use Rattle.copy_tree.specs.Standing.{Seen, begun_tree_copy}
use Rattle.copy_tree.specs.TreeCopySteps.{CopySteps}

-- none of these folders is dirty
abbrev pub AllSynced : List Level → Type 0
AllSynced [] = ⊤
AllSynced (outer ∷ around) = (is_dirty outer.copy.names ≡ false) × AllSynced around

-- nothing is at work in this folder, and nothing in it was changed since it was synced or made
pub record IsUntouched (item : ItemAtWork) (inner : Level) : Type 0 where
  pub free : item ≡ Next
  pub clean : is_dirty inner.copy.names ≡ false

-- the folders around this one aren't dirty; only the nearest may be, as long as nothing is put into this one
abbrev pub AroundSynced : ItemAtWork → Level → List Level → Type 0
AroundSynced item inner [] = ⊤
AroundSynced item inner (outer ∷ around) =
    (is_dirty outer.copy.names ≡ true → IsUntouched item inner) × AllSynced around

abbrev pub IsOnDisk : Seen → Type 0
IsOnDisk c = AroundSynced c.item c.levels.inner c.levels.around

-- A copy that begins is so, and each step, skip, retry and last step keeps it.
pub record OnDiskLaw : Type 0 where
  pub begins : (job : ℕ) (source target : Named) → IsOnDisk (begun_tree_copy job source target)
  pub step : (free : Route → Bool) (replies : Replies) (old new : Seen) (did : Did) (calls : ℕ)
      (before after : Option CallLog) (faults faults_after : ℕ)
      → CopySteps free replies old new did calls before after faults faults_after
      → IsOnDisk old → IsOnDisk new
  pub skip : (cause : Cause) (old new : Seen) (did : Did) → Skips cause old did new
      → IsOnDisk old → IsOnDisk new
  pub retry : (old : Seen) → IsOnDisk old → IsOnDisk (retried_copy old)
  pub last_step : (ending : Ending) (old new : Seen) (last : LastStepResult) (before after : Option CallLog)
      (faults faults_after : ℕ)
      → WindsAt old.item ending old new last before after faults faults_after → IsOnDisk old → IsOnDisk new
