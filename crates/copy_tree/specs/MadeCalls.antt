-- Which calls that change the tree a copy makes: on the targets of what lies at or below its source,
-- on parts beside them that are named by its job, and the syncs of their folders. Nothing else is
-- changed, so no source is.
use Rattle.std.specs.Prelude.{◌≡◌, ◌⊎◌, ℕ, suc, zero, ⊤, Bool, true, ◌∷◌, Option, Some, None, Result}
use Rattle.mc_text.specs.Routes.{Route}
use Rattle.tree_trait.specs.Calls.{Call, Stat, ListFolder, ReadAt, ReadLink, MakeFile}
use Rattle.tree_trait.specs.Calls.{WriteAt, SetMode, MakeFolder, MakeLink, Rename}
use Rattle.tree_trait.specs.Calls.{RemoveFile, RemoveFolder, SyncFile, SyncFolder}
use Rattle.tree_trait.specs.declared.calls.TreeError.{TreeError}
use Rattle.tree_trait.specs.Change.{CallLog}
use Rattle.tree_trait.specs.Answers.{IfKnown, Performs}
use Rattle.job_answers.specs.declared.replies.Replies.{Replies}
use Rattle.job_reports.specs.declared.job.Pair.{Pair}
use Rattle.job_reports.specs.declared.report.Cause.{Cause}
use Rattle.job_reports.specs.declared.report.Did.{Did}
use Rattle.job_reports.specs.declared.report.Ending.{Ending}
use Rattle.job_reports.specs.declared.report.LastStepResult.{LastStepResult}
use Rattle.job_reports.specs.Paths.{folder_of}
use Rattle.copy_file.specs.Copying.{part_at}
use Rattle.copy_file.specs.PartNames.{part_name}
use Rattle.copy_tree.specs.declared.item.ItemAtWork.{ItemAtWork}
use Rattle.copy_tree.specs.declared.item.ItemAtWork.TheVariants.{Next, File, Link, Stays}
use Rattle.copy_tree.specs.Ending.{WindsAt}
use Rattle.copy_tree.specs.InPlace.{IsInPlace, IsTargetOf}
use Rattle.copy_tree.specs.Skipping.{Skips, retried_copy}
use Rattle.copy_tree.specs.Standing.{Seen}
use Rattle.copy_tree.specs.TreeCopySteps.{CopySteps}

-- a part beside this target, named by this job
abbrev pub IsPartFor : ℕ → Route → Route → Type 0
IsPartFor job target part = (k : ℕ) × (part ≡ part_name job k ∷ folder_of target)

-- a part beside the target of a thing at or below the source
abbrev pub IsPart : Pair → ℕ → Route → Type 0
IsPart top job part = (target : Route) × IsTargetOf top target × IsPartFor job target part

-- A changing call that a copy may make. Folders are made and given a mode at targets; all else is done to
-- parts, which come to their targets by a renaming; and the folders that hold these are synced.
abbrev pub MayCall : Pair → ℕ → Call → Type 0
MayCall top job (MakeFolder path mode) = IsTargetOf top path
MayCall top job (SetMode path mode) = IsTargetOf top path ⊎ IsPart top job path
MayCall top job (MakeFile path mode) = IsPart top job path
MayCall top job (MakeLink path text) = IsPart top job path
MayCall top job (WriteAt path offset bytes) = IsPart top job path
MayCall top job (SyncFile path) = IsPart top job path
MayCall top job (RemoveFile path) = IsPart top job path
MayCall top job (Rename from to) = IsTargetOf top to × IsPartFor job to from
MayCall top job (SyncFolder path) = (path ≡ folder_of top.target) ⊎ IsTargetOf top path
MayCall top job (RemoveFolder path) = ⊥
MayCall top job (Stat path) = ⊥
MayCall top job (ListFolder path) = ⊥
MayCall top job (ReadAt path offset count) = ⊥
MayCall top job (ReadLink path) = ⊥

-- so many changing calls were made, one after the other, each of which may be made
abbrev pub AreMade : (Call → Type 0) → ℕ → CallLog → Option CallLog → Type 0
AreMade May zero log after = after ≡ Some log
AreMade May (suc n) log after =
    (call : Call) × May call × (answer : Result (Unit {0}) TreeError)
    × (Performs {A = Unit {0}} log call answer after
    ⊎ ((mid : CallLog) × Performs {A = Unit {0}} log call answer (Some mid) × AreMade May n mid after))

-- no other changing call was made
abbrev pub MakesOnly : (Call → Type 0) → CallLog → Option CallLog → Type 0
MakesOnly May log after = (n : ℕ) × AreMade May n log after

-- the part of a file, if one stands, is beside its target, and named by this job
abbrev pub IsBeside : ℕ → Route → Option Route → Type 0
IsBeside job target None = ⊤
IsBeside job target (Some part) = IsPartFor job target part

-- so is the part at work
abbrev pub ItemBeside : ℕ → ItemAtWork → Type 0
ItemBeside job Next = ⊤
ItemBeside job (File f) = (f.job ≡ job) × IsBeside job f.target (part_at f.stage)
ItemBeside job (Link l) = IsPartFor job l.target l.part
ItemBeside job (Stays part) = ⊤

-- a copy of this job, whose part, if one stands, is beside its target and named by the job
pub record HasPart (job : ℕ) (c : Seen) : Type 0 where
  pub by : c.job ≡ job
  pub beside : ItemBeside job c.item

-- Each changing call of a step, and of a last step, is one of these; and the part stays beside its target.
pub record CallLaw : Type 0 where
  pub step : (free : Route → Bool) (replies : Replies) (top : Pair) (job : ℕ) (old new : Seen) (did : Did)
      (calls : ℕ) (before after : Option CallLog) (faults faults_after : ℕ)
      → CopySteps free replies old new did calls before after faults faults_after → IsInPlace top old
      → HasPart job old
      → IfKnown before (λ log. HasPart job new × MakesOnly (MayCall top job) log after)
  pub last_step : (top : Pair) (job : ℕ) (ending : Ending) (old new : Seen) (last : LastStepResult)
      (before after : Option CallLog) (faults faults_after : ℕ)
      → WindsAt old.item ending old new last before after faults faults_after → IsInPlace top old
      → HasPart job old
      → HasPart job new × IfKnown before (λ log. MakesOnly (MayCall top job) log after)
  pub skip : (job : ℕ) (cause : Cause) (old new : Seen) (did : Did) → Skips cause old did new
      → HasPart job old → HasPart job new
  pub retry : (job : ℕ) (old : Seen) → HasPart job old → HasPart job (retried_copy old)

-- A skip, a retry and a last step keep a copy in its place, as a step does.
pub record StayingLaw : Type 0 where
  pub skip : (top : Pair) (cause : Cause) (old new : Seen) (did : Did) → Skips cause old did new
      → IsInPlace top old → IsInPlace top new
  pub retry : (top : Pair) (old : Seen) → IsInPlace top old → IsInPlace top (retried_copy old)
  pub last_step : (top : Pair) (ending : Ending) (old new : Seen) (last : LastStepResult)
      (before after : Option CallLog) (faults faults_after : ℕ)
      → WindsAt old.item ending old new last before after faults faults_after → IsInPlace top old
      → IsInPlace top new
