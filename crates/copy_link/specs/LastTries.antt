-- The last tries of a copy whose job is to end: its part is removed, if it can be, and
-- the folder's sync is tried.
use Rattle.std.specs.Prelude.{◌≡◌, ℕ, ◌≤◌, Option, Some, None, Result, Ok, Err}
use Rattle.tree_trait.specs.declared.calls.TreeError.{TreeError}
use Rattle.tree_trait.specs.declared.calls.TreeError.TheVariants.{Fault}
use Rattle.tree_trait.specs.Calls.{RemoveFile, SyncFolder}
use Rattle.tree_trait.specs.Change.{CallLog}
use Rattle.tree_trait.specs.Answers.{IfKnown, HasRisen, Performs}
use Rattle.job_reports.specs.declared.report.Did.TheVariants.{Barrier}
use Rattle.job_reports.specs.declared.report.LastStepResult.{LastStepResult}
use Rattle.job_reports.specs.Paths.{folder_of}
use Rattle.job_reports.specs.Stops.{calls_made_for, refusal_in}
use Rattle.copy_file.specs.declared.stage.FolderState.TheVariants.{Synced, Dirty}
use Rattle.copy_link.specs.declared.removal.Removal.{Removal}
use Rattle.copy_link.specs.declared.removal.Removal.TheVariants.{Cleaned, Stays}
use Rattle.copy_link.specs.declared.removal.RemovalStep.{RemovalStep}
use Rattle.copy_link.specs.declared.stage.Stage.TheVariants.{Left, Decided}
use Rattle.copy_link.specs.LinkCopying.{LinkCopying}

-- where the copy stands after the try: its part is gone, or stays
abbrev pub after_try : Removal → LinkCopying → LinkCopying
after_try Cleaned c = record c { stage = Decided; folder = Dirty }
after_try (Stays e) c = record c { stage = Left }

-- what the removal answered
abbrev pub answer_in : Removal → Result (Unit {0}) TreeError
answer_in Cleaned = Ok tt
answer_in (Stays e) = Err e

-- The removal of the part was tried, and answered as it is told; a fault only where
-- the tree's count has risen.
pub record RemovalTried (old : LinkCopying) (tried : RemovalStep) (new : LinkCopying)
    (before after : Option CallLog) (faults faults_after : ℕ) : Type 0 where
  pub stands : new ≡ after_try tried.removal old
  pub counted : tried.calls ≡ calls_made_for (answer_in tried.removal)
  pub answered : IfKnown before (λ log.
      Performs {A = Unit {0}} log (RemoveFile old.part) (answer_in tried.removal) after)
  pub unknown : before ≡ None → after ≡ None
  pub later : faults ≤ faults_after
  pub fault : answer_in tried.removal ≡ Err Fault → HasRisen faults faults_after

-- The folder's sync was tried, whatever it answered: the refusal is told, and a fault only where
-- the tree's count has risen.
pub record SyncTried (old : LinkCopying) (last : LastStepResult) (new : LinkCopying)
    (before after : Option CallLog) (faults faults_after : ℕ) : Type 0 where
  pub did : last.did ≡ Barrier
  pub stands : new ≡ record old { folder = Synced }
  pub answered : (answer : Result (Unit {0}) TreeError) × (last.calls ≡ calls_made_for answer)
      × (last.left ≡ refusal_in answer)
      × IfKnown before (λ log. Performs {A = Unit {0}} log (SyncFolder (folder_of old.target)) answer after)
  pub unknown : before ≡ None → after ≡ None
  pub later : faults ≤ faults_after
  pub fault : last.left ≡ Some Fault → HasRisen faults faults_after
