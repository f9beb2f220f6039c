-- What a step of a removal does: its report, the removal after it, its call of the tree, and how many
-- changing calls that was.
use Rattle.std.specs.Prelude.{◌≡◌, ◌⊎◌, ℕ, ◌≤◌, true, false, Option, Some, None}
use Rattle.tree_trait.specs.declared.calls.TreeError.{TreeError}
use Rattle.tree_trait.specs.declared.calls.TreeError.TheVariants.{Fault, Memory, NotEmpty}
use Rattle.tree_trait.specs.Change.{CallLog}
use Rattle.tree_trait.specs.Answers.{IfKnown, HasRisen}
use Rattle.job_reports.specs.declared.report.Cause.{Cause}
use Rattle.job_reports.specs.declared.report.Cause.TheVariants.{Tree}
use Rattle.job_reports.specs.declared.report.Ending.{Ending}
use Rattle.job_reports.specs.declared.report.Did.{Did}
use Rattle.job_reports.specs.declared.report.Did.TheVariants.{Kept, Skipped, Troubled}
use Rattle.job_reports.specs.CallRuns.{HasMore}
use Rattle.job_reports.specs.Stops.{out_of_memory_at, trouble_at}
use Rattle.job_answers.specs.Skipping.{is_passed_over}
use Rattle.job_answers.specs.declared.replies.Replies.{Replies}
use Rattle.emptied_job.specs.declared.removal.RemovalStage.TheVariants as stage
use Rattle.emptied_job.specs.Removals.{LastRemovalCalls, RemovalCalls, RemovalLeaves}
use Rattle.emptied_job.specs.Removals.{Removing, Tells, Winds, at_barrier, skipped_stage}

-- the report tells of a fault: as a trouble, or as why the folder was passed over
abbrev pub TellsFault : Did → Type 0
TellsFault (Troubled trouble) = trouble.cause ≡ Tree Fault
TellsFault (Skipped path cause) = cause ≡ Tree Fault
TellsFault did = ⊥

-- A step: what it reports is allowed, the removal is then as it says, it is the call of the tree
-- that it says, and it tells of a fault only where the tree's count has risen. It counts the
-- changing calls that it made.
pub record RemovalStep (replies : Replies) (old new : Removing) (did : Did) (calls : ℕ)
    (before after : Option CallLog) (faults faults_after : ℕ) : Type 0 where
  pub tells : Tells replies old did new
  pub called : IfKnown before (λ log. RemovalCalls old did log after)
  pub counted : IfKnown before (λ log. IfKnown after (HasMore log calls))
  pub few : calls ≤ 1
  pub unknown : before ≡ None → after ≡ None
  pub later : faults ≤ faults_after
  pub fault : TellsFault did → HasRisen faults faults_after

-- A last step, likewise. It tells the refusal of a sync that was tried in vain, a fault only
-- where the count has risen.
pub record LastRemovalStep (ending : Ending) (old new : Removing) (did : Did) (calls : ℕ)
    (left : Option TreeError) (before after : Option CallLog) (faults faults_after : ℕ) : Type 0 where
  pub tells : Winds ending old did new
  pub called : IfKnown before (λ log. LastRemovalCalls old did log after)
  pub synced : IfKnown before (λ log. RemovalLeaves old did left log after)
  pub counted : IfKnown before (λ log. IfKnown after (HasMore log calls))
  pub few : calls ≤ 1
  pub unknown : before ≡ None → after ≡ None
  pub later : faults ≤ faults_after
  pub fault : left ≡ Some Fault → HasRisen faults faults_after

-- a skip reports the folder as skipped, or that there is no memory for the report,
-- and then it changes nothing
abbrev pub RemovalSkips : Cause → Removing → Did → Removing → Type 0
RemovalSkips cause old did new =
    ((did ≡ Skipped old.path cause) × (new ≡ record old { stage = skipped_stage old.stage }))
    ⊎ ((did ≡ Troubled (out_of_memory_at (at_barrier old.stage))) × (new ≡ old))

-- the removal was refused: the folder is kept where something lies in it, passed over where troubles of
-- that kind are, or that is told; want of memory is always told
abbrev pub NotRemoved : Replies → Removing → TreeError → Did → Removing → Type 0
NotRemoved replies old Memory did new = (did ≡ Troubled (out_of_memory_at false)) × (new ≡ old)
NotRemoved replies old NotEmpty did new =
    (did ≡ Kept old.path) × (new ≡ record old { stage = stage.PassedOver })
NotRemoved replies old e did new =
    ((is_passed_over replies.skips (trouble_at e old.path false) ≡ true) × (did ≡ Skipped old.path (Tree e))
    × (new ≡ record old { stage = stage.PassedOver }))
    ⊎ ((is_passed_over replies.skips (trouble_at e old.path false) ≡ false)
    × (did ≡ Troubled (trouble_at e old.path false)) × (new ≡ old))
