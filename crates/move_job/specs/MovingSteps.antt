-- What a step of a move does: its report, the move after it, its call of the tree, and how many
-- changing calls that was.
use Rattle.std.specs.Prelude.{◌≡◌, ◌⊎◌, ℕ, ◌≤◌, true, false, List, Option, Some, None}
use Rattle.mc_text.specs.Routes.{Route}
use Rattle.tree_trait.specs.declared.calls.TreeError.{TreeError}
use Rattle.tree_trait.specs.declared.calls.TreeError.TheVariants.{Fault, Memory}
use Rattle.tree_trait.specs.Change.{CallLog}
use Rattle.tree_trait.specs.Answers.{IfKnown, HasRisen}
use Rattle.job_reports.specs.declared.report.Cause.{Cause}
use Rattle.job_reports.specs.declared.report.Cause.TheVariants.{Memory as NoMemory, Tree}
use Rattle.job_reports.specs.declared.report.Ending.{Ending}
use Rattle.job_reports.specs.declared.report.Did.{Did}
use Rattle.job_reports.specs.declared.report.Did.TheVariants.{Kept, Merges, Skipped, Troubled}
use Rattle.job_reports.specs.declared.report.Transfer.TheVariants.{ByMove}
use Rattle.job_reports.specs.declared.report.Trouble.{Trouble}
use Rattle.job_reports.specs.CallRuns.{HasMore}
use Rattle.job_reports.specs.Stops.{out_of_memory_at, trouble_at}
use Rattle.job_answers.specs.declared.replies.Replies.{Replies}
use Rattle.job_answers.specs.Skipping.{is_passed_over}
use Rattle.move_job.specs.declared.moving.MovingStage.TheVariants as stage
use Rattle.move_job.specs.Movings.{LastMovingCalls, MayMerge, Moving, MovingCalls}
use Rattle.move_job.specs.Movings.{MovingLeaves, Tells, Winds, at_barrier, skipped_stage}

-- the report tells of a fault: as a trouble, or as why something was passed over
abbrev pub TellsFault : Did → Type 0
TellsFault (Troubled trouble) = trouble.cause ≡ Tree Fault
TellsFault (Skipped path cause) = cause ≡ Tree Fault
TellsFault did = ⊥

-- A step, where this was answered: what it reports is allowed, the move is then as it says, it is the call
-- of the tree that it says, and it tells of a fault only where the tree's count has risen. It counts the
-- changing calls that it made.
pub record MovingStep (replies : Replies) (old new : Moving) (did : Did) (calls : ℕ)
    (before after : Option CallLog) (faults faults_after : ℕ) : Type 0 where
  pub tells : Tells replies old did new
  pub called : IfKnown before (λ log. MovingCalls replies old did log after)
  pub counted : IfKnown before (λ log. IfKnown after (HasMore log calls))
  pub few : calls ≤ 1
  pub unknown : before ≡ None → after ≡ None
  pub later : faults ≤ faults_after
  pub fault : TellsFault did → HasRisen faults faults_after

-- A last step, likewise. It tells the refusal of a sync that was tried in vain, a fault only
-- where the count has risen.
pub record LastMovingStep (ending : Ending) (old new : Moving) (did : Did) (calls : ℕ)
    (left : Option TreeError) (before after : Option CallLog) (faults faults_after : ℕ) : Type 0 where
  pub tells : Winds ending old did new
  pub called : IfKnown before (λ log. LastMovingCalls old did log after)
  pub synced : IfKnown before (λ log. MovingLeaves old did left log after)
  pub counted : IfKnown before (λ log. IfKnown after (HasMore log calls))
  pub few : calls ≤ 1
  pub unknown : before ≡ None → after ≡ None
  pub later : faults ≤ faults_after
  pub fault : left ≡ Some Fault → HasRisen faults faults_after

-- a skip reports the thing as skipped, or that there is no memory for the report, and then it changes nothing
abbrev pub MovingSkips : Cause → Moving → Did → Moving → Type 0
MovingSkips cause old did new =
    ((did ≡ Skipped old.pair.source cause) × (new ≡ record old { stage = skipped_stage old.stage }))
    ⊎ ((did ≡ Troubled (out_of_memory_at (at_barrier old.stage))) × (new ≡ old))

-- a trouble is told, or the thing at this path is passed over, where troubles of that kind are
abbrev pub PassesOver : Replies → Moving → Trouble → Route → Did → Moving → Type 0
PassesOver replies old trouble source did new =
    ((is_passed_over replies.skips trouble ≡ true) × (did ≡ Skipped source trouble.cause)
    × (new ≡ record old { stage = stage.PassedOver }))
    ⊎ ((is_passed_over replies.skips trouble ≡ false) × (did ≡ Troubled trouble) × (new ≡ old))

-- a renaming was refused so; want of memory is always told
abbrev pub NotRenamed : Replies → Moving → TreeError → Did → Moving → Type 0
NotRenamed replies old Memory did new = (did ≡ Troubled (out_of_memory_at false)) × (new ≡ old)
NotRenamed replies old e did new =
    PassesOver replies old (trouble_at e old.pair.target false) old.pair.source did new

-- this trouble stops the thing before it is renamed, or there was no memory, for a look or for the
-- report; that is always told
abbrev pub NotTaken : Replies → Moving → Trouble → Did → Moving → Type 0
NotTaken replies old trouble did new =
    ((trouble.cause ≡ NoMemory → ⊥) × PassesOver replies old trouble old.pair.source did new)
    ⊎ ((did ≡ Troubled (out_of_memory_at false)) × (new ≡ old))

-- what stands at the target stays, or there was no memory for the report
abbrev pub Keeps : Moving → Did → Moving → Type 0
Keeps old did new =
    ((did ≡ Kept old.pair.target) × (new ≡ record old { stage = stage.PassedOver }))
    ⊎ ((did ≡ Troubled (out_of_memory_at false)) × (new ≡ old))

-- what lies in the source, by these names, is moved by others, or there was no memory for the report
abbrev pub IsMergedOr : Moving → List (List ℕ) → Did → Moving → Type 0
IsMergedOr old names did new =
    ((did ≡ Merges ByMove old.pair names) × MayMerge old.pair ByMove old.pair names
    × (new ≡ record old { stage = stage.PassedOver }))
    ⊎ ((did ≡ Troubled (out_of_memory_at false)) × (new ≡ old))
