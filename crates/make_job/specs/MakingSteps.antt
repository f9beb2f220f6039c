-- What a step of a making does: its report, the making after it, its call of the tree, and how many
-- changing calls that was.
use Rattle.std.specs.Prelude.{◌≡◌, ◌⊎◌, ℕ, ◌≤◌, Option, Some, None}
use Rattle.tree_trait.specs.declared.calls.TreeError.{TreeError}
use Rattle.tree_trait.specs.declared.calls.TreeError.TheVariants.{Fault}
use Rattle.tree_trait.specs.Change.{CallLog}
use Rattle.tree_trait.specs.Answers.{IfKnown, HasRisen}
use Rattle.job_reports.specs.declared.report.Cause.{Cause}
use Rattle.job_reports.specs.declared.report.Ending.{Ending}
use Rattle.job_reports.specs.declared.report.Did.{Did}
use Rattle.job_reports.specs.declared.report.Did.TheVariants.{Skipped, Troubled}
use Rattle.job_reports.specs.CallRuns.{HasMore}
use Rattle.job_reports.specs.Reports.{IsFault}
use Rattle.job_reports.specs.Stops.{out_of_memory_at}
use Rattle.make_job.specs.Makings.{LastMakingCalls, Making, MakingCalls, MakingLeaves}
use Rattle.make_job.specs.Makings.{Tells, Winds, at_barrier, skipped_stage}

-- A step: what it reports is allowed, the making is then as it says, it is the call of the tree
-- that it says, and it reports a fault only where the tree's count has risen. It counts the
-- changing calls that it made.
pub record MakingStep (old new : Making) (did : Did) (calls : ℕ) (before after : Option CallLog)
    (faults faults_after : ℕ) : Type 0 where
  pub tells : Tells old did new
  pub called : IfKnown before (λ log. MakingCalls old did log after)
  pub counted : IfKnown before (λ log. IfKnown after (HasMore log calls))
  pub few : calls ≤ 1
  pub unknown : before ≡ None → after ≡ None
  pub later : faults ≤ faults_after
  pub fault : IsFault did → HasRisen faults faults_after

-- A last step, likewise. It tells the refusal of a sync that was tried in vain, a fault only
-- where the count has risen.
pub record LastMakingStep (ending : Ending) (old new : Making) (did : Did) (calls : ℕ)
    (left : Option TreeError) (before after : Option CallLog) (faults faults_after : ℕ) : Type 0 where
  pub tells : Winds ending old did new
  pub called : IfKnown before (λ log. LastMakingCalls old did log after)
  pub synced : IfKnown before (λ log. MakingLeaves old did left log after)
  pub counted : IfKnown before (λ log. IfKnown after (HasMore log calls))
  pub few : calls ≤ 1
  pub unknown : before ≡ None → after ≡ None
  pub later : faults ≤ faults_after
  pub fault : left ≡ Some Fault → HasRisen faults faults_after

-- a skip reports the path as skipped, or that there is no memory for the report, and then it changes nothing
abbrev pub MakingSkips : Cause → Making → Did → Making → Type 0
MakingSkips cause old did new =
    ((did ≡ Skipped old.path cause) × (new ≡ record old { stage = skipped_stage old.stage }))
    ⊎ ((did ≡ Troubled (out_of_memory_at (at_barrier old.stage))) × (new ≡ old))
