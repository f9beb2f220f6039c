-- A step counts its calls, and meets a fault only where the tree's count has risen.
use Rattle.std.specs.Prelude.{◌≡◌, ◌≤◌, ℕ, Bool, List, Option, None, Some}
use Rattle.mc_text.specs.Routes.{Route}
use Rattle.tree_trait.specs.declared.calls.TreeError.TheVariants as refused
use Rattle.tree_trait.specs.Answers.{IfKnown, HasRisen}
use Rattle.tree_trait.specs.Change.{CallLog}
use Rattle.job_answers.specs.declared.replies.Replies.{Replies}
use Rattle.job_reports.specs.declared.report.Cause.TheVariants.{Tree}
use Rattle.job_reports.specs.declared.report.Did.{Did}
use Rattle.job_reports.specs.declared.report.Did.TheVariants.{Skipped, Troubled}
use Rattle.job_reports.specs.declared.report.Ending.{Ending}
use Rattle.job_reports.specs.declared.report.LastStepResult.{LastStepResult}
use Rattle.job_reports.specs.CallRuns.{HasMore}
use Rattle.copy_job.specs.Standing.{SubtreeCopying}
use Rattle.copy_job.specs.SubtreeSteps.{LastSubtreeStep, SubtreeSteps}

-- a trouble is a fault, or something is passed over for one
abbrev pub MeetsFault : Did → Type 0
MeetsFault (Troubled trouble) = trouble.cause ≡ Tree refused.Fault
MeetsFault (Skipped path cause) = cause ≡ Tree refused.Fault
MeetsFault did = ⊥

pub record StepCounts (did : Did) (calls : ℕ) (before after : Option CallLog)
    (faults faults_after : ℕ) : Type 0 where
  pub counted : IfKnown before (λ log. IfKnown after (HasMore log calls))
  pub few : calls ≤ 3
  pub unknown : before ≡ None → after ≡ None
  pub later : faults ≤ faults_after
  pub fault : MeetsFault did → HasRisen faults faults_after

abbrev pub CountLaw : Type 0
CountLaw =
    (free : Route → Bool) (replies : Replies) (old new : SubtreeCopying) (did : Did) (calls : ℕ)
    (dirty dirty_after : List Route) (before after : Option CallLog) (faults faults_after : ℕ)
    → SubtreeSteps free replies old new did calls dirty dirty_after before after faults faults_after
    → StepCounts did calls before after faults faults_after

-- the same of a last step, which makes two calls at most, and tells the refusal of the sync that it tried
pub record LastStepCounts (last : LastStepResult) (before after : Option CallLog)
    (faults faults_after : ℕ) : Type 0 where
  pub counted : IfKnown before (λ log. IfKnown after (HasMore log last.calls))
  pub few : last.calls ≤ 2
  pub unknown : before ≡ None → after ≡ None
  pub later : faults ≤ faults_after
  pub fault : last.left ≡ Some refused.Fault → HasRisen faults faults_after

abbrev pub LastCountLaw : Type 0
LastCountLaw =
    (ending : Ending) (old new : SubtreeCopying) (last : LastStepResult) (dirty dirty_after : List Route)
    (before after : Option CallLog) (faults faults_after : ℕ)
    → LastSubtreeStep ending old new last dirty dirty_after before after faults faults_after
    → LastStepCounts last before after faults faults_after
