-- What a step of a save does: its report and the save after it, as of a copy, and its calls of the tree.
use Rattle.std.specs.Prelude.{◌≡◌, ℕ, ◌≤◌, Option, None}
use Rattle.mc_text.specs.Routes.{Route}
use Rattle.tree_trait.specs.Change.{CallLog}
use Rattle.tree_trait.specs.Answers.{IfKnown, HasRisen}
use Rattle.tree_trait.specs.declared.calls.TreeError.{TreeError}
use Rattle.job_reports.specs.declared.report.Cause.{Cause}
use Rattle.job_reports.specs.declared.report.Did.{Did}
use Rattle.job_reports.specs.declared.report.Ending.{Ending}
use Rattle.job_reports.specs.Reports.{IsFault}
use Rattle.job_reports.specs.CallRuns.{HasMore}
use Rattle.copy_file.specs.CopySteps as file_steps
use Rattle.copy_file.specs.CopySteps.{Falls}
use Rattle.copy_file.specs.Copying.{Tells}
use Rattle.copy_file.specs.LastSteps as last_steps
use Rattle.save_file.specs.SaveCalls.{SaveCalls}
use Rattle.save_file.specs.Saving.{IsOwn, Saving}

-- A step of a save: it reports what a copy may, and the save is then as that says; it made the calls of the
-- tree that it says, at most three of which change the tree, and it reports a fault only where the tree's
-- count has risen. Work leaves fewer steps to be made.
pub record StepsOn (unclaimed : Route → Type 0) (old new : Saving) (did : Did) (calls : ℕ)
    (before after : Option CallLog) (faults faults_after : ℕ) : Type 0 where
  pub tells : Tells old.copy did new.copy
  pub bytes : new.bytes ≡ old.bytes
  pub own : IsOwn new
  pub called : IfKnown before (λ log. SaveCalls unclaimed old did new log after)
  pub counted : IfKnown before (λ log. IfKnown after (HasMore log calls))
  pub few : calls ≤ 3
  pub unknown : before ≡ None → after ≡ None
  pub later : faults ≤ faults_after
  pub fault : IsFault did → HasRisen faults faults_after
  pub falls : Falls did old.copy new.copy

-- a skip, which keeps the bytes: it reports the file as skipped
pub record Skips (cause : Cause) (old : Saving) (did : Did) (new : Saving) : Type 0 where
  pub copy : file_steps.Skips cause old.copy did new.copy
  pub bytes : new.bytes ≡ old.bytes
  pub own : IsOwn new

-- a last step, which is that of a copy and keeps the bytes
pub record WindsOn (ending : Ending) (old new : Saving) (did : Did) (calls : ℕ) (left : Option TreeError)
    (before after : Option CallLog) (faults faults_after : ℕ) : Type 0 where
  pub copy : last_steps.WindsOn ending old.copy new.copy did calls left before after faults faults_after
  pub bytes : new.bytes ≡ old.bytes
  pub own : IsOwn new
