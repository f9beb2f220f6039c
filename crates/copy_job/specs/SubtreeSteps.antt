-- What a step of the copy does, as a job works it: the machine's step, and what it
-- makes of the dirty folders.
use Rattle.std.specs.Prelude.{◌≡◌, ◌⊎◌, ℕ, Bool, false, List, Option}
use Rattle.mc_text.specs.Routes.{Route}
use Rattle.tree_trait.specs.Change.{CallLog}
use Rattle.job_answers.specs.declared.replies.Replies.{Replies}
use Rattle.job_reports.specs.declared.report.Cause.{Cause}
use Rattle.job_reports.specs.declared.report.Did.{Did}
use Rattle.job_reports.specs.declared.report.Did.TheVariants.{Troubled}
use Rattle.job_reports.specs.declared.report.Ending.{Ending}
use Rattle.job_reports.specs.declared.report.LastStepResult.{LastStepResult}
use Rattle.job_reports.specs.declared.report.StepResult.{StepResult}
use Rattle.job_reports.specs.Stops.{out_of_memory_at}
use Rattle.copy_tree.specs.Ending.{WindsAt}
use Rattle.copy_tree.specs.Skipping as machine
use Rattle.copy_tree.specs.Standing.{Seen}
use Rattle.copy_tree.specs.TreeCopySteps.{CopySteps, IsWorkable}
use Rattle.copy_job.specs.Leaving.{LeavesSettled, is_done, may_leave}
use Rattle.copy_job.specs.Marks.{folder_worked, is_dirty_after, was_dirty}
use Rattle.copy_job.specs.Passing.{OrPassedOver}
use Rattle.copy_job.specs.Standing.{SubtreeCopying, at_barrier}
use Rattle.job_unsynced.specs.Folders.{after_try, with_change}

abbrev pub step_result : Did → ℕ → StepResult
step_result did calls = record { did = did; calls = calls }

-- something is left to be done, but there is no memory to keep that a folder is dirty, and nothing was done
pub record RunsShort (old new : Seen) (result : StepResult) (dirty dirty_after : List Route)
    (before after : Option CallLog) (faults faults_after : ℕ) : Type 0 where
  pub left : is_done old ≡ false
  pub says : result ≡ step_result (Troubled (out_of_memory_at (at_barrier old))) 0
  pub stays : new ≡ old
  pub list : dirty_after ≡ dirty
  pub same : after ≡ before
  pub later : faults_after ≡ faults

-- A step of the machine. The folder that it works joins the dirty ones with its first change, and
-- leaves them with its sync.
pub record MachineSteps (free : Route → Bool) (replies : Replies) (old new : Seen) (result : StepResult)
    (dirty dirty_after : List Route) (before after : Option CallLog) (faults faults_after : ℕ) : Type 0 where
  pub steps : CopySteps free replies old new result.did result.calls before after faults faults_after
  pub list : dirty_after
      ≡ with_change (was_dirty old) (is_dirty_after old result.did new) (folder_worked old) dirty

-- a step with the list of dirty folders, where no folder is left to be left
abbrev pub ListSteps : (Route → Bool) → Replies → Seen → Seen → StepResult → List Route → List Route
    → Option CallLog → Option CallLog → ℕ → ℕ → Type 0
ListSteps free replies old new result dirty dirty_after before after faults faults_after =
    RunsShort old new result dirty dirty_after before after faults faults_after
    ⊎ MachineSteps free replies old new result dirty dirty_after before after faults faults_after

-- A step: folders that owe nothing are left; the machine makes a step; and what it is in trouble with is
-- passed over, where troubles of that kind are skipped.
pub record SubtreeSteps (free : Route → Bool) (replies : Replies) (old new : SubtreeCopying)
    (did : Did) (calls : ℕ) (dirty dirty_after : List Route) (before after : Option CallLog)
    (faults faults_after : ℕ) : Type 0 where
  pub mid : Seen
  pub leaves : LeavesSettled old.at mid
  pub settled : may_leave mid ≡ false
  pub worked : StepResult
  pub moved : Seen
  pub works : ListSteps free replies mid moved worked dirty dirty_after before after faults faults_after
  pub going : IsWorkable moved.item
  pub passes : OrPassedOver replies.skips worked moved new.at (step_result did calls)
  pub stands : new ≡ record old { at = new.at }

-- what is in trouble is left
pub record SubtreeSkips (cause : Cause) (old : SubtreeCopying) (did : Did)
    (new : SubtreeCopying) : Type 0 where
  pub skips : machine.Skips cause old.at did new.at
  pub stands : new ≡ record old { at = new.at }

-- A last step. A folder that was tried leaves the dirty ones where its sync was done; it is the
-- one that is worked then.
pub record LastSubtreeStep (ending : Ending) (old new : SubtreeCopying) (last : LastStepResult)
    (dirty dirty_after : List Route) (before after : Option CallLog) (faults faults_after : ℕ) : Type 0 where
  pub winds : WindsAt old.at.item ending old.at new.at last before after faults faults_after
  pub list : dirty_after ≡ after_try last.did last.left new.at.levels.inner.copy.target dirty
  pub stands : new ≡ record old { at = new.at }
