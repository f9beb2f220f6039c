-- What a step of a deletion does: its report, the deletion after it, its call of the tree, what it makes of
-- the dirty folders, and how many changing calls that was.
use Rattle.std.specs.Prelude.{◌≡◌, ◌⊎◌, ℕ, ◌+◌, ◌-◌, ◌<◌, ◌≤◌, Bool, true}
use Rattle.std.specs.Prelude.{false, List, length, Option, Some, None}
use Rattle.mc_text.specs.Routes.{Route}
use Rattle.tree_trait.specs.declared.calls.TreeError.{TreeError}
use Rattle.tree_trait.specs.declared.calls.TreeError.TheVariants.{Fault}
use Rattle.tree_trait.specs.Change.{CallLog}
use Rattle.tree_trait.specs.Answers.{IfKnown, HasRisen}
use Rattle.job_reports.specs.declared.report.Cause.{Cause}
use Rattle.job_reports.specs.declared.report.Ending.{Ending}
use Rattle.job_reports.specs.declared.report.Did.{Did}
use Rattle.job_reports.specs.declared.report.Did.TheVariants.{Skipped, Troubled}
use Rattle.job_reports.specs.CallRuns.{HasMore}
use Rattle.job_reports.specs.Paths.{folder_of}
use Rattle.job_reports.specs.Reports.{TellsFault, ends}
use Rattle.job_reports.specs.Stops.{out_of_memory_at}
use Rattle.job_unsynced.specs.Folders.{is_of}
use Rattle.job_unsynced.specs.Folders as folders
use Rattle.delete_job.specs.Standing.{after_item, at_barrier}
use Rattle.delete_job.specs.TreeDeletionSteps.{IsProgress, LastSteps}
use Rattle.delete_job.specs.TreeDeletionSteps.{Skips as MachineSkips, SyncSteps, WorkSteps}
use Rattle.delete_job.specs.declared.deletion.Deletion.{Deletion}
use Rattle.job_answers.specs.declared.replies.Replies.{Replies}
use Rattle.job_answers.specs.declared.skips.Skips.{Skips}
use Rattle.job_answers.specs.Skipping.{passed_cause}
use Rattle.job_reports.specs.declared.report.StepResult.{StepResult}
use Rattle.delete_job.specs.Deletions.{Deleting, DeletionCalls, DeletionLeaves, IsAtStage}
use Rattle.delete_job.specs.Deletions.{LastCalls, Tells, TellsTried, Winds, left_in, machine_of}

abbrev pub step_result : Did → ℕ → StepResult
step_result did calls = record { did = did; calls = calls }

-- what the machine does where something is passed over
abbrev pub Passes : Cause → Deleting → Did → Deleting → Type 0
Passes cause old did new = (spare : ℕ) × (spare_after : ℕ)
    × MachineSkips cause (machine_of old spare) did (machine_of new spare_after)

-- What was worked is reported; or it is in a trouble of a kind that is skipped, and is
-- passed over in the same step.
abbrev pub OrPassedOver : Skips → StepResult → Deletion → Deletion → StepResult → Type 0
OrPassedOver skips worked old new result =
    ((passed_cause skips worked.did ≡ None) × (result ≡ worked) × (new ≡ old))
    ⊎ ((cause : Cause) × (passed_cause skips worked.did ≡ Some cause) × (result.calls ≡ worked.calls)
    × MachineSkips cause old result.did new)

-- what the machine does in a step: it works on what it comes to, and passes over that where it is in a
-- trouble of a kind that is skipped; or it syncs a folder
abbrev pub Goes : Replies → Deleting → Deleting → Did → ℕ → List Route → List Route → Option CallLog
    → Option CallLog → ℕ → ℕ → Type 0
Goes replies old new did calls dirty dirty_after before after faults faults_after =
    ((worked : Did) × (mid : Deletion) × (spare : ℕ) × (spare_after : ℕ)
    × WorkSteps (machine_of old spare) mid worked calls dirty dirty_after before after faults faults_after
    × OrPassedOver replies.skips (step_result worked calls) mid (machine_of new spare_after)
    (step_result did calls))
    ⊎ ((spare : ℕ) × SyncSteps (machine_of old spare) did calls dirty dirty_after before after faults
    faults_after × (new ≡ old))

-- what the machine does in a last step: it tries the next folder that it may have changed, from the first
-- on, and ends where none is left
abbrev pub TriesNext : Ending → Deleting → Deleting → Did → ℕ → Option TreeError → List Route → List Route
    → Option CallLog → Option CallLog → ℕ → ℕ → Type 0
TriesNext ending old new did calls left dirty dirty_after before after faults faults_after =
    ((spare : ℕ) × LastSteps ending (machine_of old spare) old.tried new.tried did calls left dirty
    dirty_after before after faults faults_after)
    × (new ≡ record old { tried = new.tried })

-- a thing was decided: it is gone, stays, or was passed over
abbrev pub is_decided : Did → Bool
is_decided (Skipped path cause) = true
is_decided did = IsProgress did

-- A step: it is one of the machine; what it reports is allowed, the deletion is then as it says, it
-- is the call of the tree that it says, and it reports a fault, or passes something over for one,
-- only where the tree's count has risen. Where it decides a thing fewer are left. It counts the
-- changing calls that it made.
pub record DeletionStep (replies : Replies) (old new : Deleting) (did : Did) (calls : ℕ)
    (dirty dirty_after : List Route) (before after : Option CallLog) (faults faults_after : ℕ) : Type 0 where
  pub goes : Goes replies old new did calls dirty dirty_after before after faults faults_after
  pub tells : Tells replies old did new
  pub called : IfKnown before (λ log. DeletionCalls did log after)
  pub leaves : DeletionLeaves old did dirty dirty_after before after
  pub fewer : is_decided did ≡ true → left_in new < left_in old
  pub counted : IfKnown before (λ log. IfKnown after (HasMore log calls))
  pub few : calls ≤ 1
  pub unknown : before ≡ None → after ≡ None
  pub later : faults ≤ faults_after
  pub fault : TellsFault did → HasRisen faults faults_after

-- the dirty folders once this one was tried
abbrev pub after_try : Did → Option TreeError → Route → List Route → List Route
after_try did left folder dirty = folders.after_try did left folder dirty

-- A last step, likewise: it is one of the machine. It tells the refusal of a sync that was tried in
-- vain, a fault only where the count has risen. The folder that is tried is the deletion's own, and then
-- fewer are left to be tried.
pub record LastDeletionStep (ending : Ending) (old new : Deleting) (did : Did)
    (calls : ℕ) (left : Option TreeError) (dirty dirty_after : List Route) (before after : Option CallLog)
    (faults faults_after : ℕ) : Type 0 where
  pub tries : TriesNext ending old new did calls left dirty dirty_after before after faults faults_after
  pub folder : Route
  pub tells : Winds ending old did new
  pub called : IfKnown before (λ log. LastCalls did log after)
  pub own : is_of (folder_of old.path) old.path folder ≡ true
  pub dirty_is : dirty_after ≡ after_try did left folder dirty
  pub synced : IfKnown before (λ log. TellsTried did left folder log after)
  pub nearer : ends did ≡ false
      → length dirty_after + (length dirty_after - new.tried) < length dirty + (length dirty - old.tried)
  pub counted : IfKnown before (λ log. IfKnown after (HasMore log calls))
  pub few : calls ≤ 1
  pub unknown : before ≡ None → after ≡ None
  pub later : faults ≤ faults_after
  pub fault : left ≡ Some Fault → HasRisen faults faults_after

-- A skip, likewise: it reports what was left, or that there is no memory for the report, and then it
-- changes nothing. No more things are left then.
pub record DeletionSkips (cause : Cause) (old : Deleting) (did : Did) (new : Deleting) : Type 0 where
  pub passes : Passes cause old did new
  pub skips :
      ((path : Route) × (did ≡ Skipped path cause) × IsAtStage old (after_item old.path path old.stage) new)
      ⊎ ((did ≡ Troubled (out_of_memory_at (at_barrier old.stage))) × (new ≡ old))
  pub no_more : left_in new ≤ left_in old
