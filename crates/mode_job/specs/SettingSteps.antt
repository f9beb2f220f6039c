-- What a step of a setting does: its report, the setting after it, and its calls of the tree.
use Rattle.std.specs.Prelude.{◌≡◌, ◌⊎◌, ℕ, ◌≤◌, true, false, [], ◌∷◌, Option}
use Rattle.std.specs.Prelude.{Some, None, Result, Ok, Err, IfErr, MatchResult}
use Rattle.mc_text.specs.Routes.{Route}
use Rattle.mc_text.specs.declared.kind.Kind.{Kind}
use Rattle.mc_text.specs.declared.kind.Kind.TheVariants.{File, Folder, Link, Other}
use Rattle.tree_trait.specs.declared.file_system.FileSystem.{FileSystem}
use Rattle.tree_trait.specs.declared.calls.TreeError.{TreeError}
use Rattle.tree_trait.specs.declared.calls.TreeError.TheVariants.{Fault, Memory}
use Rattle.tree_trait.specs.Calls.{Call, Stat, SetMode, SyncFile, SyncFolder}
use Rattle.tree_trait.specs.FileSystem.{node}
use Rattle.tree_trait.specs.Change.{CallLog, current, found_node}
use Rattle.tree_trait.specs.Answers.{IfKnown, HasRisen, Performs}
use Rattle.job_reports.specs.declared.report.Cause.{Cause}
use Rattle.job_reports.specs.declared.report.Cause.TheVariants.{Memory as NoMemory, Tree}
use Rattle.job_reports.specs.declared.report.Ending.{Ending}
use Rattle.job_reports.specs.declared.report.Did.{Did}
use Rattle.job_reports.specs.declared.report.Did.TheVariants.{Set, Skipped, Barrier, Troubled, Ended}
use Rattle.job_reports.specs.declared.report.LastStepResult.{LastStepResult}
use Rattle.job_reports.specs.declared.stop.Stop.{Stop}
use Rattle.job_reports.specs.CallRuns.{AllDone, RunStops, HasMore}
use Rattle.job_reports.specs.Reading.{IsRefusedWith, StatStops}
use Rattle.job_reports.specs.Stops.{calls_made_for, calls_of, out_of_memory_at, refusal_in}
use Rattle.job_answers.specs.Skipping.{is_passed_over}
use Rattle.job_answers.specs.declared.replies.Replies.{Replies}
use Rattle.mode_job.specs.declared.setting.Stage.{Stage}
use Rattle.mode_job.specs.declared.setting.Stage.TheVariants.{Give, Sync, Done}
use Rattle.mode_job.specs.declared.work.AfterStep.{AfterStep}
use Rattle.mode_job.specs.Settings.{Setting, Tells, at_barrier, is_dirty, skipped_stage}

-- the sync that brings a mode onto the disk: that of a folder, or that of a file
abbrev pub sync_by : Kind → Route → Call
sync_by Folder path = SyncFolder path
sync_by File path = SyncFile path
sync_by Link path = SyncFile path
sync_by Other path = SyncFile path

-- by what stands at the path
abbrev pub sync_of : FileSystem → Route → Call
sync_of s path = sync_by (node s (found_node s path)).kind path

-- the trouble of a sync: the look before it was refused, or it was
abbrev pub SyncStops : Route → Cause → Option Route → CallLog → Option CallLog → Type 0
SyncStops path cause named log after =
    (StatStops (current log) path cause named × (after ≡ Some log))
    ⊎ RunStops (sync_of (current log) path ∷ []) cause named log after

-- What a look and the sync come to, as calls in a row do.
pub record SyncRan (path : Route) (result : Result ℕ Stop) (before after : Option CallLog)
    (faults faults_after : ℕ) : Type 0 where
  pub known : IfKnown before (λ log. MatchResult result
      (λ calls. AllDone log (sync_of (current log) path ∷ []) after)
      (λ stop. SyncStops path stop.trouble.cause stop.trouble.path log after))
  pub barrier : IfErr result (λ stop. stop.trouble.barrier ≡ true)
  pub counted : IfKnown before (λ log. IfKnown after (HasMore log (calls_of result)))
  pub few : calls_of result ≤ 1
  pub unknown : before ≡ None → after ≡ None
  pub later : faults ≤ faults_after
  pub fault : IfErr result (λ stop. stop.trouble.cause ≡ Tree Fault → HasRisen faults faults_after)

-- the trouble of a step, by where the setting stands
abbrev pub SettingStops : Setting → Stage → Cause → Option Route → CallLog → Option CallLog → Type 0
SettingStops s Give cause named log after = RunStops (SetMode s.path s.mode ∷ []) cause named log after
SettingStops s Sync cause named log after = SyncStops s.path cause named log after
SettingStops s Done cause named log after = ⊥

-- What a step says of the tree's calls: a mode that was given and a sync were done; a trouble is the
-- refusal of the next call, and so is what was passed over.
abbrev pub SettingCalls : Setting → Did → CallLog → Option CallLog → Type 0
SettingCalls s (Set path) log after = AllDone log (SetMode s.path s.mode ∷ []) after
SettingCalls s Barrier log after = AllDone log (sync_of (current log) s.path ∷ []) after
SettingCalls s (Skipped path cause) log after =
    (named : Option Route) × SettingStops s s.stage cause named log after
SettingCalls s (Troubled trouble) log after = SettingStops s s.stage trouble.cause trouble.path log after
SettingCalls s (Ended ending part) log after = after ≡ Some log
SettingCalls s did log after = ⊥

-- the report tells of a fault: as a trouble, or as why the thing was passed over
abbrev pub TellsFault : Did → Type 0
TellsFault (Troubled trouble) = trouble.cause ≡ Tree Fault
TellsFault (Skipped path cause) = cause ≡ Tree Fault
TellsFault did = ⊥

-- A step: what it reports is allowed, the setting is then as it says, it made the call of the tree
-- that it says, and it tells of a fault only where the tree's count has risen. It counts the
-- changing calls that it made.
pub record StepsOn (replies : Replies) (old new : Setting) (did : Did) (calls : ℕ)
    (before after : Option CallLog) (faults faults_after : ℕ) : Type 0 where
  pub tells : Tells replies old did new
  pub called : IfKnown before (λ log. SettingCalls old did log after)
  pub counted : IfKnown before (λ log. IfKnown after (HasMore log calls))
  pub few : calls ≤ 1
  pub unknown : before ≡ None → after ≡ None
  pub later : faults ≤ faults_after
  pub fault : TellsFault did → HasRisen faults faults_after

-- a step that says where it left the setting
abbrev pub MovesOn : Replies → Setting → AfterStep → Option CallLog → Option CallLog → ℕ → ℕ → Type 0
MovesOn replies old moved before after faults faults_after = StepsOn replies old
    (record old { stage = moved.stage }) moved.did moved.calls before after faults faults_after

-- a trouble leaves the setting where it stood
abbrev pub moved_by : Stop → Stage → AfterStep
moved_by stop stage = record { did = Troubled stop.trouble; calls = stop.calls; stage = stage }

-- The mode wasn't given: that is told, or the thing keeps its mode, where troubles of that kind are passed
-- over. Want of memory is always told.
abbrev pub NotGiven : Replies → Setting → Stop → AfterStep → Type 0
NotGiven replies s stop moved =
    (((is_passed_over replies.skips stop.trouble ≡ false) ⊎ (stop.trouble.cause ≡ NoMemory))
    × (moved ≡ moved_by stop Give))
    ⊎ ((is_passed_over replies.skips stop.trouble ≡ true)
    × (moved ≡ record { did = Skipped s.path stop.trouble.cause; calls = stop.calls; stage = Done }))

-- a skip reports the thing as skipped, or that there is no memory for the report, and then it changes nothing
abbrev pub SettingSkips : Cause → Setting → Did → Setting → Type 0
SettingSkips cause old did new =
    ((did ≡ Skipped old.path cause) × (new ≡ record old { stage = skipped_stage old.stage }))
    ⊎ ((did ≡ Troubled (out_of_memory_at (at_barrier old.stage))) × (new ≡ old))

-- what a sync that was tried answered is told
pub record TriedSync (answer : Result (Unit {0}) TreeError) (last : LastStepResult) : Type 0 where
  pub did : last.did ≡ Barrier
  pub calls : last.calls ≡ calls_made_for answer
  pub left : last.left ≡ refusal_in answer

-- what was tried is told: the sync was done, or the look before it was refused so, or found no memory,
-- or the sync was refused so
abbrev pub TellsTried : Route → Option TreeError → CallLog → Option CallLog → Type 0
TellsTried path None log after = Performs {A = Unit {0}} log (sync_of (current log) path) (Ok tt) after
TellsTried path (Some e) log after =
    ((after ≡ Some log) × (IsRefusedWith (current log) (Stat path) e ⊎ (e ≡ Memory)))
    ⊎ Performs {A = Unit {0}} log (sync_of (current log) path) (Err e) after

-- The thing's sync was tried, whatever it answered: the refusal is told, and a fault only where
-- the tree's count has risen.
pub record SyncTried (path : Route) (last : LastStepResult) (before after : Option CallLog)
    (faults faults_after : ℕ) : Type 0 where
  pub did : last.did ≡ Barrier
  pub told : IfKnown before (λ log. TellsTried path last.left log after)
  pub counted : IfKnown before (λ log. IfKnown after (HasMore log last.calls))
  pub few : last.calls ≤ 1
  pub unknown : before ≡ None → after ≡ None
  pub later : faults ≤ faults_after
  pub fault : last.left ≡ Some Fault → HasRisen faults faults_after

-- A last step: a sync that is owed is tried once, and then the job ends as it was ordered.
abbrev pub Winds : Ending → Setting → Setting → LastStepResult → Option CallLog → Option CallLog
    → ℕ → ℕ → Type 0
Winds ending old new last before after faults faults_after =
    ((is_dirty old.stage ≡ true) × (new ≡ record old { stage = Done })
    × SyncTried old.path last before after faults faults_after)
    ⊎ ((is_dirty old.stage ≡ false)
    × (new ≡ old) × (last ≡ record { did = Ended ending None; calls = 0; left = None }) × (after ≡ before)
    × (faults_after ≡ faults))
