-- What a step of a job does: its report, the job after it, its calls of the tree, and how many
-- changing calls that was.
use Rattle.std.specs.Prelude.{◌≡◌, ◌⊎◌, ℕ, ⊤, ◌<◌, ◌≤◌, true, false, List, Option, Some, None, Ok}
use Rattle.mc_text.specs.Routes.{Route}
use Rattle.tree_trait.specs.declared.calls.TreeError.{TreeError}
use Rattle.tree_trait.specs.declared.calls.TreeError.TheVariants.{Fault}
use Rattle.tree_trait.specs.Change.{CallLog, current}
use Rattle.tree_trait.specs.Answers.{IfKnown, HasRisen, Performs}
use Rattle.tree_trait.specs.CrashImages.{Among}
use Rattle.job_reports.specs.declared.report.Did.{Did}
use Rattle.job_reports.specs.declared.report.Ending.{Ending}
use Rattle.job_reports.specs.CallRuns.{HasMore}
use Rattle.job_reports.specs.Reports.{ends}
use Rattle.job_reports.specs.declared.report.Cause.{Cause}
use Rattle.job_reports.specs.declared.report.Trouble.{Trouble}
use Rattle.job_reports.specs.declared.report.Did.TheVariants.{Barrier, Skipped, Troubled}
use Rattle.job_reports.specs.Stops.{out_of_memory_at}
use Rattle.job_answers.specs.declared.replies.Replies.{Replies}
use Rattle.copy_move.specs.declared.work.Work.{Work}
use Rattle.copy_move.specs.declared.run.Course.{Course}
use Rattle.copy_move.specs.declared.work.Work.TheVariants.{Copy, Delete, Make, Move, SetMode, RemoveEmptied}
use Rattle.copy_move.specs.declared.run.Course.TheVariants.{GoesOn, Asking, InTrouble}
use Rattle.copy_move.specs.declared.run.Course.TheVariants.{OwedSyncFailed, Skips, Ends}
use Rattle.copy_move.specs.Faults.{MeetsFault}
use Rattle.delete_job.specs.DeletionSteps.{Goes, Passes, TriesNext, after_try}
use Rattle.copy_move.specs.Jobs.{Running, JobTells, JobCalls, PassesOver, WorkTells, WorkCalls}
use Rattle.copy_move.specs.Jobs.{WorkWinds, WorkLastCalls, at_barrier, course_after, is_fresh}
use Rattle.copy_move.specs.Settling.{NoneForFolder, NoneOwed, TellsFolder, WorkLeaves, is_own}
use Rattle.job_reports.specs.Paths.{without}
use Rattle.copy_move.specs.Ranks.{last_rank, rank_at, rank_on, rank_with, work_rank}
use Rattle.mode_job.specs.SettingSteps.{SyncStops, sync_of}
use Rattle.copy_job.specs.SubtreeSteps.{LastSubtreeStep, SubtreeSkips}
use Rattle.move_job.specs.Movings as movings
use Rattle.emptied_job.specs.Removals as removals
use Rattle.copy_move.specs.TreeCopies as trees

-- A step of a job: what it reports is allowed, the job is then as it says, it made the calls of the tree
-- that it says, at most three of which change the tree, and it reports a fault, or passes something over
-- for one, only where the tree's count has risen.
pub record StepsOn (unclaimed : Route → Type 0) (old new : Running) (did : Did) (calls : ℕ)
    (before after : Option CallLog) (faults faults_after : ℕ) : Type 0 where
  pub tells : JobTells old did new
  pub called : IfKnown before (λ log. JobCalls unclaimed old did new log after)
  pub counted : IfKnown before (λ log. IfKnown after (HasMore log calls))
  pub few : calls ≤ 3
  pub unknown : before ≡ None → after ≡ None
  pub later : faults ≤ faults_after
  pub fault : MeetsFault old.course did → HasRisen faults faults_after

-- A last step tries one folder that the job may have changed, or the thing to which it gave a mode, and
-- leaves it dirty where that one try of its sync was refused.
pub record LastLeaves (old : Work) (did : Did) (dirty dirty_after : List Route)
    (before after : Option CallLog) : Type 0 where
  pub refusal : Option TreeError
  pub folder : Route
  pub own : is_own old folder ≡ true
  pub dirty_is : dirty_after ≡ after_try did refusal folder dirty
  pub tried : IfKnown before (λ log. TellsFolder old did refusal folder log after)

-- What a step of a job's own makes of the dirty folders. A folder joins them before a change of names
-- there, and a thing before it is given a mode; it leaves them with its sync. In last steps it leaves them
-- only where the one try of its sync wasn't refused.
abbrev pub LeavesDirty : Course → Work → Did → Work → List Route → List Route → Option CallLog
    → Option CallLog → Type 0
LeavesDirty GoesOn old did new dirty dirty_after before after =
    WorkLeaves old did new dirty dirty_after before after
LeavesDirty (InTrouble halt) old did new dirty dirty_after before after = ⊥
LeavesDirty (OwedSyncFailed cause) old did new dirty dirty_after before after = ⊥
LeavesDirty Asking old did new dirty dirty_after before after = ⊥
LeavesDirty (Skips cause) old did new dirty dirty_after before after = dirty_after ≡ dirty
LeavesDirty (Ends ending) old did new dirty dirty_after before after =
    LastLeaves old did dirty dirty_after before after

-- A step of a job as it was made: the job before and after it, its report, and how many changing calls it
-- made; and how the dirty folders, the tree's log and its count of faults stood before and after.
pub record StepMade : Type 0 where
  pub old : Running
  pub new : Running
  pub did : Did
  pub calls : ℕ
  pub dirty : List Route
  pub dirty_after : List Route
  pub before : Option CallLog
  pub after : Option CallLog
  pub faults : ℕ
  pub faults_after : ℕ

abbrev pub step_made : Running → Running → Did → ℕ → List Route → List Route → Option CallLog → Option CallLog
    → ℕ → ℕ → StepMade
step_made old new did calls dirty dirty_after before after faults faults_after =
    record {
      old = old;
      new = new;
      did = did;
      calls = calls;
      dirty = dirty;
      dirty_after = dirty_after;
      before = before;
      after = after;
      faults = faults;
      faults_after = faults_after;
    }

-- what the machine of a deletion or of a copy does in a step of the work
abbrev pub Walks : (Route → Type 0) → Replies → Work → Work → Did → ℕ → List Route → List Route
    → Option CallLog → Option CallLog → ℕ → ℕ → Type 0
Walks unclaimed replies (Make m) new did calls dirty dirty_after before after faults faults_after = ⊤
Walks unclaimed replies (Move m) new did calls dirty dirty_after before after faults faults_after = ⊤
Walks unclaimed replies (SetMode s) new did calls dirty dirty_after before after faults faults_after = ⊤
Walks unclaimed replies (RemoveEmptied r) new did calls dirty dirty_after before after faults faults_after = ⊤
Walks unclaimed replies (Copy c) (Copy new) did calls dirty dirty_after before after faults faults_after =
    trees.Goes unclaimed replies c new did calls dirty dirty_after before after faults faults_after
Walks unclaimed replies (Copy c) new did calls dirty dirty_after before after faults faults_after = ⊥
Walks unclaimed replies (Delete d) (Delete new) did calls dirty dirty_after before after faults faults_after =
    Goes replies d new did calls dirty dirty_after before after faults faults_after
Walks unclaimed replies (Delete d) new did calls dirty dirty_after before after faults faults_after = ⊥

-- what it does where something is passed over; what was moved is not, nor a folder that is gone
abbrev pub SkipWalks : Cause → Work → Did → Work → Type 0
SkipWalks cause (Make m) did new = ⊤
SkipWalks cause (Move m) did new = movings.at_barrier m.stage ≡ false
SkipWalks cause (SetMode s) did new = ⊤
SkipWalks cause (RemoveEmptied r) did new = removals.at_barrier r.stage ≡ false
SkipWalks cause (Copy c) did (Copy new) = SubtreeSkips cause c did new
SkipWalks cause (Copy c) did new = ⊥
SkipWalks cause (Delete d) did (Delete new) = Passes cause d did new
SkipWalks cause (Delete d) did new = ⊥

-- what it does in a last step
abbrev pub LastWalks : Ending → Work → Work → Did → ℕ → Option TreeError → List Route → List Route
    → Option CallLog → Option CallLog → ℕ → ℕ → Type 0
LastWalks ending (Copy c) (Copy new) did calls left dirty dirty_after before after faults faults_after =
    LastSubtreeStep ending c new (record { did = did; calls = calls; left = left }) dirty dirty_after before
    after faults faults_after
LastWalks ending (Copy c) new did calls left dirty dirty_after before after faults faults_after = ⊥
LastWalks ending (Delete d) (Delete new) did calls left dirty dirty_after before after faults faults_after =
    TriesNext ending d new did calls left dirty dirty_after before after faults faults_after
LastWalks ending (Delete d) new did calls left dirty dirty_after before after faults faults_after = ⊥
LastWalks ending (Make m) new did calls left dirty dirty_after before after faults faults_after = ⊤
LastWalks ending (Move m) new did calls left dirty dirty_after before after faults faults_after = ⊤
LastWalks ending (SetMode s) new did calls left dirty dirty_after before after faults faults_after = ⊤
LastWalks ending (RemoveEmptied r) new did calls left dirty dirty_after before after faults faults_after = ⊤

-- what it does in a step of a job that goes so
abbrev pub WalksOn : (Route → Type 0) → Replies → Course → Work → Work → Did → ℕ → List Route → List Route
    → Option CallLog → Option CallLog → ℕ → ℕ → Type 0
WalksOn unclaimed replies GoesOn old new did calls dirty dirty_after before after faults faults_after =
    Walks unclaimed replies old new did calls dirty dirty_after before after faults faults_after
WalksOn unclaimed replies (InTrouble halt) old new did calls dirty dirty_after before after faults
    faults_after = ⊥
WalksOn unclaimed replies (OwedSyncFailed cause) old new did calls dirty dirty_after before after faults
    faults_after = ⊥
WalksOn unclaimed replies Asking old new did calls dirty dirty_after before after faults faults_after = ⊥
WalksOn unclaimed replies (Skips cause) old new did calls dirty dirty_after before after faults faults_after =
    SkipWalks cause old did new
WalksOn unclaimed replies (Ends ending) old new did calls dirty dirty_after before after faults faults_after =
    (left : Option TreeError)
    × LastWalks ending old new did calls left dirty dirty_after before after faults faults_after

-- A piece of work, where this was answered, likewise. Fewer steps are left then, and at most
-- three where it is refused.
pub record WorkSteps (unclaimed : Route → Type 0) (replies : Replies) (old new : Work) (did : Did) (calls : ℕ)
    (dirty dirty_after : List Route) (before after : Option CallLog) (faults faults_after : ℕ) : Type 0 where
  pub tells : WorkTells replies old did new
  pub walks : Walks unclaimed replies old new did calls dirty dirty_after before after faults faults_after
  pub called : IfKnown before (λ log. WorkCalls unclaimed replies old did new log after)
  pub leaves : WorkLeaves old did new dirty dirty_after before after
  pub counted : IfKnown before (λ log. IfKnown after (HasMore log calls))
  pub few : calls ≤ 3
  pub unknown : before ≡ None → after ≡ None
  pub later : faults ≤ faults_after
  pub fault : MeetsFault GoesOn did → HasRisen faults faults_after
  pub falls : ends did ≡ false → rank_at dirty_after (course_after did) new < rank_at dirty GoesOn old

-- One of the last pieces of work. It tells the refusal of a sync that was tried in vain, a fault only where
-- the count of faults has risen.
pub record WorkWindsUp (ending : Ending) (old new : Work) (did : Did) (calls : ℕ) (left : Option TreeError)
    (dirty dirty_after : List Route) (before after : Option CallLog) (faults faults_after : ℕ) : Type 0 where
  pub tells : WorkWinds ending old did new
  pub walks : LastWalks ending old new did calls left dirty dirty_after before after faults faults_after
  pub called : IfKnown before (λ log. WorkLastCalls old did log after)
  pub folder : Route
  pub own : is_own old folder ≡ true
  pub dirty_is : dirty_after ≡ after_try did left folder dirty
  pub synced : IfKnown before (λ log. TellsFolder old did left folder log after)
  pub counted : IfKnown before (λ log. IfKnown after (HasMore log calls))
  pub few : calls ≤ 2
  pub unknown : before ≡ None → after ≡ None
  pub later : faults ≤ faults_after
  pub fault : left ≡ Some Fault → HasRisen faults faults_after
  pub falls : ends did ≡ false → rank_at dirty_after (Ends ending) new < rank_at dirty (Ends ending) old

-- A skip, which is never at a barrier, reports what was left, or that there is no memory for the report,
-- and then it changes nothing. Fewer steps are left then.
pub record WorkSkips (cause : Cause) (old : Work) (did : Did) (new : Work) : Type 0 where
  pub walks : SkipWalks cause old did new
  pub skips : ((path : Route) × (did ≡ Skipped path cause) × PassesOver old path new)
      ⊎ ((did ≡ Troubled (out_of_memory_at false)) × (new ≡ old))
  pub falls : rank_on (course_after did) new < rank_on (Skips cause) old

-- the step of a job that passes over something: it makes no call
pub record SkipSteps (cause : Cause) (old new : Running) (did : Did) (calls : ℕ) : Type 0 where
  pub work : Work
  pub apart : at_barrier old.work ≡ false
  pub skips : WorkSkips cause old.work did work
  pub new_is : new ≡ record old { work = work; course = course_after did }
  pub none : calls ≡ 0

-- a last step of a job: one of its work
pub record WindingStep (ending : Ending) (step : StepMade) : Type 0 where
  pub left : Option TreeError
  pub winds : WorkWindsUp ending step.old.work step.new.work step.did step.calls left step.dirty
      step.dirty_after step.before step.after step.faults step.faults_after
  pub new_is : step.new ≡ record step.old { work = step.new.work }

-- A step of the job's own: one that may make its first change is made only where nothing dirty is owed, and
-- that of a move of a folder only where nothing that stands is dirty; a deletion or a copy does what its
-- machine does, and a job that is to end makes one of its last steps. But for an end fewer steps are left.
pub record OwnStep (unclaimed : Route → Type 0) (step : StepMade) : Type 0 where
  pub own : StepsOn unclaimed step.old step.new step.did step.calls step.before step.after step.faults
      step.faults_after
  pub settled : step.old.course ≡ GoesOn → is_fresh step.old.work ≡ true
      → IfKnown step.before (λ log. NoneOwed (current log) step.old.work step.dirty)
  pub cleared : step.old.course ≡ GoesOn → is_fresh step.old.work ≡ true
      → IfKnown step.before (λ log. NoneForFolder (current log) step.old.work step.dirty)
  pub leaves : LeavesDirty step.old.course step.old.work step.did step.new.work step.dirty step.dirty_after
      step.before step.after
  pub walks : WalksOn unclaimed step.old.replies step.old.course step.old.work step.new.work step.did
      step.calls step.dirty step.dirty_after step.before step.after step.faults step.faults_after
  pub winds : (ending : Ending) → step.old.course ≡ Ends ending → WindingStep ending step
  pub falls : ends step.did ≡ false
      → rank_with step.dirty_after (Some step.new) < rank_with step.dirty (Some step.old)

-- what stands at a dirty path was synced, and the job stands where it stood
pub record OwedSynced (old : Running) (path : Route) (did : Did) (new : Running)
    (dirty dirty_after : List Route) (before after : Option CallLog) : Type 0 where
  pub did_is : did ≡ Barrier
  pub new_is : new ≡ old
  pub dirty_is : dirty_after ≡ without path dirty
  pub called : IfKnown before (λ log. Performs {A = Unit {0}} log (sync_of (current log) path) (Ok tt) after)

-- the look at it, or its sync, was refused, and the job waits for an answer
pub record OwedRefused (old : Running) (path : Route) (did : Did) (new : Running)
    (dirty dirty_after : List Route) (before after : Option CallLog) : Type 0 where
  pub trouble : Trouble
  pub did_is : did ≡ Troubled trouble
  pub barred : trouble.barrier ≡ true
  pub new_is : new ≡ record old { course = OwedSyncFailed trouble.cause }
  pub dirty_is : dirty_after ≡ dirty
  pub called : IfKnown before (λ log. SyncStops path trouble.cause trouble.path log after)

abbrev pub SyncsOwed : Running → Route → Did → Running → List Route → List Route → Option CallLog
    → Option CallLog → Type 0
SyncsOwed old path did new dirty dirty_after before after =
    OwedSynced old path did new dirty dirty_after before after
    ⊎ OwedRefused old path did new dirty dirty_after before after

-- A step of a job that has changed nothing yet, where an ended job left something dirty: that is synced
-- first, as what stands there. Fewer steps are left to one that waits then.
pub record OwedSyncStep (step : StepMade) : Type 0 where
  pub goes : step.old.course ≡ GoesOn
  pub fresh : is_fresh step.old.work ≡ true
  pub path : Route
  pub owed : Among step.dirty path
  pub waits : last_rank step.old.work < work_rank step.old.work
  pub synced : SyncsOwed step.old path step.did step.new step.dirty step.dirty_after step.before step.after
  pub counted : IfKnown step.before (λ log. IfKnown step.after (HasMore log step.calls))
  pub few : step.calls ≤ 1
  pub unknown : step.before ≡ None → step.after ≡ None
  pub later : step.faults ≤ step.faults_after
  pub fault : MeetsFault step.old.course step.did → HasRisen step.faults step.faults_after

-- what a step of a job may be: one of its own, or the sync of what an ended job left dirty
abbrev pub RunStep : (Route → Type 0) → StepMade → Type 0
RunStep unclaimed step = OwnStep unclaimed step ⊎ OwedSyncStep step
