-- What a step at a folder does: its report, the copy after it, and its calls of the tree.
use Rattle.std.specs.Prelude.{◌≡◌, ◌⊎◌, ℕ, ◌<◌, ◌≤◌, ⊤, List, [], ◌∷◌, Option, Some, None, Result}
use Rattle.mc_text.specs.Routes.{Route}
use Rattle.tree_trait.specs.Calls.{Call, MakeFolder, SetMode, SyncFolder}
use Rattle.tree_trait.specs.Change.{CallLog}
use Rattle.tree_trait.specs.Answers.{IfKnown, HasRisen, Performs}
use Rattle.tree_trait.specs.declared.calls.TreeError.{TreeError}
use Rattle.tree_trait.specs.declared.calls.TreeError.TheVariants as refused
use Rattle.job_reports.specs.declared.report.Cause.{Cause}
use Rattle.job_reports.specs.declared.report.Cause.TheVariants.{Tree}
use Rattle.job_reports.specs.declared.report.Did.{Did}
use Rattle.job_reports.specs.declared.report.Did.TheVariants as report
use Rattle.job_reports.specs.declared.report.LastStepResult.{LastStepResult}
use Rattle.job_reports.specs.declared.stop.Stop.{Stop}
use Rattle.job_reports.specs.CallRuns.{AllDone, RunStops, HasMore}
use Rattle.job_reports.specs.Stops.{calls_made_for, out_of_memory_at, refusal_in}
use Rattle.copy_folders.specs.declared.stage.Stage.{Stage}
use Rattle.copy_folders.specs.declared.stage.Stage.TheVariants.{Make, Fill, Close, Done}
use Rattle.copy_folders.specs.declared.stage.NamesState.{NamesState}
use Rattle.copy_folders.specs.declared.stage.NamesState.TheVariants.{Synced, Dirty}
use Rattle.copy_folders.specs.declared.stage.FolderDid.{FolderDid}
use Rattle.copy_folders.specs.declared.stage.FolderDid.TheVariants.{Made, Set, Barrier, Closed, Troubled}
use Rattle.copy_folders.specs.declared.work.AfterStep.{AfterStep}
use Rattle.copy_folders.specs.FolderCopying.{FolderCopying, IsSound, Tells, at_barrier}
use Rattle.copy_folders.specs.FolderCopying.{folder_mode, skipped_stage, steps_left}

-- the call that comes next where the copy stands, if there is one
abbrev pub next_call : Route → Stage → NamesState → List Call
next_call target (Make mode) names = MakeFolder target (folder_mode mode) ∷ []
next_call target (Close (Some mode)) names = SetMode target mode ∷ []
next_call target (Close None) Dirty = SyncFolder target ∷ []
next_call target (Close None) Synced = []
next_call target (Fill owed) names = []
next_call target Done names = []

-- A report of work has made the call that came next, and no other; a trouble is the refusal of this call,
-- or there was no memory, and it wasn't made.
abbrev pub FolderCalls : FolderCopying → FolderDid → CallLog → Option CallLog → Type 0
FolderCalls c (Troubled trouble) log after =
    RunStops (next_call c.target c.stage c.names) trouble.cause trouble.path log after
FolderCalls c (Made path) log after = AllDone log (next_call c.target c.stage c.names) after
FolderCalls c (Set path) log after = AllDone log (next_call c.target c.stage c.names) after
FolderCalls c Barrier log after = AllDone log (next_call c.target c.stage c.names) after
FolderCalls c Closed log after = after ≡ Some log

-- the report says that the device failed
abbrev pub IsFault : FolderDid → Type 0
IsFault (Troubled trouble) = trouble.cause ≡ Tree refused.Fault
IsFault (Made path) = ⊥
IsFault (Set path) = ⊥
IsFault Barrier = ⊥
IsFault Closed = ⊥

-- all but a trouble leaves fewer steps to be made
abbrev pub Falls : FolderDid → FolderCopying → FolderCopying → Type 0
Falls (Troubled trouble) old new = ⊤
Falls did old new = steps_left new.stage new.names < steps_left old.stage old.names

-- A step at a folder: what it reports is allowed, the copy is then as it says, it made the call of the tree
-- that it says, and it reports a fault only where the tree's count has risen.
pub record StepsOn (old new : FolderCopying) (did : FolderDid) (calls : ℕ) (before after : Option CallLog)
    (faults faults_after : ℕ) : Type 0 where
  pub tells : Tells old did new
  pub called : IfKnown before (λ log. FolderCalls old did log after)
  pub counted : IfKnown before (λ log. IfKnown after (HasMore log calls))
  pub few : calls ≤ 1
  pub unknown : before ≡ None → after ≡ None
  pub later : faults ≤ faults_after
  pub fault : IsFault did → HasRisen faults faults_after
  pub falls : Falls did old new

-- a sync is the step of a folder at its end, and of one that is filled, too
abbrev pub at_sync : FolderCopying → FolderCopying
at_sync c = record c { stage = Close None; names = Dirty }

-- A step that says where it left the copy: the copy then is sound.
pub record MovesOn (old : FolderCopying) (moved : AfterStep) (before after : Option CallLog)
    (faults faults_after : ℕ) : Type 0 where
  pub steps : StepsOn old (record old { stage = moved.stage; names = moved.names }) moved.did moved.calls
      before after faults faults_after
  pub sound : IsSound moved.stage

-- a trouble leaves the copy where it stood
abbrev pub moved_by : Stop → Stage → NamesState → AfterStep
moved_by stop stage names =
    record { did = Troubled stop.trouble; calls = stop.calls; stage = stage; names = names }

-- a skip reports the source as skipped, or that there is no memory for the report,
-- and then it changes nothing
abbrev pub Skips : Cause → FolderCopying → Did → FolderCopying → Type 0
Skips cause old did new =
    ((did ≡ report.Skipped old.source cause) × (new ≡ record old { stage = skipped_stage old.stage }))
    ⊎ ((did ≡ report.Troubled (out_of_memory_at (at_barrier old.stage))) × (new ≡ old))

-- The folder's sync was tried, whatever it answered: the refusal is told, and a fault only where
-- the tree's count has risen.
pub record SyncTried (old : FolderCopying) (last : LastStepResult) (new : FolderCopying)
    (before after : Option CallLog) (faults faults_after : ℕ) : Type 0 where
  pub did : last.did ≡ report.Barrier
  pub stands : new ≡ record old { names = Synced }
  pub answered : (answer : Result (Unit {0}) TreeError) × (last.calls ≡ calls_made_for answer)
      × (last.left ≡ refusal_in answer)
      × IfKnown before (λ log. Performs {A = Unit {0}} log (SyncFolder old.target) answer after)
  pub unknown : before ≡ None → after ≡ None
  pub later : faults ≤ faults_after
  pub fault : last.left ≡ Some refused.Fault → HasRisen faults faults_after
