-- The last steps of a copy that is to end: its part is removed, if it can be, the folder's
-- sync is tried, and it ends.
use Rattle.std.specs.Prelude.{◌≡◌, ℕ, ◌+◌, ◌<◌, ◌≤◌, ⊤, [], ◌∷◌, Option, Some, None, Result, Err}
use Rattle.mc_text.specs.Routes.{Route}
use Rattle.tree_trait.specs.declared.calls.TreeError.{TreeError}
use Rattle.tree_trait.specs.declared.calls.TreeError.TheVariants.{Fault}
use Rattle.tree_trait.specs.Calls.{RemoveFile, SyncFolder}
use Rattle.tree_trait.specs.Change.{CallLog}
use Rattle.tree_trait.specs.Answers.{IfKnown, HasRisen, Performs}
use Rattle.job_reports.specs.declared.report.Ending.{Ending}
use Rattle.job_reports.specs.declared.report.Did.{Did}
use Rattle.job_reports.specs.declared.report.Did.TheVariants.{Began, Chunk, Placed, Removed, Made}
use Rattle.job_reports.specs.declared.report.Did.TheVariants.{Set, Kept, Skipped, Cleaned, Barrier}
use Rattle.job_reports.specs.declared.report.Did.TheVariants.{Asked, Merges, Moved, Troubled, Ended}
use Rattle.job_reports.specs.Stops.{IsTried, refusal_in, sync_answer, calls_made_for}
use Rattle.copy_file.specs.declared.stage.Stage.{Stage}
use Rattle.copy_file.specs.declared.stage.Stage.TheVariants.{Begin, Fill, Clean, Left, Decided}
use Rattle.copy_file.specs.declared.stage.FolderState.{FolderState}
use Rattle.copy_file.specs.declared.stage.FolderState.TheVariants.{Synced, Dirty}
use Rattle.job_reports.specs.CallRuns.{AllDone, HasMore}
use Rattle.copy_file.specs.declared.winding.AfterLastStep.{AfterLastStep}
use Rattle.copy_file.specs.Copying.{Places, Copying, copying}
use Rattle.job_reports.specs.Paths.{folder_of}

-- the part that could not be removed
abbrev pub left_at : Stage → Option Route
left_at (Left part) = Some part
left_at Begin = None
left_at (Fill part facts done) = None
left_at (Clean part follows) = None
left_at Decided = None

-- the removal of a part was tried in vain
abbrev pub given_up : Stage → Stage
given_up (Fill part facts done) = Left part
given_up (Clean part follows) = Left part
given_up Begin = Begin
given_up (Left part) = Left part
given_up Decided = Decided

-- the end names the part that stays, and the copy knows it no more
abbrev pub let_go : Stage → Stage
let_go (Left part) = Decided
let_go Begin = Begin
let_go (Fill part facts done) = Fill part facts done
let_go (Clean part follows) = Clean part follows
let_go Decided = Decided

-- the part that a last step may try to remove
abbrev pub removable : Stage → Option Route
removable (Fill part facts done) = Some part
removable (Clean part follows) = Some part
removable Begin = None
removable (Left part) = None
removable Decided = None

-- What a last step may report, and where the copy stands then: the part is removed, if it can be, the
-- folder's sync is tried, and the job ends as it was ordered.
abbrev pub Winds : Ending → Copying → Did → Copying → Type 0
Winds ending c (Cleaned part) new = (removable c.stage ≡ Some part) × (new ≡ record c { stage = Decided })
Winds ending c Barrier new =
    (c.folder ≡ Dirty) × (new ≡ record c { stage = given_up c.stage; folder = Synced })
Winds ending c (Ended how part) new =
    (removable c.stage ≡ None) × (c.folder ≡ Synced) × (how ≡ ending) × (part ≡ left_at c.stage)
    × (new ≡ record c { stage = let_go c.stage })
Winds ending c (Began part) new = ⊥
Winds ending c (Chunk count) new = ⊥
Winds ending c (Set path) new = ⊥
Winds ending c (Placed path) new = ⊥
Winds ending c (Removed path) new = ⊥
Winds ending c (Made made) new = ⊥
Winds ending c (Kept kept) new = ⊥
Winds ending c (Asked question) new = ⊥
Winds ending c (Merges transfer pair names) new = ⊥
Winds ending c (Moved pair) new = ⊥
Winds ending c (Skipped path cause) new = ⊥
Winds ending c (Troubled trouble) new = ⊥

-- the sync of the folder is tried; a part that stands was refused its removal before
abbrev pub SyncTried : Copying → Option Route → CallLog → Option CallLog → Type 0
SyncTried c None log after = IsTried log (SyncFolder (folder_of c.target)) after
SyncTried c (Some part) log after =
    (e : TreeError) × (mid : CallLog) × Performs {A = Unit {0}} log (RemoveFile part) (Err e) (Some mid)
    × IsTried mid (SyncFolder (folder_of c.target)) after

-- what a last step says of the tree's calls
abbrev pub WindCalls : Copying → Did → CallLog → Option CallLog → Type 0
WindCalls c (Cleaned path) log after = AllDone log (RemoveFile path ∷ []) after
WindCalls c Barrier log after = SyncTried c (removable c.stage) log after
WindCalls c (Ended how part) log after = after ≡ Some log
WindCalls c (Began part) log after = ⊥
WindCalls c (Chunk count) log after = ⊥
WindCalls c (Set path) log after = ⊥
WindCalls c (Placed path) log after = ⊥
WindCalls c (Removed path) log after = ⊥
WindCalls c (Made made) log after = ⊥
WindCalls c (Kept kept) log after = ⊥
WindCalls c (Asked question) log after = ⊥
WindCalls c (Merges transfer pair names) log after = ⊥
WindCalls c (Moved pair) log after = ⊥
WindCalls c (Skipped path cause) log after = ⊥
WindCalls c (Troubled trouble) log after = ⊥

-- the sync of the folder was answered so; a part that stands was refused its removal before
abbrev pub SyncAnswers : Copying → Option Route → Option TreeError → CallLog → Option CallLog → Type 0
SyncAnswers c None left log after =
    Performs {A = Unit {0}} log (SyncFolder (folder_of c.target)) (sync_answer left) after
SyncAnswers c (Some part) left log after =
    (e : TreeError) × (mid : CallLog) × Performs {A = Unit {0}} log (RemoveFile part) (Err e) (Some mid)
    × Performs {A = Unit {0}} mid (SyncFolder (folder_of c.target)) (sync_answer left) after

-- what a last step tells of the folder: the refusal of its sync, if that was tried in vain
abbrev pub TellsFolder : Copying → Did → Option TreeError → CallLog → Option CallLog → Type 0
TellsFolder c Barrier left log after = SyncAnswers c (removable c.stage) left log after
TellsFolder c did left log after = left ≡ None

-- the most last steps that a copy makes yet
abbrev pub last_steps : Stage → FolderState → ℕ
last_steps (Fill part facts done) folder = 3
last_steps (Clean part follows) folder = 3
last_steps Begin Dirty = 2
last_steps Begin Synced = 1
last_steps (Left part) Dirty = 2
last_steps (Left part) Synced = 1
last_steps Decided Dirty = 2
last_steps Decided Synced = 1

-- no report but the end leaves as many steps to be made
abbrev pub GoesDown : Did → Copying → Copying → Type 0
GoesDown (Ended how part) old new = ⊤
GoesDown did old new = last_steps new.stage new.folder < last_steps old.stage old.folder

-- A last step: what it reports is allowed, the copy is then as it says, and it made the calls that it says,
-- which it counts. It is always one of at most three. It tells the refusal of a sync that was tried in
-- vain, and a fault only where the tree's count has risen.
pub record WindsOn (ending : Ending) (old new : Copying) (did : Did) (calls : ℕ) (left : Option TreeError)
    (before after : Option CallLog) (faults faults_after : ℕ) : Type 0 where
  pub tells : Winds ending old did new
  pub called : IfKnown before (λ log. WindCalls old did log after)
  pub synced : IfKnown before (λ log. TellsFolder old did left log after)
  pub counted : IfKnown before (λ log. IfKnown after (HasMore log calls))
  pub few : calls ≤ 2
  pub unknown : before ≡ None → after ≡ None
  pub later : faults ≤ faults_after
  pub fault : left ≡ Some Fault → HasRisen faults faults_after
  pub falls : GoesDown did old new

-- the same of a step that says where it left the copy
abbrev pub WindMoves : Ending → Copying → AfterLastStep → Option CallLog → Option CallLog → ℕ → ℕ → Type 0
WindMoves ending old last_step before after faults faults_after =
    WindsOn ending old (record old { stage = last_step.stage; folder = last_step.folder }) last_step.did
    last_step.calls last_step.left before after faults faults_after

-- the end of a copy with no part to be removed
abbrev pub Ends : Ending → Stage → AfterLastStep → Type 0
Ends ending stage last_step =
    last_step ≡ record {
      did = Ended ending (left_at stage);
      calls = 0;
      left = None;
      stage = let_go stage;
      folder = Synced;
    }

-- The sync of the folder is tried where a part stays for which so many calls were made.
pub record Leaves (p : Places) (part : Route) (calls : ℕ) (last_step : AfterLastStep)
    (before after : Option CallLog) (faults faults_after : ℕ) : Type 0 where
  pub did : last_step.did ≡ Barrier
  pub stage : last_step.stage ≡ Left part
  pub folder : last_step.folder ≡ Synced
  pub tried : (answer : Result (Unit {0}) TreeError) × (last_step.calls ≡ calls + calls_made_for answer)
      × (last_step.left ≡ refusal_in answer)
      × IfKnown before (λ log. Performs {A = Unit {0}} log (SyncFolder (folder_of p.target)) answer after)
  pub unknown : before ≡ None → after ≡ None
  pub later : faults ≤ faults_after
  pub fault : last_step.left ≡ Some Fault → HasRisen faults faults_after

-- the part that a stage has is removed, or it stays and the folder's sync is tried
abbrev pub Removes : Places → Route → AfterLastStep → Option CallLog → Option CallLog → ℕ → ℕ → Type 0
Removes p part last_step before after faults faults_after =
    (ending : Ending) (stage : Stage) → removable stage ≡ Some part
    → WindMoves ending (copying p stage Dirty) last_step before after faults faults_after
