-- What a step of a deletion reports, where the deletion stands then, and what it says of the tree's calls.
use Rattle.std.specs.Prelude.{◌≡◌, ◌⊎◌, ℕ, ◌<◌, ◌≤◌, ⊤, Bool, true, false, List}
use Rattle.std.specs.Prelude.{length, Option, Some, None, Ok, Err, ◌+◌, slice_get}
use Rattle.mc_text.specs.Routes.{Route, spelled_route}
use Rattle.tree_trait.specs.declared.calls.TreeError.{TreeError}
use Rattle.tree_trait.specs.declared.calls.TreeError.TheVariants.{Fault}
use Rattle.tree_trait.specs.Calls.{Call, RemoveFile, RemoveFolder, SyncFolder}
use Rattle.tree_trait.specs.declared.file_system.FileSystem.{FileSystem}
use Rattle.tree_trait.specs.FileSystem.{node}
use Rattle.tree_trait.specs.Refusals.{is_folder}
use Rattle.tree_trait.specs.Change.{CallLog, current, found_node}
use Rattle.tree_trait.specs.Answers.{IfKnown, HasRisen, Performs}
use Rattle.job_reports.specs.declared.report.Cause.{Cause}
use Rattle.job_reports.specs.declared.report.Ending.{Ending}
use Rattle.job_reports.specs.declared.report.Ending.TheVariants.{Finished}
use Rattle.job_reports.specs.declared.report.StepResult.{StepResult}
use Rattle.job_reports.specs.declared.report.Did.{Did}
use Rattle.job_reports.specs.declared.report.Did.TheVariants.{Removed, Kept, Skipped}
use Rattle.job_reports.specs.declared.report.Did.TheVariants.{Barrier, Troubled, Ended}
use Rattle.job_reports.specs.CallRuns.{HasMore}
use Rattle.job_reports.specs.Paths.{folder_of, without}
use Rattle.job_reports.specs.Reports.{IsFault}
use Rattle.job_reports.specs.Stops.{out_of_memory_at, sync_answer, trouble_at}
use Rattle.delete_job.specs.declared.deletion.Deletion.{Deletion}
use Rattle.delete_job.specs.declared.deletion.Stage.TheVariants.{Going}
use Rattle.delete_job.specs.Standing.{DeletionItem, Thing, End, Decides, IsDone, Leaves, after_item}
use Rattle.delete_job.specs.Standing.{at_barrier, item, rank_at, things_left, worked_folder}
use Rattle.tree_walk.specs.Places.{Place}
use Rattle.delete_job.specs.declared.deletion.Depth.{Depth}
use Rattle.delete_job.specs.Descending.{Descends, Enters, IsAt, MayLook, StopsAt}
use Rattle.job_unsynced.specs.Folders.{IsOwn, IsOwnAt, NoneBetween, NoneOf, joined_folders}

-- the call that removes an item
abbrev pub removal_of : DeletionItem → Call
removal_of (Thing path) = RemoveFile path
removal_of (End folder) = RemoveFolder folder

abbrev pub path_of : DeletionItem → Route
path_of (Thing path) = path
path_of (End folder) = folder

-- something in the folder that ends was left
abbrev pub IsSpared : DeletionItem → Bool → Type 0
IsSpared (Thing path) spared = ⊥
IsSpared (End folder) spared = spared ≡ true

-- nothing was
abbrev pub IsBare : DeletionItem → Bool → Type 0
IsBare (Thing path) spared = ⊤
IsBare (End folder) spared = spared ≡ false

-- What a step reports that works on what was taken up, and where the deletion stands then: it is gone, a
-- folder in which something was left stays, or it can't be gone on with.
abbrev pub Works : Deletion → Did → Deletion → Type 0
Works d (Removed path) new =
    (path ≡ path_of (item d)) × IsBare (item d) d.walk.place.inner.spared × Decides d false path Going new
Works d (Kept path) new =
    (path ≡ path_of (item d)) × IsSpared (item d) d.walk.place.inner.spared × Decides d true path d.stage new
Works d (Troubled trouble) new = (trouble.barrier ≡ false) × IsAt d new
Works d did new = ⊥

-- a thing that is to be removed was looked at, and is no folder
abbrev pub IsSeen : FileSystem → Depth → Place → DeletionItem → Type 0
IsSeen s depth place (Thing path) =
    MayLook depth place path × (is_folder (node s (found_node s path)) ≡ false)
IsSeen s depth place (End folder) = ⊤

-- What it says of the tree's calls: a removal was done; a trouble is its refusal, or comes before
-- it; what stays makes none.
abbrev pub WorkCalls : Deletion → Did → CallLog → Option CallLog → Type 0
WorkCalls d (Removed path) log after = IsSeen (current log) d.depth d.walk.place (item d)
    × Performs {A = Unit {0}} log (removal_of (item d)) (Ok tt) after
WorkCalls d (Kept path) log after = after ≡ Some log
WorkCalls d (Troubled trouble) log after =
    ((after ≡ Some log) × StopsAt (current log) d trouble.cause trouble.path)
    ⊎ ((e : TreeError) × (trouble ≡ trouble_at e (path_of (item d)) false) × IsSeen (current log) d.depth
    d.walk.place (item d) × Performs {A = Unit {0}} log (removal_of (item d)) (Err e) after)
WorkCalls d did log after = ⊥

-- What it makes of the dirty folders: that of a removed thing is one of them, and a
-- folder that is gone is not.
abbrev pub RemovalLeaves : DeletionItem → Route → List Route → List Route → Type 0
RemovalLeaves (Thing thing) path folders after = after ≡ joined_folders (folder_of path) folders
RemovalLeaves (End folder) path folders after = after ≡ without path (joined_folders (folder_of path) folders)

abbrev pub WorkLeaves : DeletionItem → Did → List Route → List Route → Type 0
WorkLeaves item (Removed path) folders after = RemovalLeaves item path folders after
WorkLeaves item did folders after = after ≡ folders

-- What works on an item comes to: its report, the deletion then, the calls that were made, at most one, and
-- the dirty folders. It reports a fault only where the tree's count has risen.
pub record Working (old new : Deletion) (did : Did) (calls : ℕ) (folders folders_after : List Route)
    (before after : Option CallLog) (faults faults_after : ℕ) : Type 0 where
  pub works : Works old did new
  pub called : IfKnown before (λ log. WorkCalls old did log after)
  pub leaves : WorkLeaves (item old) did folders folders_after
  pub counted : IfKnown before (λ log. IfKnown after (HasMore log calls))
  pub few : calls ≤ 1
  pub unknown : before ≡ None → after ≡ None
  pub later : faults ≤ faults_after
  pub fault : IsFault did → HasRisen faults faults_after

-- a thing was decided
abbrev pub IsProgress : Did → Bool
IsProgress (Removed path) = true
IsProgress (Kept path) = true
IsProgress did = false

-- A step that works: it goes down to an item, with no change of the tree, and works on that; no more things
-- are left then, and where it decides fewer.
pub record WorkSteps (old new : Deletion) (did : Did) (calls : ℕ) (folders folders_after : List Route)
    (before after : Option CallLog) (faults faults_after : ℕ) : Type 0 where
  pub entered : List Route
  pub mid : Deletion
  pub descends : Descends before old entered mid
  pub working : Working mid new did calls folders folders_after before after faults faults_after
  pub falls : IsProgress did ≡ true → things_left new < things_left old
  pub no_more : things_left new ≤ things_left old

-- The next piece of a step: a folder is gone into, and then fewer things are left to be
-- met; or it works on an item.
abbrev pub Advances : Deletion → Deletion → Option StepResult → List Route → List Route → Option CallLog
    → Option CallLog → ℕ → ℕ → Type 0
Advances old new None folders folders_after before after faults faults_after =
    ((folder : Route) × Enters before old folder new)
    × (rank_at new.depth new.walk.place < rank_at old.depth old.walk.place)
    × (folders_after ≡ folders) × (after ≡ before) × (faults ≤ faults_after)
Advances old new (Some stepped) folders folders_after before after faults faults_after =
    (mid : Deletion) × IsAt old mid
    × Working mid new stepped.did stepped.calls folders folders_after before after faults faults_after

-- all but the place of the walk
pub record KeepsRest (old new : Deletion) : Type 0 where
  pub depth_is : new.depth ≡ old.depth
  pub stage_is : new.stage ≡ old.stage
  pub path_is : new.path ≡ old.path
  pub folder_is : new.folder ≡ old.folder

-- what was taken up is gone, or was left
abbrev pub Passes : Bool → Deletion → Deletion → Type 0
Passes left old new = IsDone old.depth (item old) left old.walk.place new.walk.place × KeepsRest old new

abbrev pub IsThing : DeletionItem → Type 0
IsThing (Thing path) = ⊤
IsThing (End folder) = ⊥

-- the folder that is worked is left with all that is left in it
pub record LeavesFolder (path : Route) (old new : Deletion) : Type 0 where
  pub path_is : path ≡ worked_folder old.path old.walk.place
  pub place : Leaves true old.walk.place new.walk.place
  pub rest : KeepsRest old new

-- the path of what is taken up is too long to be told
pub record IsTooLong (d : Deletion) : Type 0 where
  pub path : Route
  pub takes : item d ≡ Thing path
  pub bytes : 4096 < length (spelled_route path)

-- what is taken up is left; where its path is too long, the folder in which it lies
abbrev pub TakesOff : Route → Deletion → Deletion → Type 0
TakesOff path old new =
    ((path ≡ path_of (item old)) × Passes true old new) ⊎ (IsTooLong old × LeavesFolder path old new)

-- the report of what was left, and where the deletion stands then; or that there was no memory for it
abbrev pub Skips : Cause → Deletion → Did → Deletion → Type 0
Skips cause old did new =
    ((path : Route) × (did ≡ Skipped path cause) × ((mid : Deletion) × TakesOff path old mid
    × (new ≡ record mid { stage = after_item old.path path old.stage })))
    ⊎ ((did ≡ Troubled (out_of_memory_at (at_barrier old.stage))) × (new ≡ old))

-- A step that syncs: a folder that this deletion changed is on the disk, or that was refused; where
-- there is none it is finished.
abbrev pub Syncs : Deletion → Did → List Route → List Route → Option CallLog → Option CallLog → Type 0
Syncs d Barrier folders folders_after before after =
    (folder : Route) × IsOwn d.folder d.path folders folder × (folders_after ≡ without folder folders)
    × IfKnown before (λ log. Performs {A = Unit {0}} log (SyncFolder folder) (Ok tt) after)
Syncs d (Troubled trouble) folders folders_after before after =
    (e : TreeError) × (folder : Route) × IsOwn d.folder d.path folders folder
    × (trouble ≡ trouble_at e folder true) × (folders_after ≡ folders)
    × IfKnown before (λ log. Performs {A = Unit {0}} log (SyncFolder folder) (Err e) after)
Syncs d (Ended ending part) folders folders_after before after =
    (ending ≡ Finished) × (part ≡ None) × NoneOf d.folder d.path folders × (folders_after ≡ folders)
    × (after ≡ before)
Syncs d did folders folders_after before after = ⊥

-- The same, with the calls that were made, at most one; a fault is reported only where
-- the tree's count has risen.
pub record SyncSteps (d : Deletion) (did : Did) (calls : ℕ) (folders folders_after : List Route)
    (before after : Option CallLog) (faults faults_after : ℕ) : Type 0 where
  pub syncs : Syncs d did folders folders_after before after
  pub counted : IfKnown before (λ log. IfKnown after (HasMore log calls))
  pub few : calls ≤ 1
  pub unknown : before ≡ None → after ≡ None
  pub later : faults ≤ faults_after
  pub fault : IsFault did → HasRisen faults faults_after

-- what is left of the folders once this one was tried, and from where on they are yet to be tried
abbrev pub after_try : Option TreeError → Route → List Route → List Route
after_try None folder folders = without folder folders
after_try (Some e) folder folders = folders

abbrev pub next_try : Option TreeError → ℕ → ℕ
next_try None at = at
next_try (Some e) at = at + 1

-- A last step: the next folder that this deletion changed, from this one on, was tried once; where there is
-- none, it ends as it was ordered. It tells the refusal of a try in vain.
abbrev pub Tries : Ending → Deletion → ℕ → ℕ → Did → Option TreeError → List Route → List Route
    → Option CallLog → Option CallLog → Type 0
Tries ending d from next Barrier left folders folders_after before after =
    (at : ℕ) × (folder : Route) × IsOwnAt d.folder d.path folders from at
    × (slice_get folders at ≡ Some folder) × (folders_after ≡ after_try left folder folders)
    × (next ≡ next_try left at)
    × IfKnown before (λ log. Performs {A = Unit {0}} log (SyncFolder folder) (sync_answer left) after)
Tries ending d from next (Ended how part) left folders folders_after before after =
    NoneBetween d.folder d.path folders from (length folders)
    × (how ≡ ending) × (part ≡ None) × (left ≡ None) × (folders_after ≡ folders) × (next ≡ from)
    × (after ≡ before)
Tries ending d from next did left folders folders_after before after = ⊥

pub record LastSteps (ending : Ending) (d : Deletion) (from next : ℕ) (did : Did)
    (calls : ℕ) (left : Option TreeError) (folders folders_after : List Route) (before after : Option CallLog)
    (faults faults_after : ℕ) : Type 0 where
  pub tries : Tries ending d from next did left folders folders_after before after
  pub counted : IfKnown before (λ log. IfKnown after (HasMore log calls))
  pub few : calls ≤ 1
  pub unknown : before ≡ None → after ≡ None
  pub later : faults ≤ faults_after
  pub fault : left ≡ Some Fault → HasRisen faults faults_after
