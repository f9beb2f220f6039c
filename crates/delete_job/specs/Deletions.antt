-- The deletion of a thing with all that lies in it, as the history of its job tells of it: what a step may
-- report where the deletion stands, and where it stands then; and what a report says of the tree's calls.
-- What it is to remove next is said in Standing.
use Rattle.std.specs.Prelude.{◌≡◌, ◌⊎◌, ℕ, true, false, List, Option, Some, None, Result, Ok, Err}
use Rattle.mc_text.specs.Routes.{Route, is_prefix}
use Rattle.tree_trait.specs.Calls.{RemoveFile, RemoveFolder, SyncFolder}
use Rattle.tree_trait.specs.Change.{CallLog}
use Rattle.tree_trait.specs.Answers.{IfKnown, Performs}
use Rattle.tree_trait.specs.declared.calls.TreeError.{TreeError}
use Rattle.job_reports.specs.declared.report.Ending.{Ending}
use Rattle.job_reports.specs.declared.report.Ending.TheVariants.{Finished}
use Rattle.job_reports.specs.declared.report.Did.{Did}
use Rattle.job_reports.specs.declared.report.Did.TheVariants.{Removed, Kept, Skipped}
use Rattle.job_reports.specs.declared.report.Did.TheVariants.{Barrier, Troubled, Ended}
use Rattle.job_reports.specs.Paths.{folder_of, without}
use Rattle.job_reports.specs.Stops.{cause_of, out_of_memory_at, sync_answer}
use Rattle.job_answers.specs.Skipping.{holds, kind_in}
use Rattle.job_answers.specs.declared.replies.Replies.{Replies}
use Rattle.tree_walk.specs.Places.{Place, unopened_walk}
use Rattle.delete_job.specs.declared.deletion.Depth.{Depth}
use Rattle.delete_job.specs.declared.deletion.Depth.TheVariants.{Top}
use Rattle.delete_job.specs.declared.deletion.Stage.{Stage}
use Rattle.delete_job.specs.declared.deletion.Stage.TheVariants.{Begin, Going, Sync}
use Rattle.delete_job.specs.declared.deletion.Deletion.{Deletion}
use Rattle.job_unsynced.specs.Folders.{IsOwn, NoneOf, joined_folders}
use Rattle.delete_job.specs.Standing.{after_item, at_barrier, rank_of}

-- a deletion as it stands
pub record Deleting : Type 0 where
  pub path : Route
  pub stage : Stage
  pub depth : Depth
  pub place : Place
  -- in last steps those dirty folders were tried that stand before this place
  pub tried : ℕ

-- a deletion just begun
abbrev pub begun_deletion : Route → Deleting
begun_deletion path = record { path = path; stage = Begin; depth = Top; place = unopened_walk; tried = 0 }

-- the machine of it, with room for so many folders more
abbrev pub machine_of : Deleting → ℕ → Deletion
machine_of d spare = record {
  path = d.path;
  folder = folder_of d.path;
  stage = d.stage;
  depth = d.depth;
  walk = record { place = d.place; spare = spare };
}

-- how many things are left at most
abbrev pub left_in : Deleting → ℕ
left_in d = rank_of d.stage d.depth d.place

-- the same deletion at this stage, wherever its walk stands
pub record IsAtStage (d : Deleting) (stage : Stage) (new : Deleting) : Type 0 where
  pub path_is : new.path ≡ d.path
  pub stage_is : new.stage ≡ stage
  pub tried_is : new.tried ≡ d.tried

-- What a step may report that goes on, and where the deletion stands then. What is removed is the thing, or
-- lies in it; what is passed over is in a trouble of a kind to which `Skip all` was answered.
abbrev pub Tells : Replies → Deleting → Did → Deleting → Type 0
Tells replies d (Removed path) new = (at_barrier d.stage ≡ false) × (is_prefix d.path path ≡ true)
    × IsAtStage d (after_item d.path path Going) new
Tells replies d (Kept path) new =
    (at_barrier d.stage ≡ false) × IsAtStage d (after_item d.path path d.stage) new
Tells replies d (Skipped path cause) new = (at_barrier d.stage ≡ false)
    × (holds replies.skips (kind_in cause) ≡ true) × IsAtStage d (after_item d.path path d.stage) new
Tells replies d (Troubled trouble) new = (trouble.barrier ≡ at_barrier d.stage) × IsAtStage d d.stage new
Tells replies d Barrier new = (d.stage ≡ Sync) × IsAtStage d d.stage new
Tells replies d (Ended Finished part) new = (d.stage ≡ Sync) × (part ≡ None) × IsAtStage d d.stage new
Tells replies d did new = ⊥

-- What a last step may report: a sync that is owed is tried once, and the job ends as it was ordered.
abbrev pub Winds : Ending → Deleting → Did → Deleting → Type 0
Winds ending d Barrier new = (new.path ≡ d.path) × (new.stage ≡ d.stage)
Winds ending d (Ended how part) new =
    (how ≡ ending) × (part ≡ None) × (new.path ≡ d.path) × (new.stage ≡ d.stage)
Winds ending d did new = ⊥

-- a removal, or a sync, was refused
pub data IsRefused (log : CallLog) (e : TreeError) (after : Option CallLog) : Type 0 where
  RefusedFile : (path : Route) → Performs {A = Unit {0}} log (RemoveFile path) (Err e) after
      → IsRefused log e after
  RefusedFolder : (path : Route) → Performs {A = Unit {0}} log (RemoveFolder path) (Err e) after
      → IsRefused log e after
  RefusedSync : (folder : Route) → Performs {A = Unit {0}} log (SyncFolder folder) (Err e) after
      → IsRefused log e after

-- What a step says of the tree's calls. A removal and a sync were done; a trouble is the refusal of a
-- call, or comes before it, and so it is with one that is passed over, or for whose report there is no
-- memory; an end makes no call.
abbrev pub DeletionCalls : Did → CallLog → Option CallLog → Type 0
DeletionCalls (Removed path) log after = Performs {A = Unit {0}} log (RemoveFile path) (Ok tt) after
    ⊎ Performs {A = Unit {0}} log (RemoveFolder path) (Ok tt) after
DeletionCalls (Kept path) log after = after ≡ Some log
DeletionCalls (Skipped path cause) log after =
    (after ≡ Some log) ⊎ ((e : TreeError) × (cause ≡ cause_of e) × IsRefused log e after)
DeletionCalls (Troubled trouble) log after =
    (after ≡ Some log) ⊎ ((e : TreeError)
    × ((trouble.cause ≡ cause_of e) ⊎ (trouble ≡ out_of_memory_at false)) × IsRefused log e after)
DeletionCalls Barrier log after =
    (folder : Route) × Performs {A = Unit {0}} log (SyncFolder folder) (Ok tt) after
DeletionCalls (Ended ending part) log after = after ≡ Some log
DeletionCalls did log after = ⊥

-- What a last step says of the tree's calls: the sync was tried, whatever it answered.
abbrev pub LastCalls : Did → CallLog → Option CallLog → Type 0
LastCalls Barrier log after = (folder : Route) × (answer : Result (Unit {0}) TreeError)
    × Performs {A = Unit {0}} log (SyncFolder folder) answer after
LastCalls (Ended ending part) log after = after ≡ Some log
LastCalls did log after = ⊥

-- What a step makes of the dirty folders. That of a removed name joins them, and a folder that is gone
-- itself leaves them; one that was synced leaves them; and a deletion is finished only where none is left
-- that it may have changed.
abbrev pub DeletionLeaves : Deleting → Did → List Route → List Route → Option CallLog
    → Option CallLog → Type 0
DeletionLeaves d (Removed path) dirty dirty_after before after =
    ((dirty_after ≡ joined_folders (folder_of path) dirty)
    × IfKnown before (λ log. Performs {A = Unit {0}} log (RemoveFile path) (Ok tt) after))
    ⊎ ((dirty_after ≡ without path (joined_folders (folder_of path) dirty))
    × IfKnown before (λ log. Performs {A = Unit {0}} log (RemoveFolder path) (Ok tt) after))
DeletionLeaves d Barrier dirty dirty_after before after =
    (folder : Route) × IsOwn (folder_of d.path) d.path dirty folder × (dirty_after ≡ without folder dirty)
    × IfKnown before (λ log. Performs {A = Unit {0}} log (SyncFolder folder) (Ok tt) after)
DeletionLeaves d (Ended ending part) dirty dirty_after before after =
    NoneOf (folder_of d.path) d.path dirty × (dirty_after ≡ dirty)
DeletionLeaves d did dirty dirty_after before after = dirty_after ≡ dirty

-- what a last step tells of the folder that it tried: the refusal of its sync, if that was in vain
abbrev pub TellsTried : Did → Option TreeError → Route → CallLog → Option CallLog → Type 0
TellsTried Barrier left folder log after =
    Performs {A = Unit {0}} log (SyncFolder folder) (sync_answer left) after
TellsTried did left folder log after = left ≡ None
