-- Folders in which jobs changed names, and things that were given a mode, which no sync has brought onto
-- the disk yet: what jobs leave there, and how a later job syncs them before it changes anything there, or
-- on a mount that begins below it.
use Rattle.std.specs.Prelude.{◌≡◌, ◌⊎◌, Bool, true, false, ◌||◌, List, Option, Some, None}
use Rattle.std.specs.Option.{option_map_or}
use Rattle.mc_text.specs.Routes.{Route, is_prefix, same_path}
use Rattle.tree_trait.specs.declared.file_system.FileSystem.{FileSystem}
use Rattle.tree_trait.specs.declared.calls.TreeError.{TreeError}
use Rattle.tree_trait.specs.declared.calls.TreeError.TheVariants.{Missing}
use Rattle.tree_trait.specs.Calls.{Stat}
use Rattle.tree_trait.specs.FileSystem.{node}
use Rattle.tree_trait.specs.Change.{CallLog, found_node}
use Rattle.tree_trait.specs.Refusals.{is_folder, refusal_of}
use Rattle.tree_trait.specs.CrashImages.{Among}
use Rattle.job_reports.specs.declared.report.Did.{Did}
use Rattle.job_reports.specs.Paths.{folder_of}
use Rattle.copy_move.specs.declared.work.Work.{Work}
use Rattle.copy_move.specs.declared.work.Work.TheVariants.{Copy, Delete, Make, Move, SetMode, RemoveEmptied}
use Rattle.copy_job.specs.LastCalls.{TellsTried as TellsTreeTried}
use Rattle.copy_job.specs.Reporting.{ChangesOwn}
use Rattle.copy_job.specs.Standing as tree
use Rattle.job_unsynced.specs.Folders.{is_of}
use Rattle.job_unsynced.specs.Folders as folders
use Rattle.delete_job.specs.Deletions.{DeletionLeaves, TellsTried}
use Rattle.make_job.specs.Makings.{MakingLeaves}
use Rattle.make_job.specs.Makings as makings
use Rattle.move_job.specs.Movings.{MovingLeaves, owed_folder, with_moves}
use Rattle.emptied_job.specs.Removals.{RemovalLeaves}
use Rattle.emptied_job.specs.Removals as removals
use Rattle.mode_job.specs.ModeSettings.{SettingLeaves}
use Rattle.mode_job.specs.Settings as settings
use Rattle.copy_move.specs.MountNumbers.{LiesOff}

-- the folder that holds what a job places, removes, or gives a mode; of a move that of the target, which a
-- renaming finds on the mount of the other
abbrev pub changed_folder : Work → Route
changed_folder (Copy c) = folder_of c.top.target
changed_folder (Delete d) = folder_of d.path
changed_folder (Make m) = folder_of m.path
changed_folder (Move m) = folder_of m.pair.target
changed_folder (SetMode s) = folder_of s.path
changed_folder (RemoveEmptied r) = folder_of r.path

-- a folder in which a job may change names: of a deletion also the thing itself, and what lies in it, and
-- so of the target of a copy, and of both paths of a move; or the thing to which a job gives a mode
abbrev pub is_own : Work → Route → Bool
is_own (Copy c) kept = tree.is_own c kept
is_own (Delete d) kept = is_of (folder_of d.path) d.path kept
is_own (Make m) kept = same_path kept (folder_of m.path)
is_own (Move m) kept =
    is_of (folder_of m.pair.source) m.pair.source kept || is_of (folder_of m.pair.target) m.pair.target kept
is_own (SetMode s) kept = same_path kept s.path
is_own (RemoveEmptied r) kept = same_path kept (folder_of r.path)

-- the folder that something leaves: of a move the source's, of all else the one that is changed
abbrev pub left_folder : Work → Route
left_folder (Copy c) = folder_of c.top.target
left_folder (Delete d) = folder_of d.path
left_folder (Make m) = folder_of m.path
left_folder (Move m) = folder_of m.pair.source
left_folder (SetMode s) = folder_of s.path
left_folder (RemoveEmptied r) = folder_of r.path

-- What is dirty here is owed on whatever mount it lies: at the thing that is removed or moved, or in it;
-- and before a mode is set all is, since the mode of a folder may bar the way to what lies in it. Where
-- something is copied to nothing stands yet.
abbrev pub is_owed_anywhere : Work → Route → Bool
is_owed_anywhere (Copy c) kept = false
is_owed_anywhere (Delete d) kept = is_prefix d.path kept
is_owed_anywhere (Make m) kept = false
is_owed_anywhere (Move m) kept = is_prefix m.pair.source kept
is_owed_anywhere (SetMode s) kept = true
is_owed_anywhere (RemoveEmptied r) kept = is_prefix r.path kept

-- what is moved
abbrev pub moved_thing : Work → Option Route
moved_thing (Copy c) = None
moved_thing (Delete d) = None
moved_thing (Make m) = None
moved_thing (Move m) = Some m.pair.source
moved_thing (SetMode s) = None
moved_thing (RemoveEmptied r) = None

-- it is a folder (where nothing stands there this says so, too, and then nothing is moved)
abbrev pub moves_folder : FileSystem → Work → Bool
moves_folder s work =
    option_map_or (λ source. is_folder (node s (found_node s source))) (moved_thing work) false

-- the folder of a new thing, or a thing that is given a mode, joins the dirty ones with its first change,
-- and leaves them with its sync
abbrev pub with_change : Bool → Bool → Route → List Route → List Route
with_change was now folder dirty = folders.with_change was now folder dirty

-- what a step of a job's own work makes of the dirty folders
abbrev pub WorkLeaves : Work → Did → Work → List Route → List Route → Option CallLog → Option CallLog → Type 0
WorkLeaves (Copy c) did (Copy new) dirty dirty_after before after = ChangesOwn c did dirty dirty_after
WorkLeaves (Delete d) did (Delete new) dirty dirty_after before after =
    DeletionLeaves d did dirty dirty_after before after
WorkLeaves (Make m) did (Make new) dirty dirty_after before after =
    dirty_after ≡ with_change (makings.is_dirty m.stage) (makings.is_dirty new.stage) (folder_of m.path) dirty
WorkLeaves (Move m) did (Move new) dirty dirty_after before after =
    dirty_after ≡ with_moves m.stage new.stage m.pair dirty
WorkLeaves (SetMode s) did (SetMode new) dirty dirty_after before after =
    dirty_after ≡ with_change (settings.is_dirty s.stage) (settings.is_dirty new.stage) s.path dirty
WorkLeaves (RemoveEmptied r) did (RemoveEmptied new) dirty dirty_after before after =
    dirty_after ≡ with_change (removals.is_dirty r.stage) (removals.is_dirty new.stage)
    (folder_of r.path) dirty
WorkLeaves old did new dirty dirty_after before after = ⊥

-- what a last step tells of the folder, or the thing, that it tried: the refusal of its
-- sync, if that was in vain
abbrev pub TellsFolder : Work → Did → Option TreeError → Route → CallLog → Option CallLog → Type 0
TellsFolder (Copy c) did left folder log after =
    TellsTreeTried (tree.part_of c.at.item) did left folder log after
TellsFolder (Delete d) did left folder log after = TellsTried did left folder log after
TellsFolder (Make m) did left folder log after = MakingLeaves m did left log after
TellsFolder (Move m) did left folder log after = (folder ≡ owed_folder m) × MovingLeaves m did left log after
TellsFolder (SetMode s) did left folder log after = SettingLeaves s did left log after
TellsFolder (RemoveEmptied r) did left folder log after = RemovalLeaves r did left log after

-- What is dirty isn't owed by a job before its first change: it was removed; or it isn't owed on any mount,
-- and lies on another one than the folders of what the job places, moves or removes, and than each on the
-- way to them, since a folder on the way may be one that was moved there.
abbrev pub IsElsewhere : FileSystem → Work → Route → Type 0
IsElsewhere s work kept =
    (refusal_of s (Stat kept) ≡ Some Missing) ⊎ ((is_owed_anywhere work kept ≡ false)
    × LiesOff s (changed_folder work) kept × LiesOff s (left_folder work) kept)

-- nothing that is dirty is owed by a job before its first change
abbrev pub NoneOwed : FileSystem → Work → List Route → Type 0
NoneOwed s work dirty = (kept : Route) → Among dirty kept → IsElsewhere s work kept

-- what is dirty was removed, where a folder is to be moved
abbrev pub IsGoneForFolder : FileSystem → Work → Route → Type 0
IsGoneForFolder s work kept = moves_folder s work ≡ true → refusal_of s (Stat kept) ≡ Some Missing

-- before a folder is moved nothing that stands is dirty, on whatever mount: so it is before any mode is set
abbrev pub NoneForFolder : FileSystem → Work → List Route → Type 0
NoneForFolder s work dirty = (kept : Route) → Among dirty kept → IsGoneForFolder s work kept
