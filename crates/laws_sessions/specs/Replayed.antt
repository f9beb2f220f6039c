-- What a history makes of the tree that can be seen, parts of live jobs aside. Histories
-- stand newest first here.
use Rattle.std.specs.Prelude.{ℕ, ◌+◌, false, bit_or, if◌then◌else◌, List}
use Rattle.std.specs.Prelude.{[], ◌∷◌, length, take, Option, Some, None}
use Rattle.std.specs.Option.{option_map}
use Rattle.mc_text.specs.Routes.{Route, is_prefix}
use Rattle.mc_text.specs.declared.kind.Kind.{Kind}
use Rattle.mc_text.specs.declared.kind.Kind.TheVariants.{File, Folder, Link, Other}
use Rattle.tree_trait.specs.FileSystem.{Spot, Value, View, view_with, value_at, visible_tree}
use Rattle.tree_trait.specs.Change.{CallLog, current}
use Rattle.job_reports.specs.declared.job.Pair.{Pair}
use Rattle.job_reports.specs.declared.report.Did.{Did}
use Rattle.job_reports.specs.declared.report.Did.TheVariants.{Began, Chunk, Placed, Removed, Made}
use Rattle.job_reports.specs.declared.report.Did.TheVariants.{Set, Kept, Skipped, Cleaned, Barrier}
use Rattle.job_reports.specs.declared.report.Did.TheVariants.{Asked, Merges, Moved, Troubled, Ended}
use Rattle.session_entries.specs.Moves.{is_of_move, moved_from}
use Rattle.session_entries.specs.Named.{changed_by}
use Rattle.copy_file.specs.Copied.{copied_value}
use Rattle.session_entries.specs.declared.history.Event.{Event}
use Rattle.session_entries.specs.declared.history.Event.TheVariants.{Key, Look, Sought, Order}
use Rattle.session_entries.specs.declared.history.Event.TheVariants.{Step, Next, Closed}
use Rattle.session_entries.specs.declared.history.Event.TheVariants as event
use Rattle.session_entries.specs.declared.history.Entry.{Entry}
use Rattle.job_reports.specs.Jobs.{ItemOfJob, Copies, Moves, Removes, Makes}
use Rattle.job_reports.specs.Jobs.{MakesLink, Sets, RemovesEmptied, new_folder_mode}
use Rattle.session_entries.specs.LiveJobs.{LiveJob, live_jobs, live_item}

-- the log as it was when so many calls had been made since the opening
abbrev pub log_prefix : CallLog → ℕ → CallLog → CallLog
log_prefix opening calls now = record now { changes = take (length opening.changes + calls) now.changes }

-- the mode of what is placed as a copy of a thing: that of the thing, but a link is made with none
abbrev pub mode_placed : Kind → ℕ → ℕ
mode_placed Link mode = 0
mode_placed File mode = mode
mode_placed Folder mode = mode
mode_placed Other mode = mode

-- what is placed as a copy of a thing
abbrev pub placed_copy : Value → Value
placed_copy v = record (copied_value v) { mode = mode_placed v.kind v.mode }

-- what is placed is a copy of what stands where it comes from
abbrev pub placed_by : Option ItemOfJob → Route → View → View
placed_by (Some (Copies source target)) path v =
    view_with v path (option_map placed_copy (v (moved_from source target path)).value)
placed_by (Some (Moves source target)) path v = v
placed_by (Some (Removes file)) path v = v
placed_by (Some (Makes folder)) path v = v
placed_by (Some (MakesLink link text)) path v = v
placed_by (Some (Sets thing mode)) path v = v
placed_by (Some (RemovesEmptied folder)) path v = v
placed_by None path v = v

-- a thing with the mode of another, where there is one
abbrev pub with_mode_of : Option Value → Value → Value
with_mode_of None x = x
with_mode_of (Some from) x = record x { mode = from.mode }

-- a thing with this mode
abbrev pub with_mode : ℕ → Value → Value
with_mode mode x = record x { mode = mode }

-- a folder that was copied is given its source's mode, and a thing whose mode is set that one
abbrev pub set_by : Option ItemOfJob → Route → View → View
set_by (Some (Copies source target)) path v =
    view_with v path (option_map (with_mode_of (v (moved_from source target path)).value) (v path).value)
set_by (Some (Moves source target)) path v = v
set_by (Some (Removes file)) path v = v
set_by (Some (Makes folder)) path v = v
set_by (Some (MakesLink link text)) path v = v
set_by (Some (Sets thing mode)) path v = view_with v path (option_map (with_mode mode) (v path).value)
set_by (Some (RemovesEmptied folder)) path v = v
set_by None path v = v

-- what stands where a folder was made
abbrev pub new_folder : Value
new_folder = record { kind = Folder; bytes = []; mode = new_folder_mode; unnamed = 0 }

-- what stands where a link was made
abbrev pub new_link : List ℕ → Value
new_link text = record { kind = Link; bytes = text; mode = 0; unnamed = 0 }

-- A folder that is made as a copy has its source's mode, and its owner may list, change and search it.
abbrev pub copied_folder : Option Value → Value
copied_folder None = new_folder
copied_folder (Some from) = record new_folder { mode = bit_or from.mode 0o700 }

-- what a job makes at a path: the link that it is to make, or a folder, which of a copy is
-- that of where it comes from
abbrev pub made_by : Option ItemOfJob → Route → View → Value
made_by (Some (MakesLink link text)) path v = new_link text
made_by (Some (Makes folder)) path v = new_folder
made_by (Some (Copies source target)) path v = copied_folder (v (moved_from source target path)).value
made_by (Some (Moves source target)) path v = new_folder
made_by (Some (Removes file)) path v = new_folder
made_by (Some (Sets thing mode)) path v = new_folder
made_by (Some (RemovesEmptied folder)) path v = new_folder
made_by None path v = new_folder

-- nothing stands there
abbrev pub nothing_there : Spot
nothing_there = record { value = None; is_mount = false }

-- where a thing was that was moved, and below, nothing stands any more, and where it went stands what it
-- was, with all that lay in it
abbrev pub moved_by : Pair → View → View
moved_by pair v path =
    if is_prefix pair.target path then v (moved_from pair.source pair.target path)
    else if is_prefix pair.source path then nothing_there else v path

-- What a step makes of the tree, which has this log then: a removed path has nothing any more, one that was
-- made an empty folder or a link, one that was given a mode has that, and a part that an end names is from
-- then on what it then is.
abbrev pub replayed_step : CallLog → Did → Option ItemOfJob → View → View
replayed_step log (Removed path) item v = view_with v path None
replayed_step log (Placed path) item v = placed_by item path v
replayed_step log (Ended ending (Some part)) item v = view_with v part (value_at (current log) part)
replayed_step log (Ended ending None) item v = v
replayed_step log (Began part) item v = v
replayed_step log (Chunk count) item v = v
replayed_step log (Set path) item v = set_by item path v
replayed_step log (Made path) item v = view_with v path (Some (made_by item path v))
replayed_step log (Kept kept) item v = v
replayed_step log (Asked question) item v = v
replayed_step log (Merges transfer pair names) item v = v
replayed_step log (Moved pair) item v = moved_by pair v
replayed_step log (Skipped path cause) item v = v
replayed_step log (Cleaned part) item v = v
replayed_step log Barrier item v = v
replayed_step log (Troubled trouble) item v = v

abbrev pub replayed_event : CallLog → Event → List LiveJob → View → View
replayed_event log (Step id did) jobs v = replayed_step log did (live_item id jobs) v
replayed_event log (Key key now refusals lost) jobs v = v
replayed_event log (Look refusals) jobs v = v
replayed_event log Sought jobs v = v
replayed_event log (event.Began id plan background) jobs v = v
replayed_event log (Order id order) jobs v = v
replayed_event log (Next id plan) jobs v = v
replayed_event log Closed jobs v = v

-- the tree that can be seen after these entries, from the opening, over a tree that has come to this log
abbrev pub replayed_tree : CallLog → CallLog → List Entry → View
replayed_tree opening now [] = visible_tree (current opening)
replayed_tree opening now (e ∷ older) =
    replayed_event (log_prefix opening e.calls now) e.what (live_jobs older) (replayed_tree opening now older)

-- these paths as they are shown, and all others as before
abbrev pub keeping : List Route → View → View → View
keeping [] v before = before
keeping (path ∷ more) v before = keeping more v (view_with before path (v path).value)

-- the paths of a move as they are shown, and all others as before
abbrev pub keeping_moved : Pair → View → View → View
keeping_moved pair v before path = if is_of_move pair path then v path else before path

-- the paths that a report says were changed as they are shown, and all others as before
abbrev pub earlier_step : Did → View → View → View
earlier_step (Moved pair) v before = keeping_moved pair v before
earlier_step did v before = keeping (changed_by did) v before

abbrev pub earlier_event : Event → View → View → View
earlier_event (Step id did) v before = earlier_step did v before
earlier_event (Key key now refusals lost) v before = before
earlier_event (Look refusals) v before = before
earlier_event Sought v before = before
earlier_event (event.Began id plan background) v before = before
earlier_event (Order id order) v before = before
earlier_event (Next id plan) v before = before
earlier_event Closed v before = before

-- what each path showed before it was placed, removed, made, moved or given a mode last, or something was
-- moved there; what none was stays as at the opening
abbrev pub earlier_tree : CallLog → CallLog → List Entry → View
earlier_tree opening now [] = visible_tree (current opening)
earlier_tree opening now (e ∷ older) =
    earlier_event e.what (replayed_tree opening now older) (earlier_tree opening now older)
