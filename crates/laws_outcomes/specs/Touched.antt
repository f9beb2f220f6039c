-- Which paths a job may change for a source, and which entries take a source up. Histories stand newest
-- first here.
use Rattle.std.specs.Prelude.{◌≡◌, ◌⊎◌, ◌||◌, ◌&&◌, not, Bool, false, if◌then◌else◌}
use Rattle.std.specs.Prelude.{List, [], ◌∷◌, Option, None}
use Rattle.mc_text.specs.Routes.{Route, is_prefix, same_path}
use Rattle.tree_trait.specs.CrashImages.{Among}
use Rattle.job_reports.specs.Jobs.{ItemOfJob, Copies, Moves, Removes, Makes, MakesLink, Sets, RemovesEmptied}
use Rattle.job_reports.specs.Jobs.{item_of}
use Rattle.job_reports.specs.Reports.{ends}
use Rattle.session_entries.specs.declared.history.Event.{Event}
use Rattle.session_entries.specs.declared.history.Event.TheVariants.{Key, Look, Sought, Order}
use Rattle.session_entries.specs.declared.history.Event.TheVariants.{Step, Next, Closed}
use Rattle.session_entries.specs.declared.history.Event.TheVariants as event
use Rattle.session_entries.specs.declared.history.Entry.{Entry}
use Rattle.session_entries.specs.LiveJobs.{LiveJob, live_jobs}
use Rattle.session_entries.specs.Moves.{moved_from}
use Rattle.session_entries.specs.Named.{begins_change, left_parts, named_parts}
use Rattle.session_entries.specs.Sources.{first_item}
pub use Rattle.laws_sessions.specs.Touched.{touches}

-- no job that is live after these entries touches the path for its source
abbrev pub IsUntouched : List Entry → Route → Type 0
IsUntouched entries path = (job : LiveJob) → Among (live_jobs entries) job → touches job.item path ≡ false

-- one at which a job may put something: at or below the target of a copy or a move, or what is made or given
-- a mode; but where something is copied into itself, not what would be the copy of its copy
abbrev pub is_target : ItemOfJob → Route → Bool
is_target (Copies source target) path =
    is_prefix target path && not (is_prefix target (moved_from source target path))
is_target (Moves source target) path = is_prefix target path
is_target (Removes top) path = false
is_target (Makes made) path = same_path path made
is_target (MakesLink made text) path = same_path path made
is_target (Sets thing mode) path = same_path path thing
is_target (RemovesEmptied folder) path = false

-- one at which a job only removes something: what is deleted, and what lies in that, or an emptied folder
abbrev pub is_removed : ItemOfJob → Route → Bool
is_removed (Removes top) path = is_prefix top path
is_removed (RemovesEmptied folder) path = same_path path folder
is_removed item path = false

-- the source that a job takes up by this event, as it is begun or goes on
abbrev pub taken_by : Event → Option ItemOfJob
taken_by (event.Began id plan background) = first_item plan
taken_by (Next id plan) = item_of plan
taken_by event = None

-- the source at which the job is after this event, as long as it has begun no change for it
abbrev pub taken_after : Event → Option ItemOfJob → Option ItemOfJob
taken_after (event.Began id plan background) before = first_item plan
taken_after (Next id plan) before = item_of plan
taken_after (Step id did) before = if begins_change did || ends did then None else before
taken_after (Key key time refusals lost) before = before
taken_after (Look refusals) before = before
taken_after Sought before = before
taken_after (Order id order) before = before
taken_after Closed before = before

-- the source that was taken up last, until the job begins a change for it, or ends
abbrev pub taken_up : List Entry → Option ItemOfJob
taken_up [] = None
taken_up (e ∷ older) = taken_after e.what (taken_up older)

-- these entries are the first ones with more on top, by which no source was taken up
abbrev pub IsAtSince : List Entry → List Entry → Type 0
IsAtSince first [] = first ≡ []
IsAtSince first (e ∷ entries) =
    (first ≡ e ∷ entries) ⊎ ((taken_by e.what ≡ None) × IsAtSince first entries)

-- these entries are the first ones with more on top, each of which is so still once a source was taken up
abbrev pub LastsSince : List Entry → (Event → Type 0) → List Entry → Type 0
LastsSince first IsStill [] = first ≡ []
LastsSince first IsStill (e ∷ entries) =
    (first ≡ e ∷ entries)
    ⊎ ((IsStill e.what ⊎ IsAtSince first entries) × LastsSince first IsStill entries)

-- the path is a part's after these entries, or an ended job left one there
abbrev pub IsPartAt : List Entry → Route → Type 0
IsPartAt entries path = Among (named_parts entries) path ⊎ Among (left_parts entries) path

-- one of these entries took the path for a part file, or for where one came to
abbrev pub WasPart : List Entry → Route → Type 0
WasPart [] path = ⊥
WasPart (e ∷ older) path = Among (named_parts (e ∷ older)) path ⊎ WasPart older path

-- where a thing lay that a job moves to this path
abbrev pub came_from : ItemOfJob → Route → Route
came_from (Copies source target) path = path
came_from (Moves source target) path = moved_from source target path
came_from (Removes top) path = path
came_from (Makes made) path = path
came_from (MakesLink made text) path = path
came_from (Sets thing mode) path = path
came_from (RemovesEmptied folder) path = path
