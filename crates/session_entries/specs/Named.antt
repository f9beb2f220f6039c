-- Which paths the entries of a history name, as what was changed and as parts. Histories
-- stand newest first here.
use Rattle.std.specs.Prelude.{◌≡◌, ◌⊎◌, ℕ, ◌==◌, Bool, true, false, ◌||◌, ◌&&◌, not, List}
use Rattle.std.specs.Prelude.{[], ◌∷◌, ◌++◌, Option, Some, None, if◌then◌else◌, filter}
use Rattle.std.specs.List.{list_any}
use Rattle.std.specs.Option.{option_map_or}
use Rattle.mc_text.specs.Routes.{Route, is_prefix, same_path}
use Rattle.job_reports.specs.declared.report.Did.{Did}
use Rattle.job_reports.specs.declared.report.Did.TheVariants.{Began, Chunk, Placed, Removed, Made}
use Rattle.job_reports.specs.declared.report.Did.TheVariants.{Set, Kept, Skipped, Cleaned, Barrier}
use Rattle.job_reports.specs.declared.report.Did.TheVariants.{Asked, Merges, Moved, Troubled, Ended}
use Rattle.job_reports.specs.Paths.{without}
use Rattle.session_entries.specs.Moves.{is_of_move, paths_below, paths_moved, paths_off}
use Rattle.session_entries.specs.declared.history.Event.{Event}
use Rattle.session_entries.specs.declared.history.Event.TheVariants.{Key, Look, Sought, Order}
use Rattle.session_entries.specs.declared.history.Event.TheVariants.{Step, Next, Closed}
use Rattle.session_entries.specs.declared.history.Event.TheVariants as event
use Rattle.session_entries.specs.declared.history.Entry.{Entry}

-- a report names this path: as a part that was made, is gone, or is left, or as what was placed, removed,
-- made or given a mode, or where something was that was moved, and where it went, and what lies below
abbrev pub names : Did → Route → Bool
names (Began part) path = same_path path part
names (Placed target) path = same_path path target
names (Removed file) path = same_path path file
names (Cleaned part) path = same_path path part
names (Ended ending part) path = option_map_or (same_path path) part false
names (Chunk count) path = false
names (Set changed) path = same_path path changed
names (Made folder) path = same_path path folder
names (Kept kept) path = false
names (Skipped file cause) path = false
names Barrier path = false
names (Asked question) path = false
names (Merges transfer pair within) path = false
names (Moved pair) path = is_of_move pair path
names (Troubled trouble) path = false

abbrev pub names_path : Event → Route → Bool
names_path (Step id did) path = names did path
names_path (Key key now refusals lost) path = false
names_path (Look refusals) path = false
names_path Sought path = false
names_path (event.Began id plan background) path = false
names_path (Order id order) path = false
names_path (Next id plan) path = false
names_path Closed path = false

-- these entries are the older ones with more on top, of which none names this path
abbrev pub IsUnnamedSince : List Entry → Route → List Entry → Type 0
IsUnnamedSince older path [] = older ≡ []
IsUnnamedSince older path (e ∷ entries) =
    (older ≡ e ∷ entries) ⊎ ((names_path e.what path ≡ false) × IsUnnamedSince older path entries)

-- the path that a report says was changed: what was placed, removed, made or given a mode; those of
-- a move `is_of_move` tells
abbrev pub changed_by : Did → List Route
changed_by (Placed path) = path ∷ []
changed_by (Removed path) = path ∷ []
changed_by (Set path) = path ∷ []
changed_by (Made path) = path ∷ []
changed_by (Moved pair) = []
changed_by (Began part) = []
changed_by (Chunk count) = []
changed_by (Kept kept) = []
changed_by (Skipped path cause) = []
changed_by (Cleaned part) = []
changed_by Barrier = []
changed_by (Asked question) = []
changed_by (Merges transfer pair names) = []
changed_by (Troubled trouble) = []
changed_by (Ended ending part) = []

-- the parts that ended jobs left, until one is removed; one that was moved, with what it lies
-- in, is one where it went
abbrev pub left_by : Did → List Route → List Route
left_by (Ended ending (Some part)) before = part ∷ before
left_by (Ended ending None) before = before
left_by (Removed path) before = without path before
left_by (Began part) before = before
left_by (Placed path) before = before
left_by (Chunk count) before = before
left_by (Set path) before = before
left_by (Made path) before = before
left_by (Kept kept) before = before
left_by (Skipped path cause) before = before
left_by (Cleaned part) before = before
left_by Barrier before = before
left_by (Asked question) before = before
left_by (Merges transfer pair names) before = before
left_by (Moved pair) before = paths_moved pair before ++ paths_off pair.source before
left_by (Troubled trouble) before = before

abbrev pub left_after : Event → List Route → List Route
left_after (Step id did) before = left_by did before
left_after (Key key now refusals lost) before = before
left_after (Look refusals) before = before
left_after Sought before = before
left_after (event.Began id plan background) before = before
left_after (Order id order) before = before
left_after (Next id plan) before = before
left_after Closed before = before

-- the parts that jobs left in these entries
abbrev pub left_parts : List Entry → List Route
left_parts [] = []
left_parts (e ∷ older) = left_after e.what (left_parts older)

-- a part, with the number of the job that named it
pub record NamedPart : Type 0 where
  pub id : ℕ
  pub path : Route

-- the parts that live jobs named: one more, or those of a job that has ended no longer
abbrev pub live_parts_by : ℕ → Did → List NamedPart → List NamedPart
live_parts_by id (Began part) before = record { id = id; path = part } ∷ before
live_parts_by id (Ended ending part) before = filter (λ (named : NamedPart). not (named.id == id)) before
live_parts_by id did before = before

abbrev pub live_parts_after : Event → List NamedPart → List NamedPart
live_parts_after (Step id did) before = live_parts_by id did before
live_parts_after (Key key now refusals lost) before = before
live_parts_after (Look refusals) before = before
live_parts_after Sought before = before
live_parts_after (event.Began id plan background) before = before
live_parts_after (Order id order) before = before
live_parts_after (Next id plan) before = before
live_parts_after Closed before = before

-- the parts that these entries named, of the jobs that are live
abbrev pub live_parts : List Entry → List NamedPart
live_parts [] = []
live_parts (e ∷ older) = live_parts_after e.what (live_parts older)

-- another job than the one with this number named the path as a part
abbrev pub is_part_of_other : ℕ → List NamedPart → Route → Bool
is_part_of_other id named path =
    list_any (λ (part : NamedPart). not (part.id == id) && same_path path part.path) named

-- the path before others, where it is one of these
abbrev pub if_among : Route → List Route → List Route → List Route
if_among path [] others = others
if_among path (first ∷ rest) others =
    if same_path path first then path ∷ others else if_among path rest others

-- of these paths those at which nothing came to stand, and each that is another job's part
abbrev pub still_parts : (Route → Bool) → (Route → Bool) → List Route → List Route
still_parts is_other came before = filter (λ path. is_other path || not (came path)) before

-- A path that is placed or made is a part no more, nor is one to which something is moved, or one
-- below it, unless that is one. But where a file is placed over a part that an ended job left, or
-- something is moved over it, a crash may still leave that part, so the path stays one; and so does
-- that of a part that was moved. And a part that another live job named stays one, whatever comes to its
-- path once it is gone: that job sees to it that this is on the disk.
abbrev pub named_by : Did → (Route → Bool) → List Route → List Route → List Route
named_by (Began part) is_other left before = part ∷ before
named_by (Placed path) is_other left before =
    if_among path left (still_parts is_other (λ part. same_path part path) before)
named_by (Chunk count) is_other left before = before
named_by (Set path) is_other left before = before
named_by (Removed path) is_other left before = before
named_by (Made path) is_other left before = still_parts is_other (λ part. same_path part path) before
named_by (Kept kept) is_other left before = before
named_by (Skipped path cause) is_other left before = before
named_by (Cleaned part) is_other left before = before
named_by Barrier is_other left before = before
named_by (Asked question) is_other left before = before
named_by (Merges transfer pair names) is_other left before = before
named_by (Moved pair) is_other left before =
    paths_moved pair left ++ paths_below pair.target left
    ++ still_parts is_other (is_prefix pair.target) before
named_by (Troubled trouble) is_other left before = before
named_by (Ended ending part) is_other left before = before

abbrev pub named_after : Event → List NamedPart → List Route → List Route → List Route
named_after (Step id did) live left before = named_by did (is_part_of_other id live) left before
named_after (Key key now refusals lost) live left before = before
named_after (Look refusals) live left before = before
named_after Sought live left before = before
named_after (event.Began id plan background) live left before = before
named_after (Order id order) live left before = before
named_after (Next id plan) live left before = before
named_after Closed live left before = before

-- the paths that these entries named as parts
abbrev pub named_parts : List Entry → List Route
named_parts [] = []
named_parts (e ∷ older) = named_after e.what (live_parts older) (left_parts older) (named_parts older)

-- a report of the first change that work makes: a part or a folder is made, a thing is removed or
-- moved, or a mode is given
abbrev pub begins_change : Did → Bool
begins_change (Began part) = true
begins_change (Removed path) = true
begins_change (Chunk count) = false
begins_change (Set path) = true
begins_change (Placed path) = false
begins_change (Made path) = true
begins_change (Kept kept) = false
begins_change (Skipped path cause) = false
begins_change (Cleaned part) = false
begins_change Barrier = false
begins_change (Asked question) = false
begins_change (Merges transfer pair names) = false
begins_change (Moved pair) = true
begins_change (Troubled trouble) = false
begins_change (Ended ending part) = false

abbrev pub changed_after : ℕ → Event → Bool → Bool
changed_after id (event.Began number plan background) before = if number == id then false else before
changed_after id (Step number did) before = before || ((number == id) && begins_change did)
changed_after id (Key key now refusals lost) before = before
changed_after id (Look refusals) before = before
changed_after id Sought before = before
changed_after id (Order number order) before = before
changed_after id (Next number plan) before = if number == id then false else before
changed_after id Closed before = before

-- the job that was begun last with this number has changed something, for the source at which it is
abbrev pub has_changed : ℕ → List Entry → Bool
has_changed id [] = false
has_changed id (e ∷ older) = changed_after id e.what (has_changed id older)
