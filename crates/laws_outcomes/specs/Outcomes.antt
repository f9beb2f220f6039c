-- What a finished job leaves: all that it was to do, but for what it passed over; in the words of the
-- history alone. Histories stand newest first here.
use Rattle.std.specs.Prelude.{◌≡◌, ℕ, ◌==◌, false, if◌then◌else◌, List, [], ◌∷◌, ◌++◌, Option, Some, None}
use Rattle.std.specs.Option.{option_map}
use Rattle.mc_text.specs.Routes.{Route, is_prefix}
use Rattle.mc_text.specs.declared.kind.Kind.{Kind}
use Rattle.mc_text.specs.declared.kind.Kind.TheVariants.{File, Folder, Link, Other}
use Rattle.tree_trait.specs.FileSystem.{Value, View}
use Rattle.tree_trait.specs.Change.{CallLog}
use Rattle.tree_trait.specs.CrashImages.{Among}
use Rattle.job_reports.specs.declared.report.Did.{Did}
use Rattle.job_reports.specs.declared.report.Did.TheVariants.{Began, Chunk, Placed, Removed, Made}
use Rattle.job_reports.specs.declared.report.Did.TheVariants.{Set, Kept, Skipped, Cleaned, Barrier}
use Rattle.job_reports.specs.declared.report.Did.TheVariants.{Asked, Merges, Moved, Troubled, Ended}
use Rattle.job_reports.specs.Jobs.{ItemOfJob, Copies, Moves, Removes, Makes, MakesLink, Sets, RemovesEmptied}
use Rattle.session_entries.specs.declared.history.Event.{Event}
use Rattle.session_entries.specs.declared.history.Event.TheVariants.{Key, Look, Sought, Order}
use Rattle.session_entries.specs.declared.history.Event.TheVariants.{Step, Next, Closed}
use Rattle.session_entries.specs.declared.history.Event.TheVariants as event
use Rattle.session_entries.specs.declared.history.Entry.{Entry}
use Rattle.session_entries.specs.Entries.{IsMoment}
use Rattle.session_entries.specs.LiveJobs.{live_jobs, live_item}
use Rattle.session_entries.specs.Sources.{IsDoneWith}
use Rattle.laws_sessions.specs.Replayed.{new_folder, new_link, nothing_there, placed_copy, replayed_tree}
use Rattle.laws_outcomes.specs.Begun.{tree_begun}

-- What was passed over once a job has reported this: what it skipped, and a folder that is merged with that
-- at its target, since what lies in it is copied or moved after it, each thing as a source of its own.
abbrev pub passed_by : Did → List Route → List Route
passed_by (Skipped path cause) before = path ∷ before
passed_by (Began part) before = before
passed_by (Chunk count) before = before
passed_by (Placed path) before = before
passed_by (Removed path) before = before
passed_by (Made made) before = before
passed_by (Set path) before = before
passed_by (Kept kept) before = before
passed_by (Asked question) before = before
passed_by (Merges transfer pair names) before = pair.source ∷ before
passed_by (Moved pair) before = before
passed_by (Cleaned part) before = before
passed_by Barrier before = before
passed_by (Troubled trouble) before = before
passed_by (Ended ending part) before = before

-- a job that copies or moves passes over its source where it keeps what stands at its target, and one
-- that removes an emptied folder that where it keeps it; one that deletes, or makes, passes over
-- nothing where it keeps a folder
abbrev pub kept_of : Option ItemOfJob → List Route → List Route
kept_of (Some (Copies source target)) before = source ∷ before
kept_of (Some (Moves source target)) before = source ∷ before
kept_of (Some (Removes path)) before = before
kept_of (Some (Makes path)) before = before
kept_of (Some (MakesLink path text)) before = before
kept_of (Some (Sets path mode)) before = before
kept_of (Some (RemovesEmptied path)) before = path ∷ before
kept_of None before = before

-- what a job that works on this has passed over once it has reported this, and the source of a copy or a
-- move whose target stays as it was
abbrev pub passed_in : Option ItemOfJob → Did → List Route → List Route
passed_in item (Kept path) before = kept_of item before
passed_in item (Skipped path cause) before = passed_by (Skipped path cause) before
passed_in item (Began part) before = before
passed_in item (Chunk count) before = before
passed_in item (Placed path) before = before
passed_in item (Removed path) before = before
passed_in item (Made made) before = before
passed_in item (Set path) before = before
passed_in item (Asked question) before = before
passed_in item (Merges transfer pair names) before = passed_by (Merges transfer pair names) before
passed_in item (Moved pair) before = before
passed_in item (Cleaned part) before = before
passed_in item Barrier before = before
passed_in item (Troubled trouble) before = before
passed_in item (Ended ending part) before = before

abbrev pub passed_after : ℕ → Event → Option ItemOfJob → List Route → List Route
passed_after id (event.Began number plan background) item before = if number == id then [] else before
passed_after id (Step number did) item before = if number == id then passed_in item did before else before
passed_after id (Next number plan) item before = if number == id then [] else before
passed_after id (Key key now refusals lost) item before = before
passed_after id (Look refusals) item before = before
passed_after id Sought item before = before
passed_after id (Order number order) item before = before
passed_after id Closed item before = before

-- the paths that the job that was begun last with this number has passed over, of the source at which it is
abbrev pub passed_over : ℕ → List Entry → List Route
passed_over id [] = []
passed_over id (e ∷ older) = passed_after id e.what (live_item id (live_jobs older)) (passed_over id older)

-- neither the path nor a folder above it was passed over
abbrev pub IsReached : List Route → Route → Type 0
IsReached passed path = (left : Route) → Among passed left → is_prefix left path ≡ false

-- nor was anything in it
abbrev pub IsWhollyReached : List Route → Route → Type 0
IsWhollyReached passed path =
    IsReached passed path × ((left : Route) → Among passed left → is_prefix path left ≡ false)

-- the copy of a thing: a file with its bytes and its mode, a link with its text, or a folder with its mode,
-- and with as many names that are no UTF-8 (so only one that has none is copied)
abbrev pub copied_as : Kind → Value → Value
copied_as Folder v = record new_folder { mode = v.mode; unnamed = v.unnamed }
copied_as File v = placed_copy v
copied_as Link v = placed_copy v
copied_as Other v = placed_copy v

abbrev pub as_copied : Value → Value
as_copied v = copied_as v.kind v

-- At the target, and as far below it, stands a copy of what stands at the source, and nothing where nothing
-- stands there; but for what was passed over, and, where the target lies in the source, the copy itself.
abbrev pub IsCopied : Route → Route → List Route → View → Type 0
IsCopied source target passed v =
    (rest : Route) → is_prefix target (rest ++ source) ≡ false → IsReached passed (rest ++ source)
    → (v (rest ++ target)).value ≡ option_map as_copied (v (rest ++ source)).value

-- Nothing stands at the path or below it, but what was passed over, what lies in that,
-- and the folders around it.
abbrev pub IsGone : Route → List Route → View → Type 0
IsGone top passed v = (rest : Route) → IsWhollyReached passed (rest ++ top) → (v (rest ++ top)).value ≡ None

-- what was made stands there
abbrev pub IsMade : Route → Value → List Route → View → Type 0
IsMade path made passed v = IsReached passed path → (v path).value ≡ Some made

-- what stands there has this mode
abbrev pub IsSet : Route → ℕ → List Route → View → Type 0
IsSet path mode passed v = IsReached passed path → option_map (λ x. x.mode) (v path).value ≡ Some mode

-- What stood at the source where the job began with it stands at the target, with all that lay in it, also
-- mounts that began there, and nothing at the source; but where it was passed over both are as they were.
pub record IsMoved (source target : Route) (passed : List Route) (begun v : View) : Type 0 where
  pub went : (Among passed source → ⊥) → (rest : Route)
      → (v (rest ++ source) ≡ nothing_there) × (v (rest ++ target) ≡ begun (rest ++ source))
  pub stays : Among passed source → (rest : Route)
      → (v (rest ++ source) ≡ begun (rest ++ source)) × (v (rest ++ target) ≡ begun (rest ++ target))

-- Nothing stands where the emptied folder was; but where it was passed over it is as it was.
pub record IsEmptiedGone (path : Route) (passed : List Route) (begun v : View) : Type 0 where
  pub gone : (Among passed path → ⊥) → (v path).value ≡ None
  pub stays : Among passed path → v path ≡ begun path

-- All that a job was to do with its item is done in this tree, which was another one where it began with
-- that; but for what it passed over.
abbrev pub IsOutcome : ItemOfJob → List Route → View → View → Type 0
IsOutcome (Copies source target) passed begun v = IsCopied source target passed v
IsOutcome (Moves source target) passed begun v = IsMoved source target passed begun v
IsOutcome (Removes path) passed begun v = IsGone path passed v
IsOutcome (Makes path) passed begun v = IsMade path new_folder passed v
IsOutcome (MakesLink path text) passed begun v = IsMade path (new_link text) passed v
IsOutcome (Sets path mode) passed begun v = IsSet path mode passed v
IsOutcome (RemovesEmptied path) passed begun v = IsEmptiedGone path passed begun v

-- This entry, after the older ones, tells that the job with this number is done with this item: it is
-- finished, or goes on with the next one.
pub record Finishes (e : Entry) (older : List Entry) (id : ℕ) (item : ItemOfJob) : Type 0 where
  pub ended : IsDoneWith id e.what
  pub its : live_item id (live_jobs older) ≡ Some item

-- Wherever in a history a job is done with an item, the tree that the history makes then is such an outcome.
abbrev pub Leaves : (ItemOfJob → List Route → View → View → Type 0) → CallLog → CallLog → List Entry → Type 0
Leaves Outcome opening now newest =
    (e : Entry) (older : List Entry) (id : ℕ) (item : ItemOfJob)
    → Finishes e older id item → IsMoment newest (e ∷ older) (e ∷ older) e.calls
    → Outcome item (passed_over id older) (tree_begun opening now id older) (replayed_tree opening now older)
