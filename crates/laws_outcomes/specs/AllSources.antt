-- What a job leaves of all its sources: with each it is done at another moment, and what it did then is
-- still so at its end, where no later source touches it; in the words of the history alone. Histories
-- stand newest first here.
use Rattle.std.specs.Prelude.{◌≡◌, ◌⊎◌, ℕ, ◌==◌, ◌||◌, Bool, true, false, not}
use Rattle.std.specs.Prelude.{List, [], ◌∷◌, Option, Some, if◌then◌else◌}
use Rattle.std.specs.Option.{option_map_or}
use Rattle.mc_text.specs.Routes.{Route, is_prefix}
use Rattle.tree_trait.specs.Change.{CallLog}
use Rattle.job_reports.specs.declared.job.Job.{Job}
use Rattle.job_reports.specs.Jobs.{ItemOfJob, Copies, Moves, Removes, Makes, MakesLink, Sets, RemovesEmptied}
use Rattle.session_entries.specs.declared.history.Event.{Event}
use Rattle.session_entries.specs.declared.history.Event.TheVariants.{Key, Look, Sought, Order}
use Rattle.session_entries.specs.declared.history.Event.TheVariants.{Step, Next, Closed}
use Rattle.session_entries.specs.declared.history.Event.TheVariants as event
use Rattle.session_entries.specs.declared.history.Entry.{Entry}
use Rattle.session_entries.specs.Entries.{IsMoment}
use Rattle.session_entries.specs.LiveJobs.{live_item, live_jobs}
use Rattle.laws_sessions.specs.Replayed.{replayed_tree}
use Rattle.laws_outcomes.specs.Begun.{tree_begun}
use Rattle.laws_outcomes.specs.Outcomes.{Finishes, IsOutcome, passed_over}
use Rattle.laws_outcomes.specs.Touched.{touches}

-- what is copied stands here
abbrev pub is_copied : ItemOfJob → Route → Bool
is_copied (Copies source target) path = is_prefix source path
is_copied (Moves source target) path = false
is_copied (Removes top) path = false
is_copied (Makes made) path = false
is_copied (MakesLink made text) path = false
is_copied (Sets thing mode) path = false
is_copied (RemovesEmptied folder) path = false

-- whether a job has done all with the item hangs on this path
abbrev pub concerns : ItemOfJob → Route → Bool
concerns item path = touches item path || is_copied item path

-- by this event the job with this number isn't begun, and is done with no source, or with one, this item,
-- that doesn't touch the path
abbrev pub is_elsewhere : ℕ → Route → Event → Option ItemOfJob → Bool
is_elsewhere id path (event.Began number plan background) item = not (number == id)
is_elsewhere id path (Next number plan) item =
    if number == id then option_map_or (λ i. not (touches i path)) item false else true
is_elsewhere id path (Step number did) item = true
is_elsewhere id path (Key key time refusals lost) item = true
is_elsewhere id path (Look refusals) item = true
is_elsewhere id path Sought item = true
is_elsewhere id path (Order number order) item = true
is_elsewhere id path Closed item = true

-- these entries are the older ones with more on top, by which the job was at no source that touches the path
abbrev pub IsLeftSince : ℕ → Route → List Entry → List Entry → Type 0
IsLeftSince id path older [] = older ≡ []
IsLeftSince id path older (e ∷ entries) =
    (older ≡ e ∷ entries) ⊎ ((is_elsewhere id path e.what (live_item id (live_jobs entries)) ≡ true)
    × IsLeftSince id path older entries)

-- Here, after the older entries, the job with this number goes on with its next source,
-- and is done with this item.
pub record GoesOn (e : Entry) (older : List Entry) (id : ℕ) (item : ItemOfJob) : Type 0 where
  pub plan : Job
  pub turns : e.what ≡ Next id plan
  pub its : live_item id (live_jobs older) ≡ Some item

-- Wherever in a history a job is done with an item, the tree that the history makes then is also
-- an outcome of each with which it was done before, where the last one and those between touch no
-- path that concerns that.
abbrev pub LeavesAll : CallLog → CallLog → List Entry → Type 0
LeavesAll opening now newest =
    (e first : Entry) (older before : List Entry) (id : ℕ) (last item : ItemOfJob)
    → Finishes e older id last → IsMoment newest (e ∷ older) (e ∷ older) e.calls → GoesOn first before id item
    → IsMoment newest (first ∷ before) (first ∷ before) first.calls
    → ((path : Route) → concerns item path ≡ true
    → (touches last path ≡ false) × IsLeftSince id path (first ∷ before) older)
    → IsOutcome item (passed_over id before) (tree_begun opening now id before)
    (replayed_tree opening now older)
