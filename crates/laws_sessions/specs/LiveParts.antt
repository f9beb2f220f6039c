-- A part that a live job named stays one, whatever other jobs place, make or move to its path. Histories
-- stand newest first here.
use Rattle.std.specs.Prelude.{◌≡◌, ℕ, ◌==◌, Bool, true, false, List, ◌∷◌, Some}
use Rattle.mc_text.specs.Routes.{Route}
use Rattle.tree_trait.specs.Shape.{IsTree}
use Rattle.tree_trait.specs.Change.{CallLog, current}
use Rattle.tree_trait.specs.CrashImages.{Among, all_settled}
use Rattle.job_reports.specs.Jobs.{ItemOfJob}
use Rattle.session_entries.specs.declared.history.Event.{Event}
use Rattle.session_entries.specs.declared.history.Event.TheVariants.{Key, Look, Sought, Order}
use Rattle.session_entries.specs.declared.history.Event.TheVariants.{Step, Next, Closed}
use Rattle.session_entries.specs.declared.history.Event.TheVariants as event
use Rattle.session_entries.specs.declared.history.Entry.{Entry}
use Rattle.session_entries.specs.LiveJobs.{live_item, live_jobs}
use Rattle.session_entries.specs.Named.{NamedPart, is_part_of_other, live_parts, named_parts}
use Rattle.laws_sessions.specs.Traces.{IsTraced, Stand}

-- a step of the job with this number
abbrev pub is_step_of : ℕ → Event → Bool
is_step_of id (Step number did) = id == number
is_step_of id (event.Began number plan background) = false
is_step_of id (Next number plan) = false
is_step_of id (Order number order) = false
is_step_of id (Key key now refusals lost) = false
is_step_of id (Look refusals) = false
is_step_of id Sought = false
is_step_of id Closed = false

-- As long as a job is live no other one's step takes a part that it named off the parts: once the part was
-- placed or removed something else may come to its path, and a crash may still leave the part there, until
-- the job has synced the folder. Only its own job places, makes or moves a thing there as no part.
abbrev pub LivePartsLaw : Type 0
LivePartsLaw = (e : Entry) (older : List Entry) (part : NamedPart) → Among (live_parts older) part
    → is_step_of part.id e.what ≡ false → Among (named_parts older) part.path
    → Among (named_parts (e ∷ older)) part.path

-- With one job live at a time there is no part of another one while a job is live.
abbrev pub NoOtherPartsLaw : Type 0
NoOtherPartsLaw = (opening now : CallLog) (newest : List Entry) (stand : Stand) (id : ℕ) (item : ItemOfJob)
    (path : Route) → IsTree (current opening) → all_settled opening.changes ≡ true
    → IsTraced opening newest stand now → live_item id (live_jobs newest) ≡ Some item
    → is_part_of_other id (live_parts newest) path ≡ false
