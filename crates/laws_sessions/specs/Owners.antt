-- Each change that isn't on the disk yet has an owner: the job whose report named its path last, a live one
-- or one that has ended. Histories stand newest first here.
use Rattle.std.specs.Prelude.{◌≡◌, ◌⊎◌, ℕ, ◌==◌, ◌&&◌, ◌||◌, Bool, true, false, List, [], ◌∷◌, Some}
use Rattle.mc_text.specs.Routes.{Route}
use Rattle.tree_trait.specs.Shape.{IsTree}
use Rattle.tree_trait.specs.Change.{CallLog, current}
use Rattle.tree_trait.specs.CrashImages.{Among, all_settled}
use Rattle.job_reports.specs.Jobs.{ItemOfJob}
use Rattle.job_reports.specs.Paths.{folder_of}
use Rattle.job_reports.specs.Reports.{ends}
use Rattle.session_entries.specs.declared.history.Event.{Event}
use Rattle.session_entries.specs.declared.history.Event.TheVariants.{Key, Look, Sought, Order}
use Rattle.session_entries.specs.declared.history.Event.TheVariants.{Step, Next, Closed}
use Rattle.session_entries.specs.declared.history.Event.TheVariants as event
use Rattle.session_entries.specs.declared.history.Entry.{Entry}
use Rattle.session_entries.specs.LiveJobs.{live_item, live_jobs}
use Rattle.session_entries.specs.Named.{named_parts}
use Rattle.laws_sessions.specs.Doubt.{name_waits, node_waits}
use Rattle.laws_sessions.specs.Owed.{IsOwed}
use Rattle.laws_sessions.specs.OwnPaths.{last_namer}
use Rattle.laws_sessions.specs.Traces.{IsTraced, Stand}

abbrev pub ended_after : ℕ → Event → Bool → Bool
ended_after id (Step number did) before = before || ((number == id) && ends did)
ended_after id (event.Began number plan background) before = before
ended_after id (Next number plan) before = before
ended_after id (Order number order) before = before
ended_after id (Key key now refusals lost) before = before
ended_after id (Look refusals) before = before
ended_after id Sought before = before
ended_after id Closed before = before

-- a job with this number has reported its end
abbrev pub has_ended : ℕ → List Entry → Bool
has_ended id [] = false
has_ended id (e ∷ older) = ended_after id e.what (has_ended id older)

-- the job with this number is live
abbrev pub IsLive : ℕ → List Entry → Type 0
IsLive id entries = (item : ItemOfJob) × (live_item id (live_jobs entries) ≡ Some item)

-- A job's report named the path last, and that job is live, or it has ended.
pub record HasOwner (entries : List Entry) (path : Route) : Type 0 where
  pub id : ℕ
  pub named : last_namer path entries ≡ Some id
  pub lives : IsLive id entries ⊎ (has_ended id entries ≡ true)

-- Where each entry ends, a path of whose name a change isn't on the disk yet has an owner, and lies in a
-- dirty folder, or in one that waits for a dirty one; and one of which a mode isn't, a part's aside, has an
-- owner, and is itself dirty.
pub record OwnersLaw : Type 0 where
  pub names : (opening now : CallLog) (newest : List Entry) (stand : Stand) (path : Route)
      → IsTree (current opening) → all_settled opening.changes ≡ true → IsTraced opening newest stand now
      → name_waits now path ≡ true → HasOwner newest path × IsOwed stand.dirty now (folder_of path)
  pub modes : (opening now : CallLog) (newest : List Entry) (stand : Stand) (path : Route)
      → IsTree (current opening) → all_settled opening.changes ≡ true → IsTraced opening newest stand now
      → (Among (named_parts newest) path → ⊥) → node_waits now path ≡ true
      → HasOwner newest path × Among stand.dirty path
