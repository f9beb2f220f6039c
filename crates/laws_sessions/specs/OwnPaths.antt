-- Which paths are a job's own, for the source at which it is: those that it touches, and the parts that it
-- named; and which are another's. Histories stand newest first here.
use Rattle.std.specs.Prelude.{◌≡◌, ◌⊎◌, ℕ, ◌==◌, Bool, true, false, ◌||◌, ◌&&◌}
use Rattle.std.specs.Prelude.{List, [], ◌∷◌, Option, Some, None, if◌then◌else◌}
use Rattle.mc_text.specs.Routes.{Route, same_path}
use Rattle.job_reports.specs.declared.report.Did.{Did}
use Rattle.job_reports.specs.declared.report.Did.TheVariants.{Began}
use Rattle.job_reports.specs.Jobs.{ItemOfJob}
use Rattle.session_entries.specs.declared.history.Event.{Event}
use Rattle.session_entries.specs.declared.history.Event.TheVariants.{Key, Look, Sought, Order}
use Rattle.session_entries.specs.declared.history.Event.TheVariants.{Step, Next, Closed}
use Rattle.session_entries.specs.declared.history.Event.TheVariants as event
use Rattle.session_entries.specs.declared.history.Entry.{Entry}
use Rattle.session_entries.specs.LiveJobs.{live_item, live_jobs}
use Rattle.session_entries.specs.Named.{names}
use Rattle.laws_sessions.specs.Touched.{touches}

-- it is reported that a part is begun at this path
abbrev pub begins_part : Did → Route → Bool
begins_part (Began part) path = same_path path part
begins_part did path = false

abbrev pub named_part_after : ℕ → Route → Event → Bool → Bool
named_part_after id path (event.Began number plan background) before = if number == id then false else before
named_part_after id path (Step number did) before = before || ((number == id) && begins_part did path)
named_part_after id path (Next number plan) before = if number == id then false else before
named_part_after id path (Key key now refusals lost) before = before
named_part_after id path (Look refusals) before = before
named_part_after id path Sought before = before
named_part_after id path (Order number order) before = before
named_part_after id path Closed before = before

-- the job that was begun last with this number named this path as a part, of the source at which it is
abbrev pub has_named_part : ℕ → Route → List Entry → Bool
has_named_part id path [] = false
has_named_part id path (e ∷ older) = named_part_after id path e.what (has_named_part id path older)

abbrev pub namer_after : Route → Event → Option ℕ → Option ℕ
namer_after path (Step id did) before = if names did path then Some id else before
namer_after path (event.Began id plan background) before = before
namer_after path (Next id plan) before = before
namer_after path (Key key now refusals lost) before = before
namer_after path (Look refusals) before = before
namer_after path Sought before = before
namer_after path (Order id order) before = before
namer_after path Closed before = before

-- the number of the job whose report named this path last, if one did
abbrev pub last_namer : Route → List Entry → Option ℕ
last_namer path [] = None
last_namer path (e ∷ older) = namer_after path e.what (last_namer path older)

-- A path of the job's own: its source touches it, or it named it as a part, and no other job has named it
-- since.
abbrev pub IsOwnPath : ℕ → ItemOfJob → List Entry → Route → Type 0
IsOwnPath id item entries path = (touches item path ≡ true)
    ⊎ ((has_named_part id path entries ≡ true) × (last_namer path entries ≡ Some id))

-- The path was named last by another job, and that one is live.
pub record IsOfAnother (id : ℕ) (entries : List Entry) (path : Route) : Type 0 where
  pub other : ℕ
  pub item : ItemOfJob
  pub named : last_namer path entries ≡ Some other
  pub lives : live_item other (live_jobs entries) ≡ Some item
  pub apart : other ≡ id → ⊥
