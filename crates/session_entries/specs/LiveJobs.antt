-- The live jobs, as a history tells of them: each with its number, what it works on, and its part.
-- Histories stand newest first here.
use Rattle.std.specs.Prelude.{◌≡◌, ℕ, ◌==◌, List, [], ◌∷◌, map, Option, Some, None, if◌then◌else◌}
use Rattle.std.specs.Option.{option_map_or}
use Rattle.mc_text.specs.Routes.{Route}
use Rattle.tree_trait.specs.CrashImages.{Among}
use Rattle.job_reports.specs.declared.report.Did.{Did}
use Rattle.job_reports.specs.declared.report.Did.TheVariants.{Began, Chunk, Placed, Removed, Made}
use Rattle.job_reports.specs.declared.report.Did.TheVariants.{Set, Kept, Skipped, Cleaned, Barrier}
use Rattle.job_reports.specs.declared.report.Did.TheVariants.{Asked, Merges, Moved, Troubled, Ended}
use Rattle.session_entries.specs.declared.history.Event.{Event}
use Rattle.session_entries.specs.declared.history.Event.TheVariants.{Key, Look, Sought, Order}
use Rattle.session_entries.specs.declared.history.Event.TheVariants.{Step, Next, Closed}
use Rattle.session_entries.specs.declared.history.Event.TheVariants as event
use Rattle.session_entries.specs.declared.history.Entry.{Entry}
use Rattle.job_reports.specs.Jobs.{ItemOfJob, item_of}
use Rattle.session_entries.specs.Sources.{first_item}

-- a live job
pub record LiveJob : Type 0 where
  pub id : ℕ
  -- what it works on
  pub item : ItemOfJob
  -- the part that stands
  pub part : Option Route

-- a job just begun
abbrev pub live : ℕ → ItemOfJob → LiveJob
live id item = record { id = id; item = item; part = None }

-- what a report says of a job's part
abbrev pub part_after : Did → Option Route → Option Route
part_after (Began part) before = Some part
part_after (Placed path) before = None
part_after (Cleaned part) before = None
part_after (Chunk count) before = before
part_after (Set path) before = before
part_after (Removed path) before = before
part_after (Made made) before = before
part_after (Kept kept) before = before
part_after (Skipped path cause) before = before
part_after Barrier before = before
part_after (Asked question) before = before
part_after (Merges transfer pair names) before = before
part_after (Moved pair) before = before
part_after (Troubled trouble) before = before
part_after (Ended ending part) before = before

-- the live jobs after a report of the one with this number: an ended one is live no more
abbrev pub after_report : ℕ → Did → List LiveJob → List LiveJob
after_report id did [] = []
after_report id (Ended ending part) (job ∷ jobs) =
    if job.id == id then jobs else job ∷ after_report id (Ended ending part) jobs
after_report id did (job ∷ jobs) = if job.id == id then record job { part = part_after did job.part } ∷ jobs
    else job ∷ after_report id did jobs

-- the job with this number goes on with its next source
abbrev pub turned_live_job : ℕ → ItemOfJob → LiveJob → LiveJob
turned_live_job id item job = if job.id == id then live id item else job

-- the live jobs after an event
abbrev pub after_event : Event → List LiveJob → List LiveJob
after_event (event.Began id plan background) jobs =
    option_map_or (λ item. live id item ∷ jobs) (first_item plan) jobs
after_event (Step id did) jobs = after_report id did jobs
after_event (Next id plan) jobs =
    option_map_or (λ item. map (turned_live_job id item) jobs) (item_of plan) jobs
after_event (Key key now refusals lost) jobs = jobs
after_event (Look refusals) jobs = jobs
after_event Sought jobs = jobs
after_event (Order id order) jobs = jobs
after_event Closed jobs = jobs

-- the live jobs after these entries
abbrev pub live_jobs : List Entry → List LiveJob
live_jobs [] = []
live_jobs (e ∷ older) = after_event e.what (live_jobs older)

-- what the live job with this number works on
abbrev pub live_item : ℕ → List LiveJob → Option ItemOfJob
live_item id [] = None
live_item id (job ∷ jobs) = if job.id == id then Some job.item else live_item id jobs

-- the part of a live job
abbrev pub IsLivePart : List LiveJob → Route → Type 0
IsLivePart jobs path = (job : LiveJob) × Among jobs job × (job.part ≡ Some path)
