-- What a history says of the tree's calls: each step of a job is one piece of its work with the calls that
-- belong to it, or the sync of a folder that an ended job left, and nothing else changes the tree.
-- Histories stand newest first here.
use Rattle.std.specs.Prelude.{◌≡◌, ◌⊎◌, ℕ, ◌+◌, ◌==◌, Bool, true, false, List, []}
use Rattle.std.specs.Prelude.{◌∷◌, length, map, Option, Some, None, if◌then◌else◌}
use Rattle.std.specs.Option.{option_map_or}
use Rattle.mc_text.specs.Routes.{Route}
use Rattle.tree_trait.specs.Change.{CallLog, current}
use Rattle.tree_trait.specs.CrashImages.{Among}
use Rattle.job_reports.specs.declared.report.Ending.TheVariants.{Finished, NoMemory}
use Rattle.job_reports.specs.declared.report.Did.{Did}
use Rattle.job_reports.specs.declared.report.Did.TheVariants.{Ended}
use Rattle.job_reports.specs.declared.job.Job.{Job}
use Rattle.session_entries.specs.Sources.{sources_of}
use Rattle.session_entries.specs.declared.history.Event.{Event}
use Rattle.session_entries.specs.declared.history.Event.TheVariants.{Key, Look, Sought, Began}
use Rattle.session_entries.specs.declared.history.Event.TheVariants.{Order, Step, Next, Closed}
use Rattle.session_entries.specs.declared.history.JobOrder.{JobOrder}
use Rattle.session_entries.specs.declared.history.JobOrder.TheVariants.{Answered}
use Rattle.session_entries.specs.declared.history.Entry.{Entry}
use Rattle.copy_move.specs.declared.run.Course.TheVariants.{GoesOn}
use Rattle.copy_move.specs.Jobs.{Running, JobTells, JobCalls, answered_job}
use Rattle.copy_move.specs.Jobs.{begun_work, closed_job, is_fresh, part_of}
use Rattle.job_reports.specs.Reports.{ends}
use Rattle.copy_move.specs.Settling.{NoneForFolder, NoneOwed}
use Rattle.copy_move.specs.JobStepReports.{LeavesDirty, SyncsOwed, WalksOn}
use Rattle.session_entries.specs.Entries.{is_closed}
use Rattle.copy_move.specs.Told.{running, turned_job}

-- where a session stands: its live jobs, and the folders with a change of names that no sync
-- has brought onto the disk
pub record Stand : Type 0 where
  pub jobs : List Running
  pub dirty : List Route

-- a live job with this number
abbrev pub IsJob : ℕ → List Running → Running → Type 0
IsJob id [] job = ⊥
IsJob id (first ∷ jobs) job = ((first.id ≡ id) × (job ≡ first)) ⊎ IsJob id jobs job

-- a job that stands so now, or has ended, before others
abbrev pub before_others : Option Running → List Running → List Running
before_others None jobs = jobs
before_others (Some job) jobs = job ∷ jobs

-- the live jobs, where the one with this number stands so now, or has ended
abbrev pub with_job : ℕ → Option Running → List Running → List Running
with_job id new [] = []
with_job id new (job ∷ jobs) = if job.id == id then before_others new jobs else job ∷ with_job id new jobs

-- no other job is live, so each path may be a part's
abbrev pub IsUnclaimed : Route → Type 0
IsUnclaimed path = true ≡ true

-- A step of a job's own work. The first change comes only where no dirty folder is owed, and that of the
-- move of a folder only where nothing that stands is dirty; a deletion does what its machine does: on its
-- way, where it passes something over, and in its last steps.
pub record WorkLeads (job : Running) (did : Did) (new : Running) (dirty dirty_after : List Route)
    (log now : CallLog) : Type 0 where
  pub tells : JobTells job did new
  pub called : JobCalls IsUnclaimed job did new log (Some now)
  pub settled : job.course ≡ GoesOn → is_fresh job.work ≡ true → NoneOwed (current log) job.work dirty
  pub cleared : job.course ≡ GoesOn → is_fresh job.work ≡ true → NoneForFolder (current log) job.work dirty
  pub leaves : LeavesDirty job.course job.work did new.work dirty dirty_after (Some log) (Some now)
  pub walks : (calls : ℕ) × (faults : ℕ) × (faults_after : ℕ) × WalksOn IsUnclaimed job.replies job.course
      job.work new.work did calls dirty dirty_after (Some log) (Some now) faults faults_after

-- a job that has changed nothing yet syncs what an ended job left dirty, or waits where that is refused
pub record SyncLeads (job : Running) (did : Did) (new : Running) (dirty dirty_after : List Route)
    (log now : CallLog) : Type 0 where
  pub goes : job.course ≡ GoesOn
  pub fresh : is_fresh job.work ≡ true
  pub path : Route
  pub owed : Among dirty path
  pub synced : SyncsOwed job path did new dirty dirty_after (Some log) (Some now)

-- a job ends out of memory for the entry, and makes no call
pub record GivesUp (job : Running) (did : Did) (dirty dirty_after : List Route)
    (log now : CallLog) : Type 0 where
  pub did_is : did ≡ Ended NoMemory (part_of job.work)
  pub same : dirty_after ≡ dirty
  pub none : now ≡ log

-- where a job stands after a report
abbrev pub unless_ended : Did → Running → Option Running
unless_ended did new = if ends did then None else Some new

-- what a step of a job says of it, of the dirty folders and of the tree's calls
abbrev pub StepLeads : Running → Did → Option Running → List Route → List Route → CallLog → CallLog → Type 0
StepLeads job did after dirty dirty_after log now =
    ((new : Running) × (WorkLeads job did new dirty dirty_after log now
    ⊎ SyncLeads job did new dirty dirty_after log now) × (after ≡ unless_ended did new))
    ⊎ (GivesUp job did dirty dirty_after log now × (after ≡ None))

-- the job that a plan begins
abbrev pub begun_jobs : ℕ → Job → List Running
begun_jobs id plan = option_map_or (λ work. running id work ∷ []) (begun_work id (sources_of plan)) []

-- an order to the job with this number
abbrev pub ordered_job : ℕ → JobOrder → Running → Running
ordered_job id (Answered answer) job = if job.id == id then answered_job answer job else job

-- the live job with this number makes a step, and stands so then, or has ended
pub record JobSteps (was : Stand) (id : ℕ) (did : Did) (after : Stand) (log now : CallLog) : Type 0 where
  pub job : Running
  pub its : IsJob id was.jobs job
  pub new : Option Running
  pub leads : StepLeads job did new was.dirty after.dirty log now
  pub jobs_is : after.jobs ≡ with_job id new was.jobs

-- The live job with this number is done with one of its sources, as its step would report at the job's end,
-- and stands at the next one then, of which this is the plan.
pub record JobTurns (was : Stand) (id : ℕ) (plan : Job) (after : Stand) (log now : CallLog) : Type 0 where
  pub job : Running
  pub its : IsJob id was.jobs job
  pub over : Running
  pub done : WorkLeads job (Ended Finished None) over was.dirty after.dirty log now
  pub next : Running
  pub next_is : turned_job plan job ≡ Some next
  pub jobs_is : after.jobs ≡ with_job id (Some next) was.jobs

-- a plan begins a job, where none is live
pub record JobBegins (was : Stand) (id : ℕ) (plan : Job) (after : Stand) (log now : CallLog) : Type 0 where
  pub none_live : was.jobs ≡ []
  pub after_is : after ≡ record was { jobs = begun_jobs id plan }
  pub now_is : now ≡ log

-- the session stands so then, and the tree's log stays
pub record StandsAt (stand after : Stand) (log now : CallLog) : Type 0 where
  pub after_is : after ≡ stand
  pub now_is : now ≡ log

-- What an event says of where the session stands and of the tree's calls. Today one job is live at a time.
abbrev pub EventLeads : Stand → Event → Stand → CallLog → CallLog → Type 0
EventLeads was (Step id did) after log now = JobSteps was id did after log now
EventLeads was (Next id plan) after log now = JobTurns was id plan after log now
EventLeads was (Began id plan background) after log now = JobBegins was id plan after log now
EventLeads was (Order id order) after log now =
    StandsAt (record was { jobs = map (ordered_job id order) was.jobs }) after log now
EventLeads was (Key key time refusals lost) after log now = StandsAt was after log now
EventLeads was (Look refusals) after log now = StandsAt was after log now
EventLeads was Sought after log now = StandsAt was after log now
EventLeads was Closed after log now = StandsAt was after log now

-- on a closed session each job that waits for an answer is aborted
abbrev pub if_closed : Bool → Stand → Stand
if_closed true stand = record stand { jobs = map closed_job stand.jobs }
if_closed false stand = stand

-- An entry after older ones: from where the session stood, and the log so far, to these. It counts the
-- changing calls that the session has made by its end.
pub record Follows (opening : CallLog) (e : Entry) (older : List Entry) (was : Stand) (before : CallLog)
    (stand : Stand) (now : CallLog) : Type 0 where
  pub after : Stand
  pub leads : EventLeads was e.what after before now
  pub stand_is : stand ≡ if_closed (is_closed (e ∷ older)) after
  pub counts : length now.changes ≡ length opening.changes + e.calls

-- where a session begins
abbrev pub nothing_live : Stand
nothing_live = record { jobs = []; dirty = [] }

-- The tree's log has come from the opening to this one as these entries tell, and the
-- session has come to stand so.
abbrev pub IsTraced : CallLog → List Entry → Stand → CallLog → Type 0
IsTraced opening [] stand now = (stand ≡ nothing_live) × (now ≡ opening)
IsTraced opening (e ∷ older) stand now =
    (was : Stand) × (before : CallLog) × IsTraced opening older was before
    × Follows opening e older was before stand now

-- a session in which no job is live
abbrev pub at_rest : List Route → Stand
at_rest dirty = record { jobs = []; dirty = dirty }

-- The same of a tree that tells what it holds, at the end of a session: it goes on telling, and no job is
-- live. One that tells nothing at the opening never does.
abbrev pub IsTracedTo : Option CallLog → Option CallLog → List Entry → Type 0
IsTracedTo None contents newest = contents ≡ None
IsTracedTo (Some opening) contents newest = (now : CallLog) × (dirty : List Route) × (contents ≡ Some now)
    × IsTraced opening newest (at_rest dirty) now
