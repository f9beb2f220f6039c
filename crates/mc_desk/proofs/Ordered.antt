-- No job is ordered to end as finished: it is finished on its way alone.
use Rattle.std.proofs.Common.{◌≡◌, ℕ, Bool, true, false, List, [], ◌∷◌, Option, Some, None}
use Rattle.std.specs.Prelude.{⊤, ◌&&◌, if◌then◌else◌, option_and_then}
use Rattle.std.specs.Option.{option_map}
use Rattle.job_reports.specs.declared.answer.Answer.{Answer}
use Rattle.job_reports.specs.declared.answer.Answer.TheVariants.{Yes, No, All, Update, Nothing, SizeDiffers, Retry, Skip, SkipAll, Abort}
use Rattle.job_reports.specs.declared.job.Job.{Job}
use Rattle.job_reports.specs.declared.report.Did.{Did}
use Rattle.job_reports.specs.declared.report.Did.TheVariants.{Began as BeganPart, Chunk, Placed, Removed, Made, Set, Kept, Skipped, Cleaned, Barrier, Asked, Merges, Moved, Troubled, Ended}
use Rattle.job_reports.specs.declared.report.Ending.TheVariants.{Finished}
use Rattle.job_reports.specs.declared.report.Trouble.{Trouble}
use Rattle.session_entries.specs.declared.history.Entry.{Entry}
use Rattle.session_entries.specs.declared.history.Event.{Event}
use Rattle.session_entries.specs.declared.history.Event.TheVariants.{Key, Look, Sought, Began, Order, Step, Next, Closed}
use Rattle.session_entries.specs.declared.history.JobOrder.TheVariants.{Answered}
use Rattle.session_entries.specs.Entries.{is_closed}
use Rattle.session_entries.specs.Sources.{sources_of}
use Rattle.copy_move.specs.declared.run.Course.{Course}
use Rattle.copy_move.specs.declared.run.Course.TheVariants.{GoesOn, Asking, InTrouble, OwedSyncFailed, Skips, Ends}
use Rattle.copy_move.specs.declared.work.Work.{Work}
use Rattle.copy_move.specs.Jobs.{Running, answered_job, answered_on, begun_work, closed_course, first_work, halt_of, is_fresh}
use Rattle.copy_move.specs.Told.{after_step, course_told, if_closed, running, turned_job, with_next}
use Rattle.laws_sessions.specs.ToldJob.{after_event, live_job}

abbrev pub NeverSo : Course → Type 0
NeverSo course = course ≡ Ends Finished → ⊥

abbrev pub Never : Option Running → Type 0
Never None = ⊤
Never (Some job) = NeverSo job.course

goes_never : NeverSo GoesOn
goes_never is = absurd cc

told_never : (work : Work) (trouble : Trouble) → NeverSo (course_told work trouble)
told_never work trouble = go (is_fresh work && trouble.barrier)
  where
    go : (b : Bool) → NeverSo (if b then OwedSyncFailed trouble.cause else InTrouble (halt_of trouble))
    go true is = absurd cc
    go false is = absurd cc

step_never : (did : Did) (job : Option Running) → Never job → Never (option_and_then (after_step did) job)
step_never did None h = tt
step_never (BeganPart part) (Some job) h = h
step_never (Chunk count) (Some job) h = h
step_never (Asked question) (Some job) h = λ is. absurd cc
step_never (Merges transfer pair names) (Some job) h = h
step_never (Moved pair) (Some job) h = h
step_never (Set path) (Some job) h = h
step_never (Placed path) (Some job) h = h
step_never (Removed path) (Some job) h = h
step_never (Made path) (Some job) h = h
step_never (Kept path) (Some job) h = h
step_never (Skipped path cause) (Some job) h = goes_never
step_never (Cleaned part) (Some job) h = h
step_never Barrier (Some job) h = h
step_never (Troubled trouble) (Some job) h = told_never job.work trouble
step_never (Ended ending part) (Some job) h = tt

answered_never : (course : Course) (answer : Answer) (job : Running) → NeverSo job.course → (let after : Running = answered_on course answer job in NeverSo after.course)
answered_never (InTrouble halt) Retry job h = goes_never
answered_never (InTrouble halt) Skip job h = λ is. absurd cc
answered_never (InTrouble halt) SkipAll job h = λ is. absurd cc
answered_never (InTrouble halt) Abort job h = λ is. absurd cc
answered_never (InTrouble halt) Yes job h = h
answered_never (InTrouble halt) No job h = h
answered_never (InTrouble halt) All job h = h
answered_never (InTrouble halt) Update job h = h
answered_never (InTrouble halt) Nothing job h = h
answered_never (InTrouble halt) SizeDiffers job h = h
answered_never (OwedSyncFailed cause) Retry job h = goes_never
answered_never (OwedSyncFailed cause) Skip job h = h
answered_never (OwedSyncFailed cause) SkipAll job h = h
answered_never (OwedSyncFailed cause) Abort job h = λ is. absurd cc
answered_never (OwedSyncFailed cause) Yes job h = h
answered_never (OwedSyncFailed cause) No job h = h
answered_never (OwedSyncFailed cause) All job h = h
answered_never (OwedSyncFailed cause) Update job h = h
answered_never (OwedSyncFailed cause) Nothing job h = h
answered_never (OwedSyncFailed cause) SizeDiffers job h = h
answered_never Asking Yes job h = goes_never
answered_never Asking No job h = goes_never
answered_never Asking All job h = goes_never
answered_never Asking Update job h = goes_never
answered_never Asking Nothing job h = goes_never
answered_never Asking SizeDiffers job h = goes_never
answered_never Asking Abort job h = λ is. absurd cc
answered_never Asking Retry job h = h
answered_never Asking Skip job h = h
answered_never Asking SkipAll job h = h
answered_never GoesOn answer job h = h
answered_never (Skips cause) answer job h = h
answered_never (Ends ending) answer job h = h

order_never : (answer : Answer) (job : Option Running) → Never job → Never (option_map (answered_job answer) job)
order_never answer None h = tt
order_never answer (Some job) h = answered_never job.course answer job h

began_never : (id : ℕ) (work : Option Work) → Never (option_map (running id) work)
began_never id None = tt
began_never id (Some work) = goes_never

turned_never : (plan : Job) (job : Option Running) → Never (option_and_then (turned_job plan) job)
turned_never plan None = tt
turned_never plan (Some job) = go (first_work job.id plan)
  where
    go : (work : Option Work) → Never (option_map (λ w. with_next job w) work)
    go None = tt
    go (Some work) = goes_never

event_never : (what : Event) (job : Option Running) → Never job → Never (after_event what job)
event_never (Key key now refusals lost) job h = h
event_never (Look refusals) job h = h
event_never Sought job h = h
event_never (Began id plan background) job h = began_never id (begun_work id (sources_of plan))
event_never (Order id (Answered answer)) job h = order_never answer job h
event_never (Step id did) job h = step_never did job h
event_never (Next id plan) job h = turned_never plan job
event_never Closed job h = h

course_never : (course : Course) → NeverSo course → NeverSo (closed_course course)
course_never GoesOn h = h
course_never (InTrouble halt) h = λ is. absurd cc
course_never (OwedSyncFailed cause) h = λ is. absurd cc
course_never Asking h = λ is. absurd cc
course_never (Skips cause) h = h
course_never (Ends ending) h = h

closed_never : (closed : Bool) (job : Option Running) → Never job → Never (if_closed closed job)
closed_never false job h = h
closed_never true None h = tt
closed_never true (Some job) h = course_never job.course h

pub live_never : (newest : List Entry) → Never (live_job newest)
live_never [] = tt
live_never (e ∷ older) = closed_never (is_closed (e ∷ older)) (after_event e.what (live_job older)) (event_never e.what (live_job older) (live_never older))
