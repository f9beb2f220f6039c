-- What a job waits with, a question, a trouble or a barrier, is what its newest report tells.
use Rattle.std.proofs.Common.{◌≡◌, ℕ, Bool, true, false, ◌&&◌, List, [], ◌∷◌, refl, sym, ◌∙◌, ap, subst, inl, inr, Option, Some, None}
use Rattle.std.specs.Prelude.{if◌then◌else◌, is_ok, option_and_then, ⊤}
use Rattle.std.specs.Option.{option_map}
use Rattle.std.proofs.lemmas.Bool.{false≢true}
use Rattle.tree_trait.specs.Change.{CallLog}
use Rattle.job_reports.specs.declared.answer.Answer.{Answer}
use Rattle.job_reports.specs.declared.answer.Answer.TheVariants.{Yes, No, All, Update, Nothing, SizeDiffers, Retry, Skip, SkipAll, Abort}
use Rattle.job_reports.specs.declared.report.Did.{Did}
use Rattle.job_reports.specs.declared.report.Did.TheVariants.{Began as BeganPart, Chunk, Placed, Removed, Made, Set, Kept, Skipped, Cleaned, Barrier, Asked, Merges, Moved, Troubled, Ended}
use Rattle.job_reports.specs.declared.report.Trouble.{Trouble}
use Rattle.job_reports.specs.Waits.{waits_at}
use Rattle.job_reports.specs.declared.waits.Waits.{Waits}
use Rattle.job_reports.specs.declared.waits.Waits.TheVariants as waits_with
use Rattle.session_entries.specs.declared.history.Entry.{Entry}
use Rattle.session_entries.specs.declared.history.Event.{Event}
use Rattle.session_entries.specs.declared.history.Event.TheVariants.{Key, Look, Sought, Began, Order, Step, Next, Closed}
use Rattle.session_entries.specs.declared.history.JobOrder.TheVariants.{Answered}
use Rattle.job_reports.specs.declared.job.Job.{Job}
use Rattle.session_entries.specs.Entries.{is_closed}
use Rattle.session_entries.specs.Sources.{sources_of}
use Rattle.copy_move.specs.declared.work.Work.{Work}
use Rattle.copy_move.specs.declared.run.Course.{Course}
use Rattle.copy_move.specs.declared.run.Course.TheVariants.{GoesOn, Asking, InTrouble, OwedSyncFailed, Skips, Ends}
use Rattle.copy_move.specs.Jobs.{Running, MayAnswer, TellsOn, answered_job, answered_on, begun_work, closed_course, closed_job, first_work, halt_of, is_fresh, waiting_on, waits_on}
use Rattle.copy_move.specs.Told.{IsAllowedStep, after_step, course_told, if_closed, running, told_job, turned_job, with_next}
use Rattle.laws_sessions.specs.ToldJob.{after_event, live_job}
use Rattle.job_answers.specs.Answers.{answer_result as then_after, waiting_of}
use Rattle.job_answers.specs.declared.answer.Waiting.TheVariants as waiting
use Rattle.ui_job_boxes.specs.LiveJobs.{takes_answer, waiting_with}
use Rattle.mc_ui.specs.Screens.{Screen}
use Rattle.mc_desk.specs.declared.starts.Start.{Start}
use Rattle.session_log.specs.Told.{is_report, reported_waits, waits_told}
use Rattle.mc_desk.specs.LiveRows.{question_in, row_of, state_with, trouble_in, waits_in}
use Rattle.mc_desk.specs.Sessions.{Before, EventLeads, IsSession, SessionState, before_entry}

-- a job that waits waits with this
abbrev pub WaitsIn : Option Running → Option Waits → Type 0
WaitsIn None t = ⊤
WaitsIn (Some job) t = waits_on job.course ≡ true → option_map waiting_with t ≡ waiting_on job.course

never : (job : Running) (t : Option Waits) → waits_on job.course ≡ false → WaitsIn (Some job) t
never job t goes waits = absurd (false≢true (sym goes ∙ waits))

true_both : (a b : Bool) → (a && b) ≡ true → b ≡ true
true_both true b h = h
true_both false b h = absurd (false≢true h)

-- a trouble is at a barrier where what an ended job left dirty was to be synced, and else the course keeps whether it is
trouble_waits : (live : Running) (trouble : Trouble) → Some (waiting_of trouble) ≡ waiting_on (course_told live.work trouble)
trouble_waits live trouble = go (is_fresh live.work && trouble.barrier) refl
  where
    go : (b : Bool) → (is_fresh live.work && trouble.barrier) ≡ b → Some (waiting_of trouble) ≡ waiting_on (if b then OwedSyncFailed trouble.cause else InTrouble (halt_of trouble))
    go true is = ap (λ b. Some (if b then waiting.Barrier else waiting.Trouble trouble.cause)) (true_both (is_fresh live.work) trouble.barrier is)
    go false is = refl

-- only a job that waits for nothing reports a step
tells_ready : (course : Course) (old new : Running) (did : Did) → TellsOn course old did new → waits_on course ≡ false
tells_ready GoesOn old new did t = refl
tells_ready (InTrouble halt) old new did t = absurd t
tells_ready (OwedSyncFailed cause) old new did t = absurd t
tells_ready Asking old new did t = absurd t
tells_ready (Skips cause) old new did t = refl
tells_ready (Ends ending) old new did t = refl

step_ready : (live : Running) (did : Did) → IsAllowedStep live did → waits_on live.course ≡ false
step_ready live did (inl (old, new, is, tells)) = ap (λ (j : Running). waits_on j.course) (sym is) ∙ tells_ready old.course old new did tells
step_ready live did (inr (inl (ready, at_end))) = ready
step_ready live did (inr (inr (goes, fresh, reports))) = ap waits_on goes

not_ready : (live : Running) (did : Did) → IsAllowedStep live did → waits_on live.course ≡ true → ⊥
not_ready live did allowed waits = false≢true (sym (step_ready live did allowed) ∙ waits)

step_waits : (id : ℕ) (live : Running) (did : Did) → IsAllowedStep live did → WaitsIn (after_step did live) (reported_waits (Step id did))
step_waits id live (BeganPart part) allowed = λ waits. absurd (not_ready live (BeganPart part) allowed waits)
step_waits id live (Chunk count) allowed = λ waits. absurd (not_ready live (Chunk count) allowed waits)
step_waits id live (Set path) allowed = λ waits. absurd (not_ready live (Set path) allowed waits)
step_waits id live (Placed path) allowed = λ waits. absurd (not_ready live (Placed path) allowed waits)
step_waits id live (Removed path) allowed = λ waits. absurd (not_ready live (Removed path) allowed waits)
step_waits id live (Made made) allowed = λ waits. absurd (not_ready live (Made made) allowed waits)
step_waits id live (Kept kept) allowed = λ waits. absurd (not_ready live (Kept kept) allowed waits)
step_waits id live (Skipped path cause) allowed = λ waits. absurd (false≢true waits)
step_waits id live (Cleaned part) allowed = λ waits. absurd (not_ready live (Cleaned part) allowed waits)
step_waits id live Barrier allowed = λ waits. absurd (not_ready live Barrier allowed waits)
step_waits id live (Asked question) allowed = λ waits. refl
step_waits id live (Merges transfer pair names) allowed = λ waits. absurd (not_ready live (Merges transfer pair names) allowed waits)
step_waits id live (Moved pair) allowed = λ waits. absurd (not_ready live (Moved pair) allowed waits)
step_waits id live (Troubled trouble) allowed = λ waits. trouble_waits live trouble
step_waits id live (Ended ending part) allowed = tt

-- an answer lets the job go on, or leaves it as it is
answered_waits : (course : Course) (answer : Answer) (job : Running) (t : Option Waits) → WaitsIn (Some job) t → WaitsIn (Some (answered_on course answer job)) t
answered_waits (InTrouble halt) Retry job t h = λ waits. absurd (false≢true waits)
answered_waits (InTrouble halt) Skip job t h = λ waits. absurd (false≢true waits)
answered_waits (InTrouble halt) SkipAll job t h = λ waits. absurd (false≢true waits)
answered_waits (InTrouble halt) Abort job t h = λ waits. absurd (false≢true waits)
answered_waits (InTrouble halt) Yes job t h = h
answered_waits (InTrouble halt) No job t h = h
answered_waits (InTrouble halt) All job t h = h
answered_waits (InTrouble halt) Update job t h = h
answered_waits (InTrouble halt) Nothing job t h = h
answered_waits (InTrouble halt) SizeDiffers job t h = h
answered_waits (OwedSyncFailed cause) Retry job t h = λ waits. absurd (false≢true waits)
answered_waits (OwedSyncFailed cause) Skip job t h = h
answered_waits (OwedSyncFailed cause) SkipAll job t h = h
answered_waits (OwedSyncFailed cause) Abort job t h = λ waits. absurd (false≢true waits)
answered_waits (OwedSyncFailed cause) Yes job t h = h
answered_waits (OwedSyncFailed cause) No job t h = h
answered_waits (OwedSyncFailed cause) All job t h = h
answered_waits (OwedSyncFailed cause) Update job t h = h
answered_waits (OwedSyncFailed cause) Nothing job t h = h
answered_waits (OwedSyncFailed cause) SizeDiffers job t h = h
answered_waits Asking Yes job t h = λ waits. absurd (false≢true waits)
answered_waits Asking No job t h = λ waits. absurd (false≢true waits)
answered_waits Asking All job t h = λ waits. absurd (false≢true waits)
answered_waits Asking Update job t h = λ waits. absurd (false≢true waits)
answered_waits Asking Nothing job t h = λ waits. absurd (false≢true waits)
answered_waits Asking SizeDiffers job t h = λ waits. absurd (false≢true waits)
answered_waits Asking Abort job t h = λ waits. absurd (false≢true waits)
answered_waits Asking Retry job t h = h
answered_waits Asking Skip job t h = h
answered_waits Asking SkipAll job t h = h
answered_waits GoesOn answer job t h = h
answered_waits (Skips cause) answer job t h = h
answered_waits (Ends ending) answer job t h = h

ordered_waits : (answer : Answer) (job : Option Running) (t : Option Waits) → WaitsIn job t → WaitsIn (option_map (answered_job answer) job) t
ordered_waits answer None t h = tt
ordered_waits answer (Some job) t h = answered_waits job.course answer job t h

began_waits : (id : ℕ) (work : Option Work) (t : Option Waits) → WaitsIn (option_map (running id) work) t
began_waits id None t = tt
began_waits id (Some work) t = λ waits. absurd (false≢true waits)

turned_waits : (plan : Job) (job : Option Running) (t : Option Waits) → WaitsIn (option_and_then (turned_job plan) job) t
turned_waits plan None t = tt
turned_waits plan (Some job) t = go (first_work job.id plan)
  where
    go : (work : Option Work) → WaitsIn (option_map (λ w. with_next job w) work) t
    go None = tt
    go (Some work) = λ waits. absurd (false≢true waits)

event_waits : (was : Before) (what : Event) (after : Screen) (job : Option Running) (t : Option Waits) → was.tally.job ≡ job → EventLeads was what after → WaitsIn job t
    → WaitsIn (after_event what job) (if is_report what then reported_waits what else t)
event_waits was (Key key now refusals lost) after job t is leads h = h
event_waits was (Look refusals) after job t is leads h = h
event_waits was Sought after job t is leads h = h
event_waits was (Began id plan background) after job t is leads h = began_waits id (begun_work id (sources_of plan)) t
event_waits was (Order id (Answered answer)) after job t is leads h = ordered_waits answer job t h
event_waits was (Step id did) after job t is (same, (live, at, number, allowed)) h =
    subst (λ j. WaitsIn (option_and_then (after_step did) j) (reported_waits (Step id did))) (sym at ∙ is) (step_waits id live did allowed)
event_waits was (Next id plan) after job t is leads h = turned_waits plan job t
event_waits was Closed after job t is leads h = h

closed_goes : (course : Course) → waits_on (closed_course course) ≡ false
closed_goes GoesOn = refl
closed_goes (InTrouble halt) = refl
closed_goes (OwedSyncFailed cause) = refl
closed_goes Asking = refl
closed_goes (Skips cause) = refl
closed_goes (Ends ending) = refl

closed_waits : (closed : Bool) (job : Option Running) (t : Option Waits) → WaitsIn job t → WaitsIn (if_closed closed job) t
closed_waits false job t h = h
closed_waits true None t h = tt
closed_waits true (Some job) t h = never (closed_job job) t (closed_goes job.course)

-- so it is in any session
pub session_waits : (start : Option Start) (opening : Option CallLog) (faults : ℕ) (newest : List Entry) (now : SessionState) → IsSession start opening faults newest now → WaitsIn (live_job newest) (waits_told newest)
session_waits start opening faults [] now begins = tt
session_waits start opening faults (e ∷ older) now (was, session, enters) =
    closed_waits (is_closed (e ∷ older)) (after_event e.what (live_job older)) (waits_told (e ∷ older))
    (event_waits (before_entry was.contents older was.screen) e.what now.screen (live_job older) (waits_told older) refl enters.leads
    (session_waits start opening faults older was session))

-- a row says what its job waits with
row_waits : (waits : Option Waits) → waits_at (state_with waits) (question_in waits) (trouble_in waits) ≡ waits
row_waits None = refl
row_waits (Some (waits_with.Question question)) = refl
row_waits (Some (waits_with.Trouble trouble)) = refl

-- a job whose row can be answered so may be answered so
pub may_answer : (job : Running) (t : Option Waits) (answer : Answer) → WaitsIn (Some (told_job job)) t → takes_answer (row_of job t) answer ≡ true → MayAnswer job answer
may_answer job t answer waits takes =
    go (waits_on job.course) refl (sym (ap (λ w. is_ok (then_after (option_map waiting_with w) answer)) (row_waits (waits_in job t))) ∙ takes)
  where
    go : (b : Bool) → waits_on job.course ≡ b → is_ok (then_after (option_map waiting_with (if b then t else None)) answer) ≡ true → MayAnswer job answer
    go false is h = absurd (false≢true h)
    go true is h = record { waits = is; fits = sym (ap (λ w. is_ok (then_after w answer)) (waits is)) ∙ h }
