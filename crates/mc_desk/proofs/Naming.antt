-- What is to be looked at is the live job, if there is one.
use Rattle.std.proofs.Common.{◌≡◌, ℕ, Bool, true, false, List, [], ◌∷◌, refl, sym, ap, ◌∙◌, Option, Some, None}
use Rattle.std.specs.Prelude.{option_and_then, if◌then◌else◌}
use Rattle.std.specs.Option.{option_map}
use Rattle.job_reports.specs.declared.report.Did.{Did}
use Rattle.job_reports.specs.declared.report.Did.TheVariants.{Began as BeganPart, Chunk, Placed, Removed, Made, Set, Kept, Skipped, Cleaned, Barrier, Asked, Merges, Moved, Troubled, Ended}
use Rattle.job_reports.specs.declared.answer.Answer.{Answer}
use Rattle.job_reports.specs.declared.answer.Answer.TheVariants.{Yes, No, All, Update, Nothing, SizeDiffers, Retry, Skip, SkipAll, Abort}
use Rattle.session_entries.specs.declared.history.Entry.{Entry}
use Rattle.session_entries.specs.declared.history.Event.{Event}
use Rattle.session_entries.specs.declared.history.Event.TheVariants.{Key, Look, Sought, Began, Order, Step, Next, Closed}
use Rattle.session_entries.specs.declared.history.JobOrder.TheVariants.{Answered}
use Rattle.copy_move.specs.declared.work.Work.{Work}
use Rattle.copy_move.specs.declared.run.Course.{Course}
use Rattle.copy_move.specs.declared.run.Course.TheVariants.{GoesOn, Asking, InTrouble, OwedSyncFailed, Skips, Ends}
use Rattle.job_reports.specs.declared.job.Job.{Job}
use Rattle.session_entries.specs.Sources.{sources_of}
use Rattle.copy_move.specs.Jobs.{Running, answered_job, answered_on, begun_work, first_work}
use Rattle.laws_sessions.specs.ToldJob.{live_job, after_event}
use Rattle.session_entries.specs.Entries.{is_closed}
use Rattle.copy_move.specs.Told.{if_closed, after_step, running, turned_job, with_next}
use Rattle.mc_desk.specs.Tallies.{due_in, due_after, can_step}

-- the number of a job, if there is one, is this
abbrev Numbered : ℕ → Option Running → Type 0
Numbered n job = (live : Running) → job ≡ Some live → live.id ≡ n

still_numbered : (n : ℕ) (b : Bool) (job : Option Running) → Numbered n job → Numbered n (if_closed b job)
still_numbered n false job h = h
still_numbered n true None h = λ live is. absurd cc
still_numbered n true (Some job) h = λ live is. let same : job.id ≡ live.id = cc in sym same ∙ h job refl

step_numbered : (n : ℕ) (did : Did) (job : Option Running) → Numbered n job → Numbered n (option_and_then (after_step did) job)
step_numbered n did None h live is = absurd cc
step_numbered n (BeganPart part) (Some job) h live is = let same : job.id ≡ live.id = cc in sym same ∙ h job refl
step_numbered n (Chunk bytes) (Some job) h live is = let same : job.id ≡ live.id = cc in sym same ∙ h job refl
step_numbered n (Asked question) (Some job) h live is = let same : job.id ≡ live.id = cc in sym same ∙ h job refl
step_numbered n (Merges transfer pair names) (Some job) h live is = let same : job.id ≡ live.id = cc in sym same ∙ h job refl
step_numbered n (Moved pair) (Some job) h live is = let same : job.id ≡ live.id = cc in sym same ∙ h job refl
step_numbered n (Set path) (Some job) h live is = let same : job.id ≡ live.id = cc in sym same ∙ h job refl
step_numbered n (Placed path) (Some job) h live is = let same : job.id ≡ live.id = cc in sym same ∙ h job refl
step_numbered n (Removed path) (Some job) h live is = let same : job.id ≡ live.id = cc in sym same ∙ h job refl
step_numbered n (Made made) (Some job) h live is = let same : job.id ≡ live.id = cc in sym same ∙ h job refl
step_numbered n (Kept kept) (Some job) h live is = let same : job.id ≡ live.id = cc in sym same ∙ h job refl
step_numbered n (Skipped path cause) (Some job) h live is = let same : job.id ≡ live.id = cc in sym same ∙ h job refl
step_numbered n (Cleaned part) (Some job) h live is = let same : job.id ≡ live.id = cc in sym same ∙ h job refl
step_numbered n Barrier (Some job) h live is = let same : job.id ≡ live.id = cc in sym same ∙ h job refl
step_numbered n (Troubled trouble) (Some job) h live is = let same : job.id ≡ live.id = cc in sym same ∙ h job refl
step_numbered n (Ended ending part) (Some job) h live is = absurd cc

answered_id : (answer : Answer) (course : Course) (job : Running) → (answered_on course answer job).id ≡ job.id
answered_id Retry (InTrouble halt) job = refl
answered_id Skip (InTrouble halt) job = refl
answered_id SkipAll (InTrouble halt) job = refl
answered_id Abort (InTrouble halt) job = refl
answered_id Yes (InTrouble halt) job = refl
answered_id No (InTrouble halt) job = refl
answered_id All (InTrouble halt) job = refl
answered_id Update (InTrouble halt) job = refl
answered_id Nothing (InTrouble halt) job = refl
answered_id SizeDiffers (InTrouble halt) job = refl
answered_id Retry (OwedSyncFailed cause) job = refl
answered_id Skip (OwedSyncFailed cause) job = refl
answered_id SkipAll (OwedSyncFailed cause) job = refl
answered_id Abort (OwedSyncFailed cause) job = refl
answered_id Yes (OwedSyncFailed cause) job = refl
answered_id No (OwedSyncFailed cause) job = refl
answered_id All (OwedSyncFailed cause) job = refl
answered_id Update (OwedSyncFailed cause) job = refl
answered_id Nothing (OwedSyncFailed cause) job = refl
answered_id SizeDiffers (OwedSyncFailed cause) job = refl
answered_id Yes Asking job = refl
answered_id No Asking job = refl
answered_id All Asking job = refl
answered_id Update Asking job = refl
answered_id Nothing Asking job = refl
answered_id SizeDiffers Asking job = refl
answered_id Retry Asking job = refl
answered_id Skip Asking job = refl
answered_id SkipAll Asking job = refl
answered_id Abort Asking job = refl
answered_id answer GoesOn job = refl
answered_id answer (Skips cause) job = refl
answered_id answer (Ends ending) job = refl

began_numbered : (n id : ℕ) (work : Option Work) → id ≡ n → Numbered n (option_map (running id) work)
began_numbered n id None is live at = absurd cc
began_numbered n id (Some work) is live at = let same : id ≡ live.id = cc in sym same ∙ is

turned_numbered : (n : ℕ) (plan : Job) (job : Option Running) → Numbered n job → Numbered n (option_and_then (turned_job plan) job)
turned_numbered n plan None h = λ live is. absurd cc
turned_numbered n plan (Some job) h = go (first_work job.id plan)
  where
    go : (work : Option Work) → Numbered n (option_map (λ w. with_next job w) work)
    go None live at = absurd cc
    go (Some work) live at = let same : job.id ≡ live.id = cc in sym same ∙ h job refl

order_numbered : (n : ℕ) (answer : Answer) (job : Option Running) → option_map (λ (live : Running). live.id) job ≡ Some n → Numbered n (option_map (answered_job answer) job)
order_numbered n answer None is live at = absurd cc
order_numbered n answer (Some job) is live at =
    let number : job.id ≡ n = cc in
    let same : (answered_job answer job).id ≡ live.id = let e : answered_job answer job ≡ live = cc in ap (λ (j : Running). j.id) e in
    sym same ∙ (answered_id answer job.course job ∙ number)

event_numbered : (n : ℕ) (what : Event) (job : Option Running) (due : Option ℕ) → ((m : ℕ) → due ≡ Some m → Numbered m job) → due_after what job due ≡ Some n → Numbered n (after_event what job)
event_numbered n (Key key now refusals lost) job due h is = h n is
event_numbered n (Look refusals) job due h is = go (can_step job) is
  where
    go : (b : Bool) → (if b then due else None) ≡ Some n → Numbered n job
    go true is = h n is
    go false is = absurd cc
event_numbered n Sought job due h is = h n is
event_numbered n (Began id plan background) job due h is = began_numbered n id (begun_work id (sources_of plan)) (let number : id ≡ n = cc in number)
event_numbered n (Order id (Answered answer)) job due h is = order_numbered n answer job is
event_numbered n (Step id did) job due h is = step_numbered n did job (h n is)
event_numbered n (Next id plan) job due h is = turned_numbered n plan job (h n is)
event_numbered n Closed job due h is = absurd cc

pub due_is_live : (newest : List Entry) (n : ℕ) → due_in newest ≡ Some n → Numbered n (live_job newest)
due_is_live [] n is = λ live at. absurd cc
due_is_live (e ∷ older) n is = still_numbered n (is_closed (e ∷ older)) (after_event e.what (live_job older)) (event_numbered n e.what (live_job older) (due_in older) (due_is_live older) is)
