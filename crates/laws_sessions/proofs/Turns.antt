-- A job begins with the first of its sources, and goes on with the next one, of which it passes over what it was to pass over before. Of each it knows
-- what a job of that source alone knows at its beginning.
use Rattle.std.proofs.Common.{◌≡◌, ◌⊎◌, ℕ, false, List, [], ◌∷◌, refl, sym, ◌∙◌, ap, subst, inl, inr, Option, Some, None}
use Rattle.std.specs.Option.{option_map}
use Rattle.mc_text.specs.Routes.{Route}
use Rattle.tree_trait.specs.Change.{CallLog}
use Rattle.laws_crash.specs.Guarded.{Marks}
use Rattle.job_reports.specs.declared.job.Job.{Job}
use Rattle.job_reports.specs.Jobs.{ItemOfJob, item_of}
use Rattle.job_reports.specs.declared.report.Ending.TheVariants.{Finished, Aborted, Killed, NoMemory}
use Rattle.job_reports.specs.declared.report.Did.TheVariants.{Began, Chunk, Placed, Removed, Made, Set, Kept, Skipped, Cleaned, Barrier, Asked, Merges, Moved, Troubled, Ended}
use Rattle.session_entries.specs.declared.history.Event.{Event}
use Rattle.session_entries.specs.declared.history.Event.TheVariants.{Key, Look, Sought, Order, Step, Next, Closed}
use Rattle.session_entries.specs.declared.history.Event.TheVariants as event
use Rattle.session_entries.specs.Sources.{IsDoneWith, item_in as item_first}
use Rattle.copy_move.specs.declared.run.Course.TheVariants.{GoesOn}
use Rattle.copy_move.specs.declared.work.Work.{Work}
use Rattle.copy_move.specs.Jobs.{Running, begun_work, first_work}
use Rattle.copy_move.specs.Told.{turned_job, with_next}
use Rattle.laws_sessions.proofs.JobKnows.{WorkKnows}
use Rattle.laws_sessions.proofs.Knowing.{HistoryFacts}
use Rattle.laws_sessions.specs.Traces.{with_job}
use Rattle.laws_sessions.proofs.Reports.{first_knows, with_one}
use Rattle.laws_sessions.proofs.Sources.{first_item, item_in}
use Rattle.laws_sessions.proofs.Unchanged.{first_clean, has_begun}

-- the work with which a job goes on
pub record Turned (plan : Job) (job next : Running) : Type 0 where
  pub work : Work
  pub first : first_work job.id plan ≡ Some work
  pub next_is : next ≡ with_next job work

pub turned_to : (plan : Job) (job next : Running) → turned_job plan job ≡ Some next → Turned plan job next
turned_to plan job next is = by (first_work job.id plan) refl
  where
    over : Work → Running
    over work = with_next job work

    by : (o : Option Work) → first_work job.id plan ≡ o → Turned plan job next
    by None none = absurd (let e : (let o : Option Running = None in o) ≡ Some next = sym (ap (option_map over) none) ∙ is in let f : ⊥ = cc in f)
    by (Some work) first = record {
      work = work;
      first = first;
      next_is = (let e : Some (over work) ≡ Some next = sym (ap (option_map over) first) ∙ is in let same : over work ≡ next = cc in sym same);
    }

-- the event by which a job is done with a source
pub done_with : (id : ℕ) (what : Event) → IsDoneWith id what → ((plan : Job) × (what ≡ Next id plan)) ⊎ ((part : Option Route) × (what ≡ Step id (Ended Finished part)))
done_with id (Next number plan) is = inl (plan, ap (λ n. Next n plan) is)
done_with id (Step number (Ended Finished part)) is = inr (part, ap (λ n. Step n (Ended Finished part)) is)
done_with id (Step number (Ended Aborted part)) is = absurd is
done_with id (Step number (Ended Killed part)) is = absurd is
done_with id (Step number (Ended NoMemory part)) is = absurd is
done_with id (Step number (Began part)) is = absurd is
done_with id (Step number (Chunk count)) is = absurd is
done_with id (Step number (Set path)) is = absurd is
done_with id (Step number (Placed path)) is = absurd is
done_with id (Step number (Removed path)) is = absurd is
done_with id (Step number (Made made)) is = absurd is
done_with id (Step number (Kept kept)) is = absurd is
done_with id (Step number (Asked question)) is = absurd is
done_with id (Step number (Merges transfer pair names)) is = absurd is
done_with id (Step number (Moved pair)) is = absurd is
done_with id (Step number (Skipped path why)) is = absurd is
done_with id (Step number (Cleaned part)) is = absurd is
done_with id (Step number Barrier) is = absurd is
done_with id (Step number (Troubled trouble)) is = absurd is
done_with id (event.Began number plan background) is = absurd is
done_with id (Order number order) is = absurd is
done_with id (Key key time refusals lost) is = absurd is
done_with id (Look refusals) is = absurd is
done_with id Sought is = absurd is
done_with id Closed is = absurd is

pub turned_id : (plan : Job) (job next : Running) → Turned plan job next → next.id ≡ job.id
turned_id plan job next turn = ap (λ (x : Running). x.id) turn.next_is

-- the one live job is then the one that goes on
pub one_turned : (id : ℕ) (was : List Running) (job next : Running) (jobs : List Running) → was ≡ job ∷ [] → job.id ≡ id → jobs ≡ with_job id (Some next) was → jobs ≡ next ∷ []
one_turned id was job next jobs was_is id_is is =
    is ∙ (ap (with_job id (Some next)) was_is ∙ (ap (λ n. with_job n (Some next) (job ∷ [])) (sym id_is) ∙ with_one job (Some next)))

module _ (told : HistoryFacts) (dirty : List Route) (marks : Marks) (log : CallLog) where
  -- what is known of the next source, where no part stands
  pub turned_knows : (plan : Job) (job next : Running) → told.part ≡ None → (t : Turned plan job next) → WorkKnows told dirty marks log next.course next.work
  turned_knows plan job next none t =
      subst (λ (x : Running). WorkKnows told dirty marks log x.course x.work) (sym t.next_is) (first_knows told dirty marks log none job.id plan t.work t.first)

  -- and of the first
  pub begun_knows : told.part ≡ None → (id : ℕ) (sources : List Job) (work : Work) → begun_work id sources ≡ Some work → WorkKnows told dirty marks log GoesOn work
  begun_knows none id [] work is = absurd (let f : ⊥ = cc in f)
  begun_knows none id (source ∷ more) work is = first_knows told dirty marks log none id source work is

-- it begins with nothing changed
pub begun_clean : (id : ℕ) (sources : List Job) (work : Work) → begun_work id sources ≡ Some work → has_begun work ≡ false
begun_clean id [] work is = absurd (let f : ⊥ = cc in f)
begun_clean id (source ∷ more) work is = first_clean id source work is

pub turned_clean : (plan : Job) (job next : Running) → Turned plan job next → has_begun next.work ≡ false
turned_clean plan job next t = ap (λ (x : Running). has_begun x.work) t.next_is ∙ first_clean job.id plan t.work t.first

-- and its item is that of its source
pub begun_item : (id : ℕ) (sources : List Job) → item_first sources ≡ option_map item_in (begun_work id sources)
begun_item id [] = refl
begun_item id (source ∷ more) = first_item id source

pub turned_item : (plan : Job) (job next : Running) → Turned plan job next → item_of plan ≡ Some (item_in next.work)
turned_item plan job next t =
    first_item job.id plan ∙ (ap (option_map item_in) t.first ∙ ap (λ i. (let o : Option ItemOfJob = Some i in o)) (sym (ap (λ (x : Running). item_in x.work) t.next_is)))
