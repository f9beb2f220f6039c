-- With one job live at a time no other job names a path while one is at its source.
use Rattle.std.proofs.Common.{◌≡◌, ℕ, Bool, true, false, List, [], ◌∷◌, refl, sym, ◌∙◌, ap, subst, Option, Some, None, if◌then◌else◌}
use Rattle.std.specs.Prelude.{◌==◌, ◌||◌, ◌&&◌, not}
use Rattle.std.specs.Option.{option_map_or}
use Rattle.std.proofs.lemmas.Bool.{eq-eqb, eqb-true}
use Rattle.mc_text.specs.Routes.{Route}
use Rattle.tree_trait.specs.Shape.{IsTree}
use Rattle.tree_trait.specs.Change.{CallLog, current}
use Rattle.tree_trait.specs.CrashImages.{all_settled}
use Rattle.job_reports.specs.declared.job.Job.{Job}
use Rattle.job_reports.specs.declared.report.Did.{Did}
use Rattle.job_reports.specs.declared.report.Did.TheVariants.{Began, Chunk, Placed, Removed, Made, Set, Kept, Skipped, Cleaned, Barrier, Asked, Merges, Moved, Troubled, Ended}
use Rattle.job_reports.specs.Jobs.{ItemOfJob, item_of}
use Rattle.session_entries.specs.Sources.{first_item}
use Rattle.session_entries.specs.declared.history.Event.{Event}
use Rattle.session_entries.specs.declared.history.Event.TheVariants.{Key, Look, Sought, Order, Step, Next, Closed}
use Rattle.session_entries.specs.declared.history.Event.TheVariants as event
use Rattle.session_entries.specs.declared.history.Entry.{Entry}
use Rattle.session_entries.specs.LiveJobs.{LiveJob, after_event, after_report, live, live_item, live_jobs, turned_live_job}
use Rattle.session_entries.specs.Named.{names}
use Rattle.copy_move.specs.Jobs.{Running}
use Rattle.laws_sessions.specs.Traces.{EventLeads, IsJob, IsTraced, Stand}
use Rattle.laws_sessions.proofs.Going.{only_job}
use Rattle.laws_sessions.proofs.Histories.{IsReached, traced_reached}
use Rattle.laws_sessions.proofs.OneLive.{one_id}
use Rattle.laws_sessions.proofs.Prefixes.{told_of}
use Rattle.laws_sessions.proofs.Reports.{HasLive}
use Rattle.laws_sessions.proofs.Sources.{item_in}
use Rattle.laws_outcomes.specs.Others.{have_others_named, others_after}
use Rattle.laws_outcomes.specs.OthersLaw.{NoOthersLaw}

none_live : (id : ℕ) (item : ItemOfJob) → live_item id [] ≡ Some item → {A : Type 0} → A
none_live id item its = let no : ⊥ = cc in absurd no

-- after a report of the one live job, the one that is live has its number
module _ (l : LiveJob) (number id : ℕ) (item : ItemOfJob) where
  ended : (b : Bool) → live_item id (if◌then◌else◌ b [] (l ∷ [])) ≡ Some item → l.id ≡ id
  ended true its = none_live id item its
  ended false its = one_id l id item its

  goes : (part : Option Route) (b : Bool) → live_item id (if◌then◌else◌ b ((record l { part = part }) ∷ []) (l ∷ [])) ≡ Some item → l.id ≡ id
  goes part true its = one_id (record l { part = part }) id item its
  goes part false its = one_id l id item its

  reported : (did : Did) → live_item id (after_report number did (l ∷ [])) ≡ Some item → l.id ≡ id
  reported (Ended ending part) its = ended (l.id == number) its
  reported (Began part) its = goes (Some part) (l.id == number) its
  reported (Placed path) its = goes None (l.id == number) its
  reported (Cleaned part) its = goes None (l.id == number) its
  reported (Chunk count) its = goes l.part (l.id == number) its
  reported (Set path) its = goes l.part (l.id == number) its
  reported (Removed path) its = goes l.part (l.id == number) its
  reported (Made made) its = goes l.part (l.id == number) its
  reported (Kept kept) its = goes l.part (l.id == number) its
  reported (Skipped path cause) its = goes l.part (l.id == number) its
  reported Barrier its = goes l.part (l.id == number) its
  reported (Asked question) its = goes l.part (l.id == number) its
  reported (Merges transfer pair names) its = goes l.part (l.id == number) its
  reported (Moved pair) its = goes l.part (l.id == number) its
  reported (Troubled trouble) its = goes l.part (l.id == number) its

-- so after it has gone on with its next source
turned : (l : LiveJob) (number id : ℕ) (item : ItemOfJob) (o : Option ItemOfJob) → l.id ≡ number → live_item id (option_map_or (λ i. Rattle.std.specs.Prelude.map (turned_live_job number i) (l ∷ [])) o (l ∷ [])) ≡ Some item → number ≡ id
turned l number id item None is its = sym is ∙ one_id l id item its
turned l number id item (Some i) is its = by (l.id == number) its
  where
    by : (b : Bool) → live_item id (if◌then◌else◌ b (live number i) l ∷ []) ≡ Some item → number ≡ id
    by true h = one_id (live number i) id item h
    by false h = sym is ∙ one_id l id item h

begun : (number id : ℕ) (item : ItemOfJob) (o : Option ItemOfJob) → live_item id (option_map_or (λ i. live number i ∷ []) o []) ≡ Some item → number ≡ id
begun number id item None its = none_live id item its
begun number id item (Some i) its = one_id (live number i) id item its

self : (number id : ℕ) (before : Bool) → number ≡ id → if◌then◌else◌ (number == id) false before ≡ false
self number id before same = ap (λ b. if◌then◌else◌ b false before) (eq-eqb number id same)

module _ (opening : CallLog) (tree : IsTree (current opening)) (settled : all_settled opening.changes ≡ true) (id : ℕ) (path : Route) where
  module _ (older : List Entry) (was : Stand) (before : CallLog) (traced : IsTraced opening older was before) (after : Stand) (now : CallLog) (item : ItemOfJob)
      (earlier : (i : ItemOfJob) → live_item id (live_jobs older) ≡ Some i → have_others_named id path older ≡ false) where
    r : IsReached opening older was before
    r = traced_reached opening tree settled older was before traced

    one : (number : ℕ) (job : Running) → IsJob number was.jobs job → (l : LiveJob) × (live_jobs older ≡ l ∷ []) × (l.id ≡ number)
    one number job its_job =
        let only = only_job number was.jobs job (told_of opening before older r.part) was.dirty r.marks before its_job r.knows in
        let l : LiveJob = record { id = job.id; item = item_in job.work; part = r.part } in
        (l, subst (λ js. HasLive (live_jobs older) js r.part) only.0 r.live, only.1)

    stepped : (number : ℕ) (did : Did) (l : LiveJob) → live_jobs older ≡ l ∷ [] → l.id ≡ number → live_item id (after_report number did (live_jobs older)) ≡ Some item → others_after id path (Step number did) (have_others_named id path older) ≡ false
    stepped number did l is number_is h =
        let same : l.id ≡ id = reported l number id item did (subst (λ js. live_item id (after_report number did js) ≡ Some item) is h) in
        let mine : live_item id (live_jobs older) ≡ Some l.item = subst (λ js. live_item id js ≡ Some l.item) (sym is) (ap (λ b. if◌then◌else◌ b (Some l.item) None) (eq-eqb l.id id same)) in
        ap (λ b. b || (not (number == id) && names did path)) (earlier l.item mine) ∙ ap (λ b. not b && names did path) (eq-eqb number id (sym number_is ∙ same))

    by : (what : Event) → EventLeads was what after before now → live_item id (after_event what (live_jobs older)) ≡ Some item → others_after id path what (have_others_named id path older) ≡ false
    by (Step number did) s h = let o = one number s.job s.its in stepped number did o.0 o.1 o.2 h
    by (Next number plan) s h =
        let o = one number s.job s.its in
        self number id (have_others_named id path older) (turned o.0 number id item (item_of plan) o.2 (subst (λ js. live_item id (option_map_or (λ i. Rattle.std.specs.Prelude.map (turned_live_job number i) js) (item_of plan) js) ≡ Some item) o.1 h))
    by (event.Began number plan background) s h =
        let none : live_jobs older ≡ [] = subst (λ js. HasLive (live_jobs older) js r.part) s.none_live r.live in
        self number id (have_others_named id path older) (begun number id item (first_item plan) (subst (λ js. live_item id (option_map_or (λ i. live number i ∷ js) (first_item plan) js) ≡ Some item) none h))
    by (Key key time refusals lost) s h = earlier item h
    by (Look refusals) s h = earlier item h
    by Sought s h = earlier item h
    by (Order number order) s h = earlier item h
    by Closed s h = earlier item h

  pub none_others : (g : List Entry) (stand : Stand) (now : CallLog) → IsTraced opening g stand now → (item : ItemOfJob) → live_item id (live_jobs g) ≡ Some item → have_others_named id path g ≡ false
  none_others [] stand now traced item its = refl
  none_others (e ∷ older) stand now (was, before, traced, f) item its = by older was before traced f.after now item (λ i is. none_others older was before traced i is) e.what f.leads its

pub no_others_law : NoOthersLaw
no_others_law opening now newest stand id item path tree settled traced its = none_others opening tree settled id path newest stand now traced item its
