-- At which source the live job is: where it has begun no change for one that is the one taken up, and it stays at it until another is.
use Rattle.std.proofs.Common.{◌≡◌, ◌⊎◌, ℕ, Bool, true, false, List, [], ◌∷◌, refl, sym, ◌∙◌, ap, subst, inl, inr, Option, Some, None, true≢false}
use Rattle.std.specs.Prelude.{⊤, map, ◌==◌, ◌||◌, if◌then◌else◌}
use Rattle.std.specs.Option.{option_map_or}
use Rattle.std.proofs.lemmas.Bool.{eq-eqb}
use Rattle.mc_text.specs.Routes.{Route}
use Rattle.tree_trait.specs.Shape.{IsTree}
use Rattle.tree_trait.specs.Change.{Change, CallLog, current}
use Rattle.tree_trait.specs.CrashImages.{Among, all_settled}
use Rattle.job_reports.specs.declared.job.Job.{Job}
use Rattle.job_reports.specs.declared.report.Did.{Did}
use Rattle.job_reports.specs.declared.report.Did.TheVariants.{Began, Chunk, Placed, Removed, Made, Set, Kept, Skipped, Cleaned, Barrier, Asked, Merges, Moved, Troubled, Ended}
use Rattle.job_reports.specs.Jobs.{ItemOfJob, item_of}
use Rattle.job_reports.specs.Reports.{ends}
use Rattle.session_entries.specs.declared.history.Event.{Event}
use Rattle.session_entries.specs.declared.history.Event.TheVariants.{Key, Look, Sought, Order, Step, Next, Closed}
use Rattle.session_entries.specs.declared.history.Event.TheVariants as event
use Rattle.session_entries.specs.declared.history.Entry.{Entry}
use Rattle.session_entries.specs.Named.{begins_change}
use Rattle.session_entries.specs.LiveJobs.{LiveJob, after_event, after_report, live, live_jobs, turned_live_job}
use Rattle.session_entries.specs.Sources.{first_item}
use Rattle.laws_outcomes.specs.Touched.{IsAtSince, taken_after, taken_by, taken_up}
use Rattle.copy_move.specs.Jobs.{Running}
use Rattle.laws_sessions.specs.Traces.{EventLeads, Follows, IsTraced, Stand}
use Rattle.laws_sessions.proofs.Going.{only_job}
use Rattle.laws_sessions.proofs.Histories.{IsReached, traced_reached}
use Rattle.laws_sessions.proofs.Prefixes.{told_of}
use Rattle.laws_sessions.proofs.Reports.{HasLive}
use Rattle.laws_sessions.proofs.Sources.{item_in}

-- each live job is at such a source
abbrev pub AllLive : (ItemOfJob → Type 0) → List LiveJob → Type 0
AllLive Is [] = ⊤
AllLive Is (job ∷ jobs) = Is job.item × AllLive Is jobs

-- each live job is such
abbrev pub AllJobs : (LiveJob → Type 0) → List LiveJob → Type 0
AllJobs Is [] = ⊤
AllJobs Is (job ∷ jobs) = Is job × AllJobs Is jobs

-- it was just taken up
abbrev pub IsJust : ItemOfJob → LiveJob → Type 0
IsJust item job = (job.item ≡ item) × (job.part ≡ None)

pub at_items : (item : ItemOfJob) (jobs : List LiveJob) → AllJobs (IsJust item) jobs → AllLive (λ i. i ≡ item) jobs
at_items item [] all = tt
at_items item (job ∷ jobs) all = ((let h = all.0 in h.0), at_items item jobs all.1)

module _ (Is : ItemOfJob → Type 0) where
  -- a report leaves each at its source, or ends one
  reported : (b : Bool) (job new : LiveJob) (jobs after : List LiveJob) → new.item ≡ job.item → AllLive Is (job ∷ jobs) → AllLive Is after → AllLive Is (if◌then◌else◌ b (new ∷ jobs) (job ∷ after))
  reported true job new jobs after same all rest = (subst Is (sym same) all.0, all.1)
  reported false job new jobs after same all rest = (all.0, rest)

  ended : (b : Bool) (job : LiveJob) (jobs after : List LiveJob) → AllLive Is (job ∷ jobs) → AllLive Is after → AllLive Is (if◌then◌else◌ b jobs (job ∷ after))
  ended true job jobs after all rest = all.1
  ended false job jobs after all rest = (all.0, rest)

  report_live : (id : ℕ) (did : Did) (jobs : List LiveJob) → AllLive Is jobs → AllLive Is (after_report id did jobs)
  report_live id did [] all = tt
  report_live id (Ended ending part) (job ∷ jobs) all = ended (job.id == id) job jobs (after_report id (Ended ending part) jobs) all (report_live id (Ended ending part) jobs all.1)
  report_live id (Began part) (job ∷ jobs) all = reported (job.id == id) job _ jobs (after_report id (Began part) jobs) refl all (report_live id (Began part) jobs all.1)
  report_live id (Chunk count) (job ∷ jobs) all = reported (job.id == id) job _ jobs (after_report id (Chunk count) jobs) refl all (report_live id (Chunk count) jobs all.1)
  report_live id (Placed path) (job ∷ jobs) all = reported (job.id == id) job _ jobs (after_report id (Placed path) jobs) refl all (report_live id (Placed path) jobs all.1)
  report_live id (Removed path) (job ∷ jobs) all = reported (job.id == id) job _ jobs (after_report id (Removed path) jobs) refl all (report_live id (Removed path) jobs all.1)
  report_live id (Made path) (job ∷ jobs) all = reported (job.id == id) job _ jobs (after_report id (Made path) jobs) refl all (report_live id (Made path) jobs all.1)
  report_live id (Set path) (job ∷ jobs) all = reported (job.id == id) job _ jobs (after_report id (Set path) jobs) refl all (report_live id (Set path) jobs all.1)
  report_live id (Kept path) (job ∷ jobs) all = reported (job.id == id) job _ jobs (after_report id (Kept path) jobs) refl all (report_live id (Kept path) jobs all.1)
  report_live id (Skipped path cause) (job ∷ jobs) all = reported (job.id == id) job _ jobs (after_report id (Skipped path cause) jobs) refl all (report_live id (Skipped path cause) jobs all.1)
  report_live id (Cleaned part) (job ∷ jobs) all = reported (job.id == id) job _ jobs (after_report id (Cleaned part) jobs) refl all (report_live id (Cleaned part) jobs all.1)
  report_live id Barrier (job ∷ jobs) all = reported (job.id == id) job _ jobs (after_report id Barrier jobs) refl all (report_live id Barrier jobs all.1)
  report_live id (Asked question) (job ∷ jobs) all = reported (job.id == id) job _ jobs (after_report id (Asked question) jobs) refl all (report_live id (Asked question) jobs all.1)
  report_live id (Merges transfer pair names) (job ∷ jobs) all = reported (job.id == id) job _ jobs (after_report id (Merges transfer pair names) jobs) refl all (report_live id (Merges transfer pair names) jobs all.1)
  report_live id (Moved pair) (job ∷ jobs) all = reported (job.id == id) job _ jobs (after_report id (Moved pair) jobs) refl all (report_live id (Moved pair) jobs all.1)
  report_live id (Troubled trouble) (job ∷ jobs) all = reported (job.id == id) job _ jobs (after_report id (Troubled trouble) jobs) refl all (report_live id (Troubled trouble) jobs all.1)

  begun_none : (id : ℕ) (o : Option ItemOfJob) (jobs : List LiveJob) → o ≡ None → AllLive Is jobs → AllLive Is (option_map_or (λ item. live id item ∷ jobs) o jobs)
  begun_none id None jobs none all = all
  begun_none id (Some item) jobs none all = absurd (let f : ⊥ = cc in f)

  turned_none : (id : ℕ) (o : Option ItemOfJob) (jobs : List LiveJob) → o ≡ None → AllLive Is jobs → AllLive Is (option_map_or (λ item. map (turned_live_job id item) jobs) o jobs)
  turned_none id None jobs none all = all
  turned_none id (Some item) jobs none all = absurd (let f : ⊥ = cc in f)

  -- so does an event that takes up none
  pub event_live : (what : Event) (jobs : List LiveJob) → taken_by what ≡ None → AllLive Is jobs → AllLive Is (after_event what jobs)
  event_live (Step id did) jobs none all = report_live id did jobs all
  event_live (event.Began id plan background) jobs none all = begun_none id (first_item plan) jobs none all
  event_live (Next id plan) jobs none all = turned_none id (item_of plan) jobs none all
  event_live (Order id order) jobs none all = all
  event_live (Key key time refusals lost) jobs none all = all
  event_live (Look refusals) jobs none all = all
  event_live Sought jobs none all = all
  event_live Closed jobs none all = all

-- where an event takes up a source, the live job is at that
module _ (opening : CallLog) (tree : IsTree (current opening)) (settled : all_settled opening.changes ≡ true) (older : List Entry) (was : Stand) (before : CallLog) (traced : IsTraced opening older was before) where
  r : IsReached opening older was before
  r = traced_reached opening tree settled older was before traced

  begins : (id : ℕ) (item : ItemOfJob) (o : Option ItemOfJob) (jobs : List LiveJob) → jobs ≡ [] → o ≡ Some item → AllJobs (IsJust item) (option_map_or (λ x. live id x ∷ jobs) o jobs)
  begins id item None jobs none is = absurd (let f : ⊥ = cc in f)
  begins id item (Some x) jobs none is = (((let e : x ≡ item = cc in e), refl), subst (AllJobs (IsJust item)) (sym none) tt)

  turned : (b : Bool) (id : ℕ) (item : ItemOfJob) (job : LiveJob) → b ≡ true → IsJust item (if◌then◌else◌ b (live id item) job)
  turned true id item job is = (refl, refl)
  turned false id item job is = absurd (true≢false (sym is))

  turns : (id : ℕ) (item : ItemOfJob) (o : Option ItemOfJob) (job : LiveJob) (jobs : List LiveJob) → jobs ≡ job ∷ [] → job.id ≡ id → o ≡ Some item → AllJobs (IsJust item) (option_map_or (λ x. map (turned_live_job id x) jobs) o jobs)
  turns id item None job jobs one is taken = absurd (let f : ⊥ = cc in f)
  turns id item (Some x) job jobs one is taken =
      subst (λ js. AllJobs (IsJust item) (map (turned_live_job id x) js)) (sym one)
      (subst (λ i. IsJust i (turned_live_job id x job)) (let e : x ≡ item = cc in e) (turned (job.id == id) id x job (eq-eqb job.id id is)), tt)

  pub taken_live : (what : Event) (after : Stand) (now : CallLog) (item : ItemOfJob) → EventLeads was what after before now → taken_by what ≡ Some item → AllJobs (IsJust item) (after_event what (live_jobs older))
  taken_live (event.Began id plan background) after now item s is =
      begins id item (first_item plan) (live_jobs older) (subst (λ js. HasLive (live_jobs older) js r.part) s.none_live r.live) is
  taken_live (Next id plan) after now item s is =
      let one = only_job id was.jobs s.job (told_of opening before older r.part) was.dirty r.marks before s.its r.knows in
      turns id item (item_of plan) (let l : LiveJob = record { id = (let j : Running = s.job in j.id); item = item_in (let j : Running = s.job in j.work); part = r.part } in l) (live_jobs older)
      (subst (λ js. HasLive (live_jobs older) js r.part) one.0 r.live) one.1 is
  taken_live (Step id did) after now item s is = absurd (let f : ⊥ = cc in f)
  taken_live (Order id order) after now item s is = absurd (let f : ⊥ = cc in f)
  taken_live (Key key time refusals lost) after now item s is = absurd (let f : ⊥ = cc in f)
  taken_live (Look refusals) after now item s is = absurd (let f : ⊥ = cc in f)
  taken_live Sought after now item s is = absurd (let f : ⊥ = cc in f)
  taken_live Closed after now item s is = absurd (let f : ⊥ = cc in f)

-- at such a source is each live job
pub all_map : (A B : ItemOfJob → Type 0) (jobs : List LiveJob) → ((i : ItemOfJob) → A i → B i) → AllLive A jobs → AllLive B jobs
all_map A B [] to all = tt
all_map A B (job ∷ jobs) to all = (to job.item all.0, all_map A B jobs to all.1)

-- as of each of them
pub all_live : (Is : ItemOfJob → Type 0) (jobs : List LiveJob) → ((job : LiveJob) → Among jobs job → Is job.item) → AllLive Is jobs
all_live Is [] each = tt
all_live Is (job ∷ jobs) each = (each job (inl refl), all_live Is jobs (λ other among. each other (inr among)))

-- a report that begins no change and no end leaves each at its source, and without a part
module _ (item : ItemOfJob) where
  just_if : (b : Bool) (job new : LiveJob) (jobs after : List LiveJob) → IsJust item new → AllJobs (IsJust item) (job ∷ jobs) → AllJobs (IsJust item) after → AllJobs (IsJust item) (if◌then◌else◌ b (new ∷ jobs) (job ∷ after))
  just_if true job new jobs after just all rest = (just, all.1)
  just_if false job new jobs after just all rest = (all.0, rest)

  report_just : (id : ℕ) (did : Did) (jobs : List LiveJob) → (begins_change did || ends did) ≡ false → AllJobs (IsJust item) jobs → AllJobs (IsJust item) (after_report id did jobs)
  report_just id did [] quiet all = tt
  report_just id (Ended ending part) (job ∷ jobs) quiet all = absurd (true≢false quiet)
  report_just id (Began part) (job ∷ jobs) quiet all = absurd (true≢false quiet)
  report_just id (Removed path) (job ∷ jobs) quiet all = absurd (true≢false quiet)
  report_just id (Made path) (job ∷ jobs) quiet all = absurd (true≢false quiet)
  report_just id (Set path) (job ∷ jobs) quiet all = absurd (true≢false quiet)
  report_just id (Moved pair) (job ∷ jobs) quiet all = absurd (true≢false quiet)
  report_just id (Chunk count) (job ∷ jobs) quiet all = just_if (job.id == id) job _ jobs (after_report id (Chunk count) jobs) all.0 all (report_just id (Chunk count) jobs quiet all.1)
  report_just id (Placed path) (job ∷ jobs) quiet all = just_if (job.id == id) job _ jobs (after_report id (Placed path) jobs) (all.0.0, refl) all (report_just id (Placed path) jobs quiet all.1)
  report_just id (Kept path) (job ∷ jobs) quiet all = just_if (job.id == id) job _ jobs (after_report id (Kept path) jobs) all.0 all (report_just id (Kept path) jobs quiet all.1)
  report_just id (Skipped path cause) (job ∷ jobs) quiet all = just_if (job.id == id) job _ jobs (after_report id (Skipped path cause) jobs) all.0 all (report_just id (Skipped path cause) jobs quiet all.1)
  report_just id (Cleaned part) (job ∷ jobs) quiet all = just_if (job.id == id) job _ jobs (after_report id (Cleaned part) jobs) (all.0.0, refl) all (report_just id (Cleaned part) jobs quiet all.1)
  report_just id Barrier (job ∷ jobs) quiet all = just_if (job.id == id) job _ jobs (after_report id Barrier jobs) all.0 all (report_just id Barrier jobs quiet all.1)
  report_just id (Asked question) (job ∷ jobs) quiet all = just_if (job.id == id) job _ jobs (after_report id (Asked question) jobs) all.0 all (report_just id (Asked question) jobs quiet all.1)
  report_just id (Merges transfer pair names) (job ∷ jobs) quiet all = just_if (job.id == id) job _ jobs (after_report id (Merges transfer pair names) jobs) all.0 all (report_just id (Merges transfer pair names) jobs quiet all.1)
  report_just id (Troubled trouble) (job ∷ jobs) quiet all = just_if (job.id == id) job _ jobs (after_report id (Troubled trouble) jobs) all.0 all (report_just id (Troubled trouble) jobs quiet all.1)

some_of : {A : Type 0} (x : A) → (let o : Option A = None in o) ≡ Some x → ⊥
some_of x is = cc

-- So where a source is taken up, and the job has begun no change for it, it is at that, and no part stands.
module _ (opening : CallLog) (tree : IsTree (current opening)) (settled : all_settled opening.changes ≡ true) where
  pub taken_just : (g : List Entry) (stand : Stand) (now : CallLog) → IsTraced opening g stand now → (item : ItemOfJob) → taken_up g ≡ Some item → AllJobs (IsJust item) (live_jobs g)
  taken_just [] stand now traced item is = absurd (some_of item is)
  taken_just (e ∷ older) stand now (was, before, traced, f) item is = by (taken_just older was before traced item) e.what refl
    where
      stepped : (taken_up older ≡ Some item → AllJobs (IsJust item) (live_jobs older)) → (b : Bool) (id : ℕ) (did : Did) → (begins_change did || ends did) ≡ b → (if b then None else taken_up older) ≡ Some item → AllJobs (IsJust item) (after_report id did (live_jobs older))
      stepped earlier true id did quiet taken = absurd (some_of item taken)
      stepped earlier false id did quiet taken = report_just item id did (live_jobs older) quiet (earlier taken)

      here : (what : Event) → e.what ≡ what → taken_after what (taken_up older) ≡ Some item
      here what same = sym (ap (λ w. taken_after w (taken_up older)) same) ∙ is

      up : (what : Event) → e.what ≡ what → taken_by what ≡ Some item → AllJobs (IsJust item) (after_event what (live_jobs older))
      up what same taken = taken_live opening tree settled older was before traced what f.after now item (subst (λ w. EventLeads was w f.after before now) same f.leads) taken

      all : (taken_up older ≡ Some item → AllJobs (IsJust item) (live_jobs older)) → (what : Event) → e.what ≡ what → AllJobs (IsJust item) (after_event what (live_jobs older))
      all earlier (Step id did) same = stepped earlier (begins_change did || ends did) id did refl (here (Step id did) same)
      all earlier (event.Began id plan background) same = up (event.Began id plan background) same (here (event.Began id plan background) same)
      all earlier (Next id plan) same = up (Next id plan) same (here (Next id plan) same)
      all earlier (Order id order) same = earlier (here (Order id order) same)
      all earlier (Key key time refusals lost) same = earlier (here (Key key time refusals lost) same)
      all earlier (Look refusals) same = earlier (here (Look refusals) same)
      all earlier Sought same = earlier (here Sought same)
      all earlier Closed same = earlier (here Closed same)

      by : (taken_up older ≡ Some item → AllJobs (IsJust item) (live_jobs older)) → (what : Event) → e.what ≡ what → AllJobs (IsJust item) (live_jobs (e ∷ older))
      by earlier what same = subst (λ w. AllJobs (IsJust item) (after_event w (live_jobs older))) (sym same) (all earlier what same)

  pub taken_item : (g : List Entry) (stand : Stand) (now : CallLog) → IsTraced opening g stand now → (item : ItemOfJob) → taken_up g ≡ Some item → AllLive (λ i. i ≡ item) (live_jobs g)
  taken_item g stand now traced item is = at_items item (live_jobs g) (taken_just g stand now traced item is)

-- Each live job stays at its source until one is taken up.
module _ (begun : List Entry) (Is : ItemOfJob → Type 0) (its : AllLive Is (live_jobs begun)) where
  pub live_since : (g : List Entry) → IsAtSince begun g → AllLive Is (live_jobs g)
  live_since [] same = subst (λ xs. AllLive Is (live_jobs xs)) same its
  live_since (e ∷ older) (inl same) = subst (λ xs. AllLive Is (live_jobs xs)) same its
  live_since (e ∷ older) (inr (none, since)) = event_live Is e.what (live_jobs older) none (live_since older since)

-- no part stands
abbrev pub NoPart : List LiveJob → Type 0
NoPart jobs = AllJobs (λ job. job.part ≡ None) jobs

pub just_bare : (item : ItemOfJob) (jobs : List LiveJob) → AllJobs (IsJust item) jobs → NoPart jobs
just_bare item [] all = tt
just_bare item (job ∷ jobs) all = ((let h = all.0 in h.1), just_bare item jobs all.1)

-- the source that is taken up, if one is
pub taken_either : (what : Event) → (taken_by what ≡ None) ⊎ ((item : ItemOfJob) × (taken_by what ≡ Some item))
taken_either what = by (taken_by what) refl
  where
    by : (o : Option ItemOfJob) → taken_by what ≡ o → (taken_by what ≡ None) ⊎ ((item : ItemOfJob) × (taken_by what ≡ Some item))
    by None is = inl is
    by (Some item) is = inr (item, is)
