-- By induction over a history: a copy that keeps what stands at its target, or merges a folder with that there, has changed nothing for that source.
use Rattle.std.proofs.Common.{◌≡◌, ℕ, Bool, true, false, List, [], ◌∷◌, length, refl, sym, ◌∙◌, ap, subst, inl, inr, Option, Some, None, append-nil}
use Rattle.std.specs.Prelude.{◌+◌, ◌==◌, if◌then◌else◌}
use Rattle.std.specs.Option.{option_map_or}
use Rattle.std.proofs.lemmas.Bool.{eq-eqb}
use Rattle.mc_text.specs.Routes.{Route}
use Rattle.tree_trait.specs.FileSystem.{View}
use Rattle.tree_trait.specs.Shape.{IsTree}
use Rattle.tree_trait.specs.Change.{Change, CallLog, current}
use Rattle.tree_trait.specs.CrashImages.{all_settled}
use Rattle.job_reports.specs.declared.job.Job.{Job}
use Rattle.job_reports.specs.declared.report.Cause.{Cause}
use Rattle.job_reports.specs.declared.report.Did.{Did}
use Rattle.job_reports.specs.declared.report.Did.TheVariants.{Ended}
use Rattle.job_reports.specs.declared.report.Ending.TheVariants.{Finished}
use Rattle.job_reports.specs.Jobs.{Copies}
use Rattle.session_entries.specs.declared.history.Event.{Event}
use Rattle.session_entries.specs.declared.history.Event.TheVariants.{Key, Look, Sought, Order, Step, Next, Closed}
use Rattle.session_entries.specs.declared.history.Event.TheVariants as event
use Rattle.session_entries.specs.declared.history.Entry.{Entry}
use Rattle.session_entries.specs.Entries.{IsMoment, is_closed}
use Rattle.session_entries.specs.LiveJobs.{live_jobs}
use Rattle.session_entries.specs.Sources.{sources_of}
use Rattle.copy_move.specs.declared.run.Course.TheVariants.{GoesOn, Skips}
use Rattle.copy_move.specs.declared.work.Work.{Work}
use Rattle.copy_move.specs.declared.work.Work.TheVariants.{Copy, Delete, Make, Move, SetMode, RemoveEmptied}
use Rattle.make_job.specs.declared.new_thing.NewThing.{NewThing}
use Rattle.make_job.specs.declared.new_thing.NewThing.TheVariants as thing
use Rattle.copy_move.specs.Jobs.{Running, begun_work}
use Rattle.copy_move.specs.JobStepReports.{SkipWalks, SyncsOwed, Walks, WalksOn}
use Rattle.copy_move.specs.Told.{running}
use Rattle.laws_sessions.specs.Replayed.{log_prefix, replayed_event, replayed_step, replayed_tree}
use Rattle.laws_sessions.specs.Traces.{EventLeads, IsTraced, IsUnclaimed, Stand, StepLeads, WorkLeads, before_others, if_closed, unless_ended, with_job}
use Rattle.laws_sessions.proofs.Done.{IsFound, ender, found_moment}
use Rattle.laws_sessions.proofs.Finished.{AreTidy, IsTidyJob, traced_tidy}
use Rattle.laws_sessions.proofs.Going.{only_job}
use Rattle.laws_sessions.proofs.Histories.{IsReached, enters, step_view, traced_reached}
use Rattle.laws_sessions.proofs.Moments.{log_of}
use Rattle.laws_sessions.proofs.Prefixes.{replayed_more, told_of}
use Rattle.laws_sessions.proofs.Reports.{with_one}
use Rattle.laws_sessions.proofs.Sources.{item_in, making_item, tells_same}
use Rattle.laws_sessions.proofs.Stepped.{more}
use Rattle.laws_sessions.proofs.Turns.{Turned, one_turned, turned_id, turned_to}
use Rattle.laws_outcomes.specs.Begun.{begun_after, tree_begun}
use Rattle.laws_outcomes.specs.Keeps.{has_kept, keeps_after, keeps_by}
use Rattle.laws_outcomes.specs.Outcomes.{Finishes}
use Rattle.laws_outcomes.proofs.BegunTrees.{begun_more}
use Rattle.laws_outcomes.proofs.Elsewhere.{ended_on}
use Rattle.laws_outcomes.proofs.TopSteps.{AllSame}
use Rattle.laws_outcomes.proofs.KeptTargets.{JobSpares, JobsSpare, Spares, begun_spares, closed_spare, course_spares, orders_spare, spares_after, turned_spares}
use Rattle.laws_outcomes.proofs.MadeThings.{Unless}
use Rattle.laws_outcomes.proofs.Touching.{UnlessEnding, unless_ending}

if_same : {A : Type 0} (b : Bool) (x y : A) → b ≡ true → (if b then x else y) ≡ x
if_same true x y is = refl
if_same false x y is = absurd (let f : ⊥ = cc in f)

module _ (opening : CallLog) (tree : IsTree (current opening)) (settled : all_settled opening.changes ≡ true) where
  abbrev AllSpared : List Entry → Stand → CallLog → Type 0
  AllSpared g stand now = JobsSpare (replayed_tree opening now g) (λ n. tree_begun opening now n g) (λ n. has_kept n g) stand.jobs

  abbrev Then : List Entry → ℕ → Event → CallLog → List Running → Type 0
  Then older calls what now jobs =
      JobsSpare (replayed_event (log_prefix opening calls now) what (live_jobs older) (replayed_tree opening now older)) (λ n. begun_after n what (replayed_tree opening now older) (tree_begun opening now n older)) (λ n. keeps_after n what (has_kept n older)) jobs

  module _ (older : List Entry) (calls : ℕ) (was : Stand) (before : CallLog) (r : IsReached opening older was before) (k : AllSpared older was before) (id : ℕ) (did : Did) (after : Stand) (now : CallLog)
      (counts : length now.changes ≡ length opening.changes + calls) (job : Running) (jobs_is : was.jobs ≡ job ∷ []) (id_is : job.id ≡ id) (made : List Change) (now_is : now ≡ more before made) where
    abbrev then_view : Did → View
    then_view d = replayed_step now d (Some (item_in job.work)) (replayed_tree opening before older)

    abbrev begun : View
    begun = tree_begun opening before job.id older

    job_spares : UnlessEnding job.course (Spares (replayed_tree opening before older) begun (has_kept job.id older) job.work)
    job_spares = subst (λ js. JobsSpare (replayed_tree opening before older) (λ n. tree_begun opening before n older) (λ n. has_kept n older) js) jobs_is k

    view_is : replayed_event (log_prefix opening calls now) (Step id did) (live_jobs older) (replayed_tree opening now older) ≡ then_view did
    view_is = step_view opening older calls was before r now id did counts job jobs_is id_is made now_is

    begun_is : (n : ℕ) → tree_begun opening now n older ≡ tree_begun opening before n older
    begun_is n = ap (λ (l : CallLog). tree_begun opening l n older) now_is ∙ begun_more opening before made n older r.within

    kept_is : (new : Running) → new.id ≡ job.id → keeps_after new.id (Step id did) (has_kept new.id older) ≡ keeps_by did (has_kept job.id older)
    kept_is new same =
        ap (λ n. keeps_after n (Step id did) (has_kept n older)) same
        ∙ if_same (id == job.id) (keeps_by did (has_kept job.id older)) (has_kept job.id older) (eq-eqb id job.id (sym id_is))

    abbrev Later : Did → Running → Type 0
    Later d new = Unless d (UnlessEnding new.course (Spares (then_view d) begun (keeps_by d (has_kept job.id older)) new.work))

    after_one : (new : Running) → new.id ≡ job.id → Later did new → Then older calls (Step id did) now (before_others (unless_ended did new) [])
    after_one new same h =
        spares_after did (replayed_event (log_prefix opening calls now) (Step id did) (live_jobs older) (replayed_tree opening now older)) (λ n. tree_begun opening now n older) (λ n. keeps_after n (Step id did) (has_kept n older)) new
        (subst (λ v. Unless did (UnlessEnding new.course (Spares v (tree_begun opening now new.id older) (keeps_after new.id (Step id did) (has_kept new.id older)) new.work))) (sym view_is)
        (subst (λ (b : View). Unless did (UnlessEnding new.course (Spares (then_view did) b (keeps_after new.id (Step id did) (has_kept new.id older)) new.work))) (sym (begun_is new.id ∙ ap (λ n. tree_begun opening before n older) same))
        (subst (λ b. Unless did (UnlessEnding new.course (Spares (then_view did) begun b new.work))) (sym (kept_is new same)) h)))

    jobs_then : (new : Option Running) → after.jobs ≡ with_job id new was.jobs → after.jobs ≡ before_others new []
    jobs_then new is = is ∙ (ap (with_job id new) jobs_is ∙ (ap (λ n. with_job n new (job ∷ [])) (sym id_is) ∙ with_one job new))

    -- what the machine does as it passes something over
    skip_walks : (new : Running) → WorkLeads job did new was.dirty after.dirty before now → (cause : Cause) → job.course ≡ Skips cause → SkipWalks cause job.work did new.work
    skip_walks new works cause is =
        let walks = works.walks in
        subst (λ course. WalksOn IsUnclaimed job.replies course job.work new.work did walks.0 was.dirty after.dirty (Some before) (Some now) walks.1 walks.2) is walks.3

    -- and on its way
    goes_walks : (new : Running) (works : WorkLeads job did new was.dirty after.dirty before now) → job.course ≡ GoesOn
        → (let w = works.walks in Walks IsUnclaimed job.replies job.work new.work did w.0 was.dirty after.dirty (Some before) (Some now) w.1 w.2)
    goes_walks new works is =
        let walks = works.walks in
        subst (λ course. WalksOn IsUnclaimed job.replies course job.work new.work did walks.0 was.dirty after.dirty (Some before) (Some now) walks.1 walks.2) is walks.3

    stepped : (new : Option Running) → StepLeads job did new was.dirty after.dirty before now → after.jobs ≡ with_job id new was.jobs → Then older calls (Step id did) now after.jobs
    stepped new (inl (next, inl works, after_is)) is =
        subst (λ js. Then older calls (Step id did) now js) (sym (jobs_then new is ∙ ap (λ o. before_others o []) after_is))
        (let same = tells_same job next did works.tells in
        after_one next same.0 (course_spares now (replayed_tree opening before older) begun (has_kept job.id older) job next did job.course refl works.tells (skip_walks next works)
        (let w = works.walks in w.0) (let w = works.walks in w.1) (let w = works.walks in w.2) was.dirty after.dirty (Some before) (Some now) (goes_walks next works) job_spares))
    stepped new (inl (next, inr syncs, after_is)) is =
        subst (λ js. Then older calls (Step id did) now js) (sym (jobs_then new is ∙ ap (λ o. before_others o []) after_is)) (by syncs.synced)
      where
        by : SyncsOwed job syncs.path did next was.dirty after.dirty (Some before) (Some now) → Then older calls (Step id did) now (before_others (unless_ended did next) [])
        by (inl s) =
            after_one next (ap (λ (x : Running). x.id) s.new_is) (subst (λ (x : Did). Later x next) (sym s.did_is)
            (subst (λ (x : Running). UnlessEnding x.course (Spares (replayed_tree opening before older) begun (has_kept job.id older) x.work)) (sym s.new_is) job_spares))
        by (inr s) =
            after_one next (ap (λ (x : Running). x.id) s.new_is) (subst (λ (x : Did). Later x next) (sym s.did_is)
            (subst (λ (x : Running). UnlessEnding x.course (Spares (replayed_tree opening before older) begun (has_kept job.id older) x.work)) (sym s.new_is)
            (subst (λ c. UnlessEnding c (Spares (replayed_tree opening before older) begun (has_kept job.id older) job.work)) syncs.goes job_spares)))
    stepped new (inr (gives, after_is)) is = subst (λ js. Then older calls (Step id did) now js) (sym (jobs_then new is ∙ ap (λ o. before_others o []) after_is)) tt

  begins : (older : List Entry) (calls : ℕ) (id : ℕ) (plan : Job) (background : Bool) (now : CallLog) (o : Option Work) → begun_work id (sources_of plan) ≡ o
      → Then older calls (event.Began id plan background) now (option_map_or (λ w. running id w ∷ []) o [])
  begins older calls id plan background now None is = tt
  begins older calls id plan background now (Some w) is =
      subst (λ (b : View). Spares (replayed_tree opening now older) b (keeps_after id (event.Began id plan background) (has_kept id older)) w) (sym (if_same (id == id) (replayed_tree opening now older) (tree_begun opening now id older) (eq-eqb id id refl)))
      (subst (λ b. Spares (replayed_tree opening now older) (replayed_tree opening now older) b w) (sym (if_same (id == id) false (has_kept id older) (eq-eqb id id refl)))
      (begun_spares (replayed_tree opening now older) id (sources_of plan) w is))

  -- a job goes on with its next source
  turns : (older : List Entry) (calls : ℕ) (id : ℕ) (plan : Job) (now : CallLog) (job next : Running) → job.id ≡ id → Turned plan job next → Then older calls (Next id plan) now (next ∷ [])
  turns older calls id plan now job next id_is turn =
      let here = eq-eqb id next.id (sym (turned_id plan job next turn ∙ id_is)) in
      unless_ending next.course (Spares (replayed_tree opening now older) (begun_after next.id (Next id plan) (replayed_tree opening now older) (tree_begun opening now next.id older)) (keeps_after next.id (Next id plan) (has_kept next.id older)) next.work)
      (subst (λ (b : View). Spares (replayed_tree opening now older) b (keeps_after next.id (Next id plan) (has_kept next.id older)) next.work) (sym (if_same (id == next.id) (replayed_tree opening now older) (tree_begun opening now next.id older) here))
      (subst (λ b. Spares (replayed_tree opening now older) (replayed_tree opening now older) b next.work) (sym (if_same (id == next.id) false (has_kept next.id older) here))
      (turned_spares (replayed_tree opening now older) plan job next turn)))

  module _ (older : List Entry) (was : Stand) (before : CallLog) (k : AllSpared older was before) (now : CallLog) (now_is : now ≡ before) where
    quiet : (after : Stand) → after ≡ was → JobsSpare (replayed_tree opening now older) (λ n. tree_begun opening now n older) (λ n. has_kept n older) after.jobs
    quiet after after_is =
        subst (λ (st : Stand). JobsSpare (replayed_tree opening now older) (λ n. tree_begun opening now n older) (λ n. has_kept n older) st.jobs) (sym after_is)
        (subst (λ (l : CallLog). JobsSpare (replayed_tree opening l older) (λ n. tree_begun opening l n older) (λ n. has_kept n older) was.jobs) (sym now_is) k)

  event_spared : (older : List Entry) (calls : ℕ) (was : Stand) (before : CallLog) (r : IsReached opening older was before) (k : AllSpared older was before) (what : Event) (after : Stand) (now : CallLog)
      → length now.changes ≡ length opening.changes + calls → EventLeads was what after before now → Then older calls what now after.jobs
  event_spared older calls was before r k (Step id did) after now counts s =
      let one = only_job id was.jobs s.job (told_of opening before older r.part) was.dirty r.marks before s.its r.knows in
      let n = enters opening older calls was before r (Step id did) after now s counts in
      stepped older calls was before r k id did after now counts s.job one.0 one.1 n.made n.now_is s.new s.leads s.jobs_is
  event_spared older calls was before r k (event.Began id plan background) after now counts s =
      subst (λ (st : Stand). Then older calls (event.Began id plan background) now st.jobs) (sym s.after_is) (begins older calls id plan background now (begun_work id (sources_of plan)) refl)
  event_spared older calls was before r k (Next id plan) after now counts s =
      let one = only_job id was.jobs s.job (told_of opening before older r.part) was.dirty r.marks before s.its r.knows in
      subst (λ js. Then older calls (Next id plan) now js) (sym (one_turned id was.jobs s.job s.next after.jobs one.0 one.1 s.jobs_is)) (turns older calls id plan now s.job s.next one.1 (turned_to plan s.job s.next s.next_is))
  event_spared older calls was before r k (Order id order) after now counts s =
      subst (λ (st : Stand). JobsSpare (replayed_tree opening now older) (λ n. tree_begun opening now n older) (λ n. has_kept n older) st.jobs) (sym s.after_is)
      (orders_spare (replayed_tree opening now older) (λ n. tree_begun opening now n older) (λ n. has_kept n older) id order was.jobs (quiet older was before k now s.now_is was refl))
  event_spared older calls was before r k (Key key time refusals lost) after now counts s = quiet older was before k now s.now_is after s.after_is
  event_spared older calls was before r k (Look refusals) after now counts s = quiet older was before k now s.now_is after s.after_is
  event_spared older calls was before r k Sought after now counts s = quiet older was before k now s.now_is after s.after_is
  event_spared older calls was before r k Closed after now counts s = quiet older was before k now s.now_is after s.after_is

  close_spared : (g : List Entry) (b : Bool) (after : Stand) (now : CallLog) → AllSpared g after now → AllSpared g (if_closed b after) now
  close_spared g false after now k = k
  close_spared g true after now k = closed_spare (replayed_tree opening now g) (λ n. tree_begun opening now n g) (λ n. has_kept n g) after.jobs k

  pub traced_spared : (newest : List Entry) (stand : Stand) (now : CallLog) → IsTraced opening newest stand now → AllSpared newest stand now
  traced_spared [] stand now (stand_is, now_is) = subst (λ (st : Stand). AllSpared [] st now) (sym stand_is) tt
  traced_spared (e ∷ older) stand now (was, before, traced, f) =
      subst (λ (st : Stand). AllSpared (e ∷ older) st now) (sym f.stand_is)
      (close_spared (e ∷ older) (is_closed (e ∷ older)) f.after now
      (event_spared older e.calls was before (traced_reached opening tree settled older was before traced) (traced_spared older was before traced) e.what f.after now f.counts f.leads))

-- of a copy that kept something all is the same
made_no_copy : {A : Type 0} (new : NewThing) (path source target : Route) → making_item new path ≡ Copies source target → A
made_no_copy thing.Folder path source target is = absurd (let f : ⊥ = cc in f)
made_no_copy (thing.Link text) path source target is = absurd (let f : ⊥ = cc in f)

pub all_same : (v was : View) (kept : Bool) (work : Work) (source target : Route) → item_in work ≡ Copies source target → kept ≡ true → Spares v was kept work → AllSame v was
all_same v was kept (Copy c) source target is has s = (s.spared.over has).1
all_same v was kept (Delete d) source target is has s = absurd (let f : ⊥ = cc in f)
all_same v was kept (Make m) source target is has s = made_no_copy m.thing m.path source target is
all_same v was kept (Move m) source target is has s = absurd (let f : ⊥ = cc in f)
all_same v was kept (SetMode w) source target is has s = absurd (let f : ⊥ = cc in f)
all_same v was kept (RemoveEmptied r) source target is has s = absurd (let f : ⊥ = cc in f)

module _ (opening now : CallLog) (newest : List Entry) (stand : Stand) (tree : IsTree (current opening)) (settled : all_settled opening.changes ≡ true) (e : Entry) (older : List Entry) (id : ℕ) (source target path : Route)
    (h : Finishes e older id (Copies source target)) (has : has_kept id older ≡ true) where
  abbrev AsBegun : Type 0
  AsBegun = replayed_tree opening now older path ≡ tree_begun opening now id older path

  spared_by : IsFound opening tree settled now e older → AsBegun
  spared_by f = let by = ender opening tree settled now e older id (Copies source target) h.ended h.its f in of_job by.part by.job by.new by.jobs_is by.id_is by.works by.same
    where
      of_job : (part : Option Route) (job new : Running) → f.was.jobs ≡ job ∷ [] → job.id ≡ id → WorkLeads job (Ended Finished part) new f.was.dirty f.after.dirty f.before f.now → item_in job.work ≡ Copies source target → AsBegun
      of_job part job new jobs_is id_is works same =
          let r = traced_reached opening tree settled older f.was f.before f.traced in
          let t : IsTidyJob opening older f.was.dirty f.before job = subst (λ js. AreTidy opening older f.was.dirty f.before js) jobs_is (traced_tidy opening tree settled older f.was f.before f.traced) in
          let k : JobSpares (replayed_tree opening f.before older) (λ n. tree_begun opening f.before n older) (λ n. has_kept n older) job =
          subst (λ js. JobsSpare (replayed_tree opening f.before older) (λ n. tree_begun opening f.before n older) (λ n. has_kept n older) js) jobs_is (traced_spared opening tree settled older f.was f.before f.traced) in
          let s : Spares (replayed_tree opening f.before older) (tree_begun opening f.before job.id older) (has_kept job.id older) job.work =
          ended_on part job new job.course (Spares (replayed_tree opening f.before older) (tree_begun opening f.before job.id older) (has_kept job.id older) job.work) works.tells t.aborted k in
          ap (λ (v : View). v path) (ap (λ (l : CallLog). replayed_tree opening l older) f.end_is ∙ replayed_more opening f.before f.rest older r.within)
          ∙ (all_same _ _ _ job.work source target same (ap (λ n. has_kept n older) id_is ∙ has) s path
          ∙ (ap (λ n. tree_begun opening f.before n older path) id_is
          ∙ ap (λ (v : View). v path) (sym (ap (λ (l : CallLog). tree_begun opening l id older) f.end_is ∙ begun_more opening f.before f.rest id older r.within))))

pub kept_since : (opening now : CallLog) (newest : List Entry) (stand : Stand) → IsTree (current opening) → all_settled opening.changes ≡ true → IsTraced opening newest stand now → (e : Entry) (older : List Entry) (id : ℕ) (source target path : Route)
    → Finishes e older id (Copies source target) → IsMoment newest (e ∷ older) (e ∷ older) e.calls → has_kept id older ≡ true → replayed_tree opening now older path ≡ tree_begun opening now id older path
kept_since opening now newest stand tree settled traced e older id source target path h moment has =
    spared_by opening now newest stand tree settled e older id source target path h has
    (found_moment opening tree settled now e older [] newest (e ∷ older) (e ∷ older) stand e.calls now [] traced (ap (log_of now) (sym (append-nil now.changes))) moment (inl refl))
