-- What a job doesn't touch stays as it was where the job began with its source.
use Rattle.std.proofs.Common.{◌≡◌, ℕ, Bool, true, false, List, [], ◌∷◌, length, refl, sym, ◌∙◌, ap, subst, inl, inr, Option, Some, None, append-nil}
use Rattle.std.specs.Prelude.{◌+◌, ◌==◌, if◌then◌else◌}
use Rattle.std.specs.Option.{option_map_or}
use Rattle.std.proofs.lemmas.Bool.{eq-eqb}
use Rattle.mc_text.specs.Routes.{Route}
use Rattle.tree_trait.specs.FileSystem.{View}
use Rattle.tree_trait.specs.Shape.{IsTree}
use Rattle.tree_trait.specs.Change.{Change, CallLog, current}
use Rattle.tree_trait.specs.CrashImages.{all_settled}
use Rattle.job_reports.specs.declared.job.Job.{Job}
use Rattle.job_reports.specs.declared.report.Did.{Did}
use Rattle.job_reports.specs.declared.report.Did.TheVariants.{Ended}
use Rattle.job_reports.specs.declared.report.Ending.{Ending}
use Rattle.job_reports.specs.declared.report.Ending.TheVariants.{Finished, Aborted}
use Rattle.job_reports.specs.Jobs.{ItemOfJob}
use Rattle.session_entries.specs.declared.history.Event.{Event}
use Rattle.session_entries.specs.declared.history.Event.TheVariants.{Key, Look, Sought, Order, Step, Next, Closed}
use Rattle.session_entries.specs.declared.history.Event.TheVariants as event
use Rattle.session_entries.specs.declared.history.Entry.{Entry}
use Rattle.session_entries.specs.Entries.{IsMoment, is_closed}
use Rattle.session_entries.specs.LiveJobs.{live_jobs}
use Rattle.session_entries.specs.Sources.{sources_of}
use Rattle.copy_move.specs.declared.run.Course.{Course}
use Rattle.copy_move.specs.declared.run.Course.TheVariants.{GoesOn, Asking, InTrouble, OwedSyncFailed, Skips, Ends}
use Rattle.copy_move.specs.declared.work.Work.{Work}
use Rattle.copy_move.specs.Jobs.{Running, TellsOn, begun_work}
use Rattle.copy_move.specs.JobStepReports.{SyncsOwed}
use Rattle.copy_move.specs.Told.{running}
use Rattle.laws_sessions.specs.Replayed.{log_prefix, replayed_event, replayed_step, replayed_tree}
use Rattle.laws_sessions.specs.Traces.{EventLeads, IsTraced, Stand, StepLeads, WorkLeads, before_others, if_closed, unless_ended, with_job}
use Rattle.laws_sessions.proofs.Done.{IsFound, ender, found_moment}
use Rattle.laws_sessions.proofs.Finished.{AreTidy, IsTidyJob, traced_tidy}
use Rattle.laws_sessions.proofs.FinishedPaths.{wound_up}
use Rattle.laws_sessions.proofs.Going.{only_job}
use Rattle.laws_sessions.proofs.Histories.{IsReached, enters, step_view, traced_reached}
use Rattle.laws_sessions.proofs.Moments.{log_of}
use Rattle.laws_sessions.proofs.Prefixes.{replayed_more, told_of}
use Rattle.laws_sessions.proofs.Reports.{with_one}
use Rattle.laws_sessions.proofs.Sources.{item_in, tells_same}
use Rattle.laws_sessions.proofs.Stepped.{more}
use Rattle.laws_sessions.proofs.Turns.{Turned, one_turned, turned_id, turned_to}
use Rattle.laws_outcomes.specs.Begun.{begun_after, tree_begun}
use Rattle.laws_outcomes.specs.Outcomes.{Finishes, passed_over}
use Rattle.laws_outcomes.specs.Touched.{touches}
use Rattle.laws_outcomes.proofs.BegunTrees.{begun_more}
use Rattle.laws_outcomes.proofs.Doing.{JobDone, JobsDone}
use Rattle.laws_outcomes.proofs.MadeThings.{Unless}
use Rattle.laws_outcomes.proofs.Outcome.{traced_done}
use Rattle.laws_outcomes.proofs.Touching.{IsAsBegun, JobKept, JobsKept, UnlessEnding, closed_kept, course_touches, kept_after, orders_kept, unless_ending}

if_same : (b : Bool) (x y : View) → b ≡ true → (if b then x else y) ≡ x
if_same true x y is = refl
if_same false x y is = absurd (let f : ⊥ = cc in f)

module _ (opening : CallLog) (tree : IsTree (current opening)) (settled : all_settled opening.changes ≡ true) where
  abbrev AllKept : List Entry → Stand → CallLog → Type 0
  AllKept g stand now = JobsKept (replayed_tree opening now g) (λ n. tree_begun opening now n g) stand.jobs

  abbrev Then : List Entry → ℕ → Event → CallLog → List Running → Type 0
  Then older calls what now jobs =
      JobsKept (replayed_event (log_prefix opening calls now) what (live_jobs older) (replayed_tree opening now older)) (λ n. begun_after n what (replayed_tree opening now older) (tree_begun opening now n older)) jobs

  module _ (older : List Entry) (calls : ℕ) (was : Stand) (before : CallLog) (r : IsReached opening older was before) (traced : IsTraced opening older was before) (k : AllKept older was before) (id : ℕ) (did : Did) (after : Stand) (now : CallLog)
      (counts : length now.changes ≡ length opening.changes + calls) (job : Running) (jobs_is : was.jobs ≡ job ∷ []) (id_is : job.id ≡ id) (made : List Change) (now_is : now ≡ more before made) where
    abbrev then_view : View
    then_view = replayed_step now did (Some (item_in job.work)) (replayed_tree opening before older)

    job_kept : JobKept (replayed_tree opening before older) (λ n. tree_begun opening before n older) job
    job_kept = subst (λ js. JobsKept (replayed_tree opening before older) (λ n. tree_begun opening before n older) js) jobs_is k

    job_done : JobDone (passed_over job.id older) (tree_begun opening before job.id older) (replayed_tree opening before older) (current before) job
    job_done = subst (λ js. JobsDone (λ n. passed_over n older) (λ n. tree_begun opening before n older) (replayed_tree opening before older) (current before) js) jobs_is (traced_done opening tree settled older was before traced)

    view_is : replayed_event (log_prefix opening calls now) (Step id did) (live_jobs older) (replayed_tree opening now older) ≡ then_view
    view_is = step_view opening older calls was before r now id did counts job jobs_is id_is made now_is

    begun_is : (n : ℕ) → tree_begun opening now n older ≡ tree_begun opening before n older
    begun_is n = ap (λ (l : CallLog). tree_begun opening l n older) now_is ∙ begun_more opening before made n older r.within

    after_one : (new : Running) → Unless did (JobKept then_view (λ n. tree_begun opening before n older) new) → Then older calls (Step id did) now (before_others (unless_ended did new) [])
    after_one new h =
        kept_after did (replayed_event (log_prefix opening calls now) (Step id did) (live_jobs older) (replayed_tree opening now older)) (λ n. tree_begun opening now n older) new
        (subst (λ v. Unless did (UnlessEnding new.course (IsAsBegun v (tree_begun opening now new.id older) (item_in new.work)))) (sym view_is)
        (subst (λ (b : View). Unless did (UnlessEnding new.course (IsAsBegun then_view b (item_in new.work)))) (sym (begun_is new.id)) h))

    jobs_then : (new : Option Running) → after.jobs ≡ with_job id new was.jobs → after.jobs ≡ before_others new []
    jobs_then new is = is ∙ (ap (with_job id new) jobs_is ∙ (ap (λ n. with_job n new (job ∷ [])) (sym id_is) ∙ with_one job new))

    stepped : (new : Option Running) → StepLeads job did new was.dirty after.dirty before now → after.jobs ≡ with_job id new was.jobs → Then older calls (Step id did) now after.jobs
    stepped new (inl (next, inl works, after_is)) is =
        subst (λ js. Then older calls (Step id did) now js) (sym (jobs_then new is ∙ ap (λ o. before_others o []) after_is))
        (let w = works.walks in
        after_one next (course_touches was.dirty after.dirty before now (passed_over job.id older) (tree_begun opening before job.id older) (replayed_tree opening before older) job next did job.course w.0 w.1 w.2 (λ n. tree_begun opening before n older) refl works.tells w.3 job_done job_kept (tells_same job next did works.tells)))
    stepped new (inl (next, inr syncs, after_is)) is =
        subst (λ js. Then older calls (Step id did) now js) (sym (jobs_then new is ∙ ap (λ o. before_others o []) after_is)) (by syncs.synced)
      where
        by : SyncsOwed job syncs.path did next was.dirty after.dirty (Some before) (Some now) → Then older calls (Step id did) now (before_others (unless_ended did next) [])
        by (inl s) =
            after_one next (subst (λ (x : Did). Unless x (JobKept (replayed_step now x (Some (item_in job.work)) (replayed_tree opening before older)) (λ n. tree_begun opening before n older) next)) (sym s.did_is)
            (subst (λ (x : Running). JobKept (replayed_tree opening before older) (λ n. tree_begun opening before n older) x) (sym s.new_is) job_kept))
        by (inr s) =
            after_one next (subst (λ (x : Did). Unless x (JobKept (replayed_step now x (Some (item_in job.work)) (replayed_tree opening before older)) (λ n. tree_begun opening before n older) next)) (sym s.did_is)
            (subst (λ (x : Running). JobKept (replayed_tree opening before older) (λ n. tree_begun opening before n older) x) (sym s.new_is)
            (subst (λ c. UnlessEnding c (IsAsBegun (replayed_tree opening before older) (tree_begun opening before job.id older) (item_in job.work))) syncs.goes job_kept)))
    stepped new (inr (gives, after_is)) is = subst (λ js. Then older calls (Step id did) now js) (sym (jobs_then new is ∙ ap (λ o. before_others o []) after_is)) tt

  begins : (older : List Entry) (calls : ℕ) (id : ℕ) (plan : Job) (background : Bool) (now : CallLog) (o : Option Work) → Then older calls (event.Began id plan background) now (option_map_or (λ w. running id w ∷ []) o [])
  begins older calls id plan background now None = tt
  begins older calls id plan background now (Some w) = λ path off. sym (ap (λ (v : View). v path) (if_same (id == id) (replayed_tree opening now older) (tree_begun opening now id older) (eq-eqb id id refl)))

  -- a job goes on with its next source
  turns : (older : List Entry) (calls : ℕ) (id : ℕ) (plan : Job) (now : CallLog) (job next : Running) → job.id ≡ id → Turned plan job next → Then older calls (Next id plan) now (next ∷ [])
  turns older calls id plan now job next id_is turn =
      unless_ending next.course (IsAsBegun (replayed_tree opening now older) (begun_after next.id (Next id plan) (replayed_tree opening now older) (tree_begun opening now next.id older)) (item_in next.work))
      (λ path off. sym (ap (λ (v : View). v path) (if_same (id == next.id) (replayed_tree opening now older) (tree_begun opening now next.id older) (eq-eqb id next.id (sym (turned_id plan job next turn ∙ id_is))))))

  module _ (older : List Entry) (was : Stand) (before : CallLog) (k : AllKept older was before) (now : CallLog) (now_is : now ≡ before) where
    quiet : (after : Stand) → after ≡ was → JobsKept (replayed_tree opening now older) (λ n. tree_begun opening now n older) after.jobs
    quiet after after_is =
        subst (λ (st : Stand). JobsKept (replayed_tree opening now older) (λ n. tree_begun opening now n older) st.jobs) (sym after_is)
        (subst (λ (l : CallLog). JobsKept (replayed_tree opening l older) (λ n. tree_begun opening l n older) was.jobs) (sym now_is) k)

  event_kept : (older : List Entry) (calls : ℕ) (was : Stand) (before : CallLog) (r : IsReached opening older was before) (traced : IsTraced opening older was before) (k : AllKept older was before) (what : Event) (after : Stand) (now : CallLog)
      → length now.changes ≡ length opening.changes + calls → EventLeads was what after before now → Then older calls what now after.jobs
  event_kept older calls was before r traced k (Step id did) after now counts s =
      let one = only_job id was.jobs s.job (told_of opening before older r.part) was.dirty r.marks before s.its r.knows in
      let n = enters opening older calls was before r (Step id did) after now s counts in
      stepped older calls was before r traced k id did after now counts s.job one.0 one.1 n.made n.now_is s.new s.leads s.jobs_is
  event_kept older calls was before r traced k (event.Began id plan background) after now counts s =
      subst (λ (st : Stand). Then older calls (event.Began id plan background) now st.jobs) (sym s.after_is) (begins older calls id plan background now (begun_work id (sources_of plan)))
  event_kept older calls was before r traced k (Next id plan) after now counts s =
      let one = only_job id was.jobs s.job (told_of opening before older r.part) was.dirty r.marks before s.its r.knows in
      subst (λ js. Then older calls (Next id plan) now js) (sym (one_turned id was.jobs s.job s.next after.jobs one.0 one.1 s.jobs_is)) (turns older calls id plan now s.job s.next one.1 (turned_to plan s.job s.next s.next_is))
  event_kept older calls was before r traced k (Order id order) after now counts s =
      subst (λ (st : Stand). JobsKept (replayed_tree opening now older) (λ n. tree_begun opening now n older) st.jobs) (sym s.after_is)
      (orders_kept (replayed_tree opening now older) (λ n. tree_begun opening now n older) id order was.jobs (quiet older was before k now s.now_is was refl))
  event_kept older calls was before r traced k (Key key time refusals lost) after now counts s = quiet older was before k now s.now_is after s.after_is
  event_kept older calls was before r traced k (Look refusals) after now counts s = quiet older was before k now s.now_is after s.after_is
  event_kept older calls was before r traced k Sought after now counts s = quiet older was before k now s.now_is after s.after_is
  event_kept older calls was before r traced k Closed after now counts s = quiet older was before k now s.now_is after s.after_is

  close_kept : (g : List Entry) (b : Bool) (after : Stand) (now : CallLog) → AllKept g after now → AllKept g (if_closed b after) now
  close_kept g false after now k = k
  close_kept g true after now k = closed_kept (replayed_tree opening now g) (λ n. tree_begun opening now n g) after.jobs k

  pub traced_kept : (newest : List Entry) (stand : Stand) (now : CallLog) → IsTraced opening newest stand now → AllKept newest stand now
  traced_kept [] stand now (stand_is, now_is) = subst (λ (st : Stand). AllKept [] st now) (sym stand_is) tt
  traced_kept (e ∷ older) stand now (was, before, traced, f) =
      subst (λ (st : Stand). AllKept (e ∷ older) st now) (sym f.stand_is)
      (close_kept (e ∷ older) (is_closed (e ∷ older)) f.after now
      (event_kept older e.calls was before (traced_reached opening tree settled older was before traced) traced (traced_kept older was before traced) e.what f.after now f.counts f.leads))

-- a job that is finished wasn't aborted
pub ended_on : (part : Option Route) (job new : Running) (course : Course) (Holds : Type 0) → TellsOn course job (Ended Finished part) new → ((ending : Ending) → course ≡ Ends ending → ending ≡ Aborted) → UnlessEnding course Holds → Holds
ended_on part job new GoesOn Holds t aborted k = k
ended_on part job new (InTrouble halt) Holds t aborted k = k
ended_on part job new (OwedSyncFailed cause) Holds t aborted k = k
ended_on part job new Asking Holds t aborted k = k
ended_on part job new (Skips cause) Holds t aborted k = k
ended_on part job new (Ends ending) Holds (work, winds, new_is) aborted k = absurd (let f : Finished ≡ Aborted = wound_up ending job.work work part winds ∙ aborted ending refl in let x : ⊥ = cc in x)

module _ (opening now : CallLog) (newest : List Entry) (stand : Stand) (tree : IsTree (current opening)) (settled : all_settled opening.changes ≡ true) (e : Entry) (older : List Entry) (id : ℕ) (item : ItemOfJob) (path : Route)
    (h : Finishes e older id item) (off : touches item path ≡ false) where
  abbrev AsBegun : Type 0
  AsBegun = replayed_tree opening now older path ≡ tree_begun opening now id older path

  kept_by : IsFound opening tree settled now e older → AsBegun
  kept_by f = let by = ender opening tree settled now e older id item h.ended h.its f in of_job by.part by.job by.new by.jobs_is by.id_is by.works by.same
    where
      of_job : (part : Option Route) (job new : Running) → f.was.jobs ≡ job ∷ [] → job.id ≡ id → WorkLeads job (Ended Finished part) new f.was.dirty f.after.dirty f.before f.now → item_in job.work ≡ item → AsBegun
      of_job part job new jobs_is id_is works same =
          let r = traced_reached opening tree settled older f.was f.before f.traced in
          let t : IsTidyJob opening older f.was.dirty f.before job = subst (λ js. AreTidy opening older f.was.dirty f.before js) jobs_is (traced_tidy opening tree settled older f.was f.before f.traced) in
          let k : JobKept (replayed_tree opening f.before older) (λ n. tree_begun opening f.before n older) job =
          subst (λ js. JobsKept (replayed_tree opening f.before older) (λ n. tree_begun opening f.before n older) js) jobs_is (traced_kept opening tree settled older f.was f.before f.traced) in
          let kept : IsAsBegun (replayed_tree opening f.before older) (tree_begun opening f.before job.id older) (item_in job.work) =
          ended_on part job new job.course (IsAsBegun (replayed_tree opening f.before older) (tree_begun opening f.before job.id older) (item_in job.work)) works.tells t.aborted k in
          ap (λ (v : View). v path) (ap (λ (l : CallLog). replayed_tree opening l older) f.end_is ∙ replayed_more opening f.before f.rest older r.within)
          ∙ (kept path (subst (λ i. touches i path ≡ false) (sym same) off)
          ∙ (ap (λ n. tree_begun opening f.before n older path) id_is
          ∙ ap (λ (v : View). v path) (sym (ap (λ (l : CallLog). tree_begun opening l id older) f.end_is ∙ begun_more opening f.before f.rest id older r.within))))

pub untouched_since : (opening now : CallLog) (newest : List Entry) (stand : Stand) → IsTree (current opening) → all_settled opening.changes ≡ true → IsTraced opening newest stand now → (e : Entry) (older : List Entry) (id : ℕ) (item : ItemOfJob) (path : Route)
    → Finishes e older id item → IsMoment newest (e ∷ older) (e ∷ older) e.calls → touches item path ≡ false → replayed_tree opening now older path ≡ tree_begun opening now id older path
untouched_since opening now newest stand tree settled traced e older id item path h moment off =
    kept_by opening now newest stand tree settled e older id item path h off
    (found_moment opening tree settled now e older [] newest (e ∷ older) (e ∷ older) stand e.calls now [] traced (ap (log_of now) (sym (append-nil now.changes))) moment (inl refl))
