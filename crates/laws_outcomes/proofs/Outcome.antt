-- By induction over a history: what each live job knows of what it leaves; and so what a finished one has left.
use Rattle.std.proofs.Common.{◌≡◌, ℕ, Bool, true, false, List, [], ◌∷◌, length, refl, sym, ◌∙◌, ap, subst, inl, inr, Option, Some, None, append-nil}
use Rattle.std.specs.Prelude.{◌+◌, ◌==◌, if◌then◌else◌}
use Rattle.std.specs.Option.{option_map_or}
use Rattle.std.proofs.lemmas.Bool.{eq-eqb}
use Rattle.mc_text.specs.Routes.{Route}
use Rattle.tree_trait.specs.declared.file_system.FileSystem.{FileSystem}
use Rattle.tree_trait.specs.FileSystem.{View}
use Rattle.tree_trait.specs.Shape.{IsTree}
use Rattle.tree_trait.specs.Change.{Change, CallLog, current}
use Rattle.tree_trait.specs.CrashImages.{all_settled}
use Rattle.job_answers.specs.declared.replies.Replies.{Replies}
use Rattle.job_reports.specs.declared.job.Job.{Job}
use Rattle.job_reports.specs.declared.report.Did.{Did}
use Rattle.job_reports.specs.declared.report.Did.TheVariants.{Ended}
use Rattle.job_reports.specs.declared.report.Ending.TheVariants.{Finished, Aborted}
use Rattle.job_reports.specs.Jobs.{ItemOfJob}
use Rattle.session_entries.specs.declared.history.Event.{Event}
use Rattle.session_entries.specs.declared.history.Event.TheVariants.{Key, Look, Sought, Order, Step, Next, Closed}
use Rattle.session_entries.specs.declared.history.Event.TheVariants as event
use Rattle.session_entries.specs.declared.history.Entry.{Entry}
use Rattle.session_entries.specs.Entries.{is_closed}
use Rattle.session_entries.specs.LiveJobs.{live_item, live_jobs}
use Rattle.session_entries.specs.Sources.{sources_of}
use Rattle.copy_move.specs.declared.run.Course.{Course}
use Rattle.copy_move.specs.declared.run.Course.TheVariants.{GoesOn, Asking, InTrouble, OwedSyncFailed, Skips, Ends}
use Rattle.copy_move.specs.declared.work.Work.{Work}
use Rattle.copy_move.specs.declared.work.Work.TheVariants.{Copy, Delete, Make, Move, SetMode, RemoveEmptied}
use Rattle.copy_move.specs.Jobs.{Running, TellsOn, WorkTells, begun_work}
use Rattle.copy_move.specs.JobStepReports.{SyncsOwed, Walks, WalksOn}
use Rattle.copy_move.specs.Told.{running}
use Rattle.laws_sessions.specs.Replayed.{log_prefix, replayed_event, replayed_step, replayed_tree}
use Rattle.laws_sessions.specs.Traces.{EventLeads, IsTraced, IsUnclaimed, Stand, StepLeads, WorkLeads, before_others, if_closed, unless_ended, with_job}
use Rattle.laws_sessions.proofs.Done.{IsFound, ender, found_moment}
use Rattle.laws_sessions.proofs.FinishedPaths.{wound_up}
use Rattle.laws_sessions.proofs.Finished.{AreTidy, IsTidyJob, traced_tidy}
use Rattle.laws_sessions.proofs.Going.{only_job}
use Rattle.laws_sessions.proofs.Histories.{IsReached, enters, step_view, traced_reached}
use Rattle.laws_sessions.proofs.JobKnows.{WorkKnows}
use Rattle.laws_sessions.proofs.Moments.{log_of}
use Rattle.laws_sessions.proofs.Prefixes.{replayed_more, told_of}
use Rattle.laws_sessions.proofs.Reports.{HasLive, JobsKnow, with_one}
use Rattle.laws_sessions.proofs.Sources.{item_in, tells_same}
use Rattle.laws_sessions.proofs.Stepped.{more}
use Rattle.laws_sessions.proofs.Turns.{Turned, one_turned, turned_id, turned_to}
use Rattle.laws_outcomes.specs.Begun.{begun_after, tree_begun}
use Rattle.laws_outcomes.specs.Outcomes.{Finishes, IsOutcome, passed_after, passed_in, passed_over}
use Rattle.laws_outcomes.specs.OutcomeLaws.{OutcomeLaw}
use Rattle.laws_outcomes.proofs.BegunTrees.{begun_more}
use Rattle.laws_outcomes.proofs.CopyOutcome.{tree_ends}
use Rattle.laws_outcomes.proofs.Deletions.{deletion_ends}
use Rattle.laws_outcomes.proofs.Doing.{CourseDone, JobDone, JobsDone, WorkDone, begun_done, closed_done, jobs_after, leads_done, orders_done, turned_done}
use Rattle.laws_outcomes.proofs.MadeThings.{Unless, making_ends, setting_ends}
use Rattle.laws_outcomes.proofs.MovedThings.{moving_ends}
use Rattle.laws_outcomes.proofs.RemovedThings.{removal_ends}
use Rattle.laws_outcomes.proofs.Owed.{owed_still}

if_same : {A : Type 0} (b : Bool) (x y : A) → b ≡ true → (if b then x else y) ≡ x
if_same true x y is = refl
if_same false x y is = absurd (let f : ⊥ = cc in f)

module _ (opening : CallLog) (tree : IsTree (current opening)) (settled : all_settled opening.changes ≡ true) where
  -- what is known after these entries
  abbrev Done : List Entry → Stand → CallLog → Type 0
  Done g stand now = JobsDone (λ n. passed_over n g) (λ n. tree_begun opening now n g) (replayed_tree opening now g) (current now) stand.jobs

  -- and of an event
  abbrev Then : List Entry → ℕ → Event → Stand → CallLog → Type 0
  Then older calls what after now =
      JobsDone (λ n. passed_after n what (live_item n (live_jobs older)) (passed_over n older)) (λ n. begun_after n what (replayed_tree opening now older) (tree_begun opening now n older)) (replayed_event (log_prefix opening calls now) what (live_jobs older) (replayed_tree opening now older)) (current now) after.jobs

  -- a job steps
  module _ (older : List Entry) (calls : ℕ) (was : Stand) (before : CallLog) (r : IsReached opening older was before) (d : Done older was before) (id : ℕ) (did : Did) (after : Stand) (now : CallLog)
      (counts : length now.changes ≡ length opening.changes + calls) (job : Running) (jobs_is : was.jobs ≡ job ∷ []) (id_is : job.id ≡ id) (made : List Change) (now_is : now ≡ more before made) where
    knows : WorkKnows (told_of opening before older r.part) was.dirty r.marks before job.course job.work
    knows = subst (λ js. JobsKnow (told_of opening before older r.part) was.dirty r.marks before js) jobs_is r.knows

    abbrev begun : View
    begun = tree_begun opening before job.id older

    job_done : JobDone (passed_over job.id older) begun (replayed_tree opening before older) (current before) job
    job_done = subst (λ js. JobsDone (λ n. passed_over n older) (λ n. tree_begun opening before n older) (replayed_tree opening before older) (current before) js) jobs_is d

    begun_is : (n : ℕ) → tree_begun opening now n older ≡ tree_begun opening before n older
    begun_is n = ap (λ (l : CallLog). tree_begun opening l n older) now_is ∙ begun_more opening before made n older r.within

    view_is : replayed_event (log_prefix opening calls now) (Step id did) (live_jobs older) (replayed_tree opening now older) ≡ replayed_step now did (Some (item_in job.work)) (replayed_tree opening before older)
    view_is = step_view opening older calls was before r now id did counts job jobs_is id_is made now_is

    item_is : live_item job.id (live_jobs older) ≡ Some (item_in job.work)
    item_is =
        ap (live_item job.id) (subst (λ js. HasLive (live_jobs older) js r.part) jobs_is r.live)
        ∙ ap (λ b. if b then Some (item_in job.work) else None) (eq-eqb job.id job.id refl)

    passed_is : (new : Running) → new.id ≡ job.id → passed_after new.id (Step id did) (live_item new.id (live_jobs older)) (passed_over new.id older) ≡ passed_in (Some (item_in job.work)) did (passed_over job.id older)
    passed_is new same =
        ap (λ n. passed_after n (Step id did) (live_item n (live_jobs older)) (passed_over n older)) same
        ∙ (if_same (id == job.id) (passed_in (live_item job.id (live_jobs older)) did (passed_over job.id older)) (passed_over job.id older) (eq-eqb id job.id (sym id_is))
        ∙ ap (λ o. passed_in o did (passed_over job.id older)) item_is)

    -- of the jobs after it
    abbrev After : List Running → Type 0
    After js = JobsDone (λ n. passed_after n (Step id did) (live_item n (live_jobs older)) (passed_over n older)) (λ n. tree_begun opening now n older) (replayed_event (log_prefix opening calls now) (Step id did) (live_jobs older) (replayed_tree opening now older)) (current now) js

    after_one : (new : Running) → new.id ≡ job.id → Unless did (JobDone (passed_in (Some (item_in job.work)) did (passed_over job.id older)) begun (replayed_step now did (Some (item_in job.work)) (replayed_tree opening before older)) (current now) new)
        → After (before_others (unless_ended did new) [])
    after_one new same k =
        jobs_after did (λ n. passed_after n (Step id did) (live_item n (live_jobs older)) (passed_over n older)) (λ n. tree_begun opening now n older) (replayed_event (log_prefix opening calls now) (Step id did) (live_jobs older) (replayed_tree opening now older)) (current now) new
        (subst (λ v. Unless did (JobDone (passed_after new.id (Step id did) (live_item new.id (live_jobs older)) (passed_over new.id older)) (tree_begun opening now new.id older) v (current now) new)) (sym view_is)
        (subst (λ (b : View). Unless did (JobDone (passed_after new.id (Step id did) (live_item new.id (live_jobs older)) (passed_over new.id older)) b (replayed_step now did (Some (item_in job.work)) (replayed_tree opening before older)) (current now) new)) (sym (begun_is new.id ∙ ap (λ n. tree_begun opening before n older) same))
        (subst (λ p. Unless did (JobDone p begun (replayed_step now did (Some (item_in job.work)) (replayed_tree opening before older)) (current now) new)) (sym (passed_is new same)) k)))

    jobs_then : (new : Option Running) → after.jobs ≡ with_job id new was.jobs → after.jobs ≡ before_others new []
    jobs_then new is = is ∙ (ap (with_job id new) jobs_is ∙ (ap (λ n. with_job n new (job ∷ [])) (sym id_is) ∙ with_one job new))

    stepped : (new : Option Running) → StepLeads job did new was.dirty after.dirty before now → after.jobs ≡ with_job id new was.jobs → Then older calls (Step id did) after now
    stepped new (inl (next, inl works, after_is)) is =
        subst After
        (sym (jobs_then new is ∙ ap (λ o. before_others o []) after_is))
        (let same = tells_same job next did works.tells in
        after_one next same.0 (leads_done (told_of opening before older r.part) was.dirty after.dirty r.marks before now r.kept begun job next did (passed_over job.id older) knows works job_done))
    stepped new (inl (next, inr syncs, after_is)) is =
        subst After
        (sym (jobs_then new is ∙ ap (λ o. before_others o []) after_is)) (by syncs.synced)
      where
        still : current now ≡ current before
        still = owed_still job did next was.dirty after.dirty before now syncs

        by : SyncsOwed job syncs.path did next was.dirty after.dirty (Some before) (Some now)
            → After (before_others (unless_ended did next) [])
        by (inl s) =
            after_one next (ap (λ (x : Running). x.id) s.new_is)
            (subst (λ (x : Did). Unless x (JobDone (passed_in (Some (item_in job.work)) x (passed_over job.id older)) begun (replayed_step now x (Some (item_in job.work)) (replayed_tree opening before older)) (current now) next)) (sym s.did_is)
            (subst (λ (x : Running). JobDone (passed_over job.id older) begun (replayed_tree opening before older) (current now) x) (sym s.new_is)
            (subst (λ (x : FileSystem). JobDone (passed_over job.id older) begun (replayed_tree opening before older) x job) (sym still) job_done)))
        by (inr s) =
            after_one next (ap (λ (x : Running). x.id) s.new_is)
            (subst (λ (x : Did). Unless x (JobDone (passed_in (Some (item_in job.work)) x (passed_over job.id older)) begun (replayed_step now x (Some (item_in job.work)) (replayed_tree opening before older)) (current now) next)) (sym s.did_is)
            (subst (λ (x : Running). JobDone (passed_over job.id older) begun (replayed_tree opening before older) (current now) x) (sym s.new_is)
            (subst (λ (x : FileSystem). WorkDone (passed_over job.id older) begun (replayed_tree opening before older) x job.work) (sym still)
            (subst (λ c. CourseDone c (passed_over job.id older) begun (replayed_tree opening before older) (current before) job.work) syncs.goes job_done))))
    stepped new (inr (gives, after_is)) is =
        subst After
        (sym (jobs_then new is ∙ ap (λ o. before_others o []) after_is)) tt

  -- a job begins
  begins : (older : List Entry) (calls : ℕ) (id : ℕ) (plan : Job) (background : Bool) (now : CallLog) (o : Option Work) → begun_work id (sources_of plan) ≡ o
      → JobsDone (λ n. passed_after n (event.Began id plan background) (live_item n (live_jobs older)) (passed_over n older)) (λ n. begun_after n (event.Began id plan background) (replayed_tree opening now older) (tree_begun opening now n older)) (replayed_tree opening now older) (current now) (option_map_or (λ w. running id w ∷ []) o [])
  begins older calls id plan background now None is = tt
  begins older calls id plan background now (Some w) is =
      subst (λ p. WorkDone p (begun_after id (event.Began id plan background) (replayed_tree opening now older) (tree_begun opening now id older)) (replayed_tree opening now older) (current now) w) (sym (if_same (id == id) [] (passed_over id older) (eq-eqb id id refl)))
      (subst (λ (b : View). WorkDone [] b (replayed_tree opening now older) (current now) w) (sym (if_same (id == id) (replayed_tree opening now older) (tree_begun opening now id older) (eq-eqb id id refl)))
      (begun_done (replayed_tree opening now older) (current now) id (sources_of plan) w is))

  -- a job goes on with its next source
  turns : (older : List Entry) (id : ℕ) (plan : Job) (now : CallLog) (job next : Running) → job.id ≡ id → Turned plan job next
      → JobDone (passed_after next.id (Next id plan) (live_item next.id (live_jobs older)) (passed_over next.id older)) (begun_after next.id (Next id plan) (replayed_tree opening now older) (tree_begun opening now next.id older)) (replayed_tree opening now older) (current now) next
  turns older id plan now job next id_is turn =
      let here = eq-eqb id next.id (sym (turned_id plan job next turn ∙ id_is)) in
      subst (λ c. CourseDone c (passed_after next.id (Next id plan) (live_item next.id (live_jobs older)) (passed_over next.id older)) (begun_after next.id (Next id plan) (replayed_tree opening now older) (tree_begun opening now next.id older)) (replayed_tree opening now older) (current now) next.work) (sym (ap (λ (x : Running). x.course) turn.next_is))
      (subst (λ p. WorkDone p (begun_after next.id (Next id plan) (replayed_tree opening now older) (tree_begun opening now next.id older)) (replayed_tree opening now older) (current now) next.work) (sym (if_same (id == next.id) [] (passed_over next.id older) here))
      (subst (λ (b : View). WorkDone [] b (replayed_tree opening now older) (current now) next.work) (sym (if_same (id == next.id) (replayed_tree opening now older) (tree_begun opening now next.id older) here))
      (turned_done (replayed_tree opening now older) (current now) plan job next turn)))

  -- nothing was called
  module _ (older : List Entry) (calls : ℕ) (was : Stand) (before : CallLog) (d : Done older was before) (now : CallLog) (now_is : now ≡ before) where
    quiet : (after : Stand) → after ≡ was → JobsDone (λ n. passed_over n older) (λ n. tree_begun opening now n older) (replayed_tree opening now older) (current now) after.jobs
    quiet after after_is =
        subst (λ (st : Stand). JobsDone (λ n. passed_over n older) (λ n. tree_begun opening now n older) (replayed_tree opening now older) (current now) st.jobs) (sym after_is)
        (subst (λ (l : CallLog). JobsDone (λ n. passed_over n older) (λ n. tree_begun opening l n older) (replayed_tree opening l older) (current l) was.jobs) (sym now_is) d)

  event_done : (older : List Entry) (calls : ℕ) (was : Stand) (before : CallLog) (r : IsReached opening older was before) (d : Done older was before) (what : Event) (after : Stand) (now : CallLog)
      → length now.changes ≡ length opening.changes + calls → EventLeads was what after before now → Then older calls what after now
  event_done older calls was before r d (Step id did) after now counts s =
      let one = only_job id was.jobs s.job (told_of opening before older r.part) was.dirty r.marks before s.its r.knows in
      let n = enters opening older calls was before r (Step id did) after now s counts in
      stepped older calls was before r d id did after now counts s.job one.0 one.1 n.made n.now_is s.new s.leads s.jobs_is
  event_done older calls was before r d (event.Began id plan background) after now counts s =
      subst (λ (st : Stand). JobsDone (λ n. passed_after n (event.Began id plan background) (live_item n (live_jobs older)) (passed_over n older)) (λ n. begun_after n (event.Began id plan background) (replayed_tree opening now older) (tree_begun opening now n older)) (replayed_tree opening now older) (current now) st.jobs) (sym s.after_is)
      (begins older calls id plan background now (begun_work id (sources_of plan)) refl)
  event_done older calls was before r d (Next id plan) after now counts s =
      let one = only_job id was.jobs s.job (told_of opening before older r.part) was.dirty r.marks before s.its r.knows in
      subst (λ js. JobsDone (λ n. passed_after n (Next id plan) (live_item n (live_jobs older)) (passed_over n older)) (λ n. begun_after n (Next id plan) (replayed_tree opening now older) (tree_begun opening now n older)) (replayed_tree opening now older) (current now) js) (sym (one_turned id was.jobs s.job s.next after.jobs one.0 one.1 s.jobs_is))
      (turns older id plan now s.job s.next one.1 (turned_to plan s.job s.next s.next_is))
  event_done older calls was before r d (Order id order) after now counts s =
      subst (λ (st : Stand). JobsDone (λ n. passed_over n older) (λ n. tree_begun opening now n older) (replayed_tree opening now older) (current now) st.jobs) (sym s.after_is)
      (orders_done (λ n. passed_over n older) (λ n. tree_begun opening now n older) (replayed_tree opening now older) (current now) id order was.jobs (quiet older calls was before d now s.now_is was refl))
  event_done older calls was before r d (Key key time refusals lost) after now counts s = quiet older calls was before d now s.now_is after s.after_is
  event_done older calls was before r d (Look refusals) after now counts s = quiet older calls was before d now s.now_is after s.after_is
  event_done older calls was before r d Sought after now counts s = quiet older calls was before d now s.now_is after s.after_is
  event_done older calls was before r d Closed after now counts s = quiet older calls was before d now s.now_is after s.after_is

  close_done : (g : List Entry) (b : Bool) (after : Stand) (now : CallLog) → Done g after now → Done g (if_closed b after) now
  close_done g false after now d = d
  close_done g true after now d = closed_done (λ n. passed_over n g) (λ n. tree_begun opening now n g) (replayed_tree opening now g) (current now) after.jobs d

  pub traced_done : (newest : List Entry) (stand : Stand) (now : CallLog) → IsTraced opening newest stand now → Done newest stand now
  traced_done [] stand now (stand_is, now_is) = subst (λ (st : Stand). Done [] st now) (sym stand_is) tt
  traced_done (e ∷ older) stand now (was, before, traced, f) =
      subst (λ (st : Stand). Done (e ∷ older) st now) (sym f.stand_is)
      (close_done (e ∷ older) (is_closed (e ∷ older)) f.after now
      (event_done older e.calls was before (traced_reached opening tree settled older was before traced) (traced_done older was before traced) e.what f.after now f.counts f.leads))

-- what a job that is finished has left
module _ (told : Rattle.laws_sessions.proofs.Knowing.HistoryFacts) (dirty dirty_after : List Route) (marks : Rattle.laws_crash.specs.Guarded.Marks) (log now : CallLog) (kept : Rattle.laws_sessions.proofs.Knowing.IsKept told dirty marks log) (part : Option Route) (passed : List Route) (begun : View) where
  work_ends : (replies : Replies) (old new : Work) (course : Course) → WorkTells replies old (Ended Finished part) new → (calls f0 f1 : ℕ) → Walks IsUnclaimed replies old new (Ended Finished part) calls dirty dirty_after (Some log) (Some now) f0 f1 → WorkKnows told dirty marks log course old → WorkDone passed begun told.tree (current log) old → IsOutcome (item_in old) passed begun told.tree
  work_ends replies (Copy c) (Copy new) course t calls f0 f1 walks knows k =
      tree_ends told dirty dirty_after marks log now kept c new (Ended Finished part) passed course walks.free replies calls walks.since f1 knows.part walks.steps k part refl
  work_ends replies (Copy c) (Delete new) course t calls f0 f1 walks knows k = absurd t
  work_ends replies (Copy c) (Make new) course t calls f0 f1 walks knows k = absurd t
  work_ends replies (Copy c) (Move new) course t calls f0 f1 walks knows k = absurd t
  work_ends replies (Copy c) (SetMode new) course t calls f0 f1 walks knows k = absurd t
  work_ends replies (Delete d) (Delete new) course t calls f0 f1 walks knows k =
      deletion_ends d passed (current log) told.tree t.0 (λ p. kept.known.shows p (λ is. let none = knows.1 in let e : (let o : Option Route = None in o) ≡ Some p = sym none ∙ is in let x : ⊥ = cc in x)) k
  work_ends replies (Make m) (Make new) course t calls f0 f1 walks knows k = making_ends m passed begun told.tree t.0 k
  work_ends replies (Move m) (Move new) course t calls f0 f1 walks knows k = moving_ends m passed begun told.tree t.0 k
  work_ends replies (SetMode s) (SetMode new) course t calls f0 f1 walks knows k = setting_ends s passed told.tree t.0 k
  work_ends replies (Delete d) (Copy new) course t calls f0 f1 walks knows k = absurd t
  work_ends replies (Delete d) (Make new) course t calls f0 f1 walks knows k = absurd t
  work_ends replies (Delete d) (Move new) course t calls f0 f1 walks knows k = absurd t
  work_ends replies (Delete d) (SetMode new) course t calls f0 f1 walks knows k = absurd t
  work_ends replies (Make m) (Copy new) course t calls f0 f1 walks knows k = absurd t
  work_ends replies (Move m) (Copy new) course t calls f0 f1 walks knows k = absurd t
  work_ends replies (Make m) (Delete new) course t calls f0 f1 walks knows k = absurd t
  work_ends replies (Move m) (Delete new) course t calls f0 f1 walks knows k = absurd t
  work_ends replies (Make m) (SetMode new) course t calls f0 f1 walks knows k = absurd t
  work_ends replies (Make m) (Move new) course t calls f0 f1 walks knows k = absurd t
  work_ends replies (Move m) (SetMode new) course t calls f0 f1 walks knows k = absurd t
  work_ends replies (SetMode s) (Copy new) course t calls f0 f1 walks knows k = absurd t
  work_ends replies (SetMode s) (Delete new) course t calls f0 f1 walks knows k = absurd t
  work_ends replies (SetMode s) (Make new) course t calls f0 f1 walks knows k = absurd t
  work_ends replies (Move s) (Make new) course t calls f0 f1 walks knows k = absurd t
  work_ends replies (SetMode s) (Move new) course t calls f0 f1 walks knows k = absurd t
  work_ends replies (RemoveEmptied r) (RemoveEmptied new) course t calls f0 f1 walks knows k = removal_ends r passed begun told.tree t.0 k
  work_ends replies (RemoveEmptied r) (Copy new) course t calls f0 f1 walks knows k = absurd t
  work_ends replies (RemoveEmptied r) (Delete new) course t calls f0 f1 walks knows k = absurd t
  work_ends replies (RemoveEmptied r) (SetMode new) course t calls f0 f1 walks knows k = absurd t
  work_ends replies (RemoveEmptied r) (Move new) course t calls f0 f1 walks knows k = absurd t
  work_ends replies (Copy c) (RemoveEmptied new) course t calls f0 f1 walks knows k = absurd t
  work_ends replies (Delete d) (RemoveEmptied new) course t calls f0 f1 walks knows k = absurd t
  work_ends replies (SetMode s) (RemoveEmptied new) course t calls f0 f1 walks knows k = absurd t
  work_ends replies (Move s) (RemoveEmptied new) course t calls f0 f1 walks knows k = absurd t
  work_ends replies (RemoveEmptied r) (Make new) course t calls f0 f1 walks knows k = absurd t
  work_ends replies (Make m) (RemoveEmptied new) course t calls f0 f1 walks knows k = absurd t

  ends : (job new : Running) (course : Course) → TellsOn course job (Ended Finished part) new → (calls f0 f1 : ℕ) → WalksOn IsUnclaimed job.replies course job.work new.work (Ended Finished part) calls dirty dirty_after (Some log) (Some now) f0 f1 → ((ending : Rattle.job_reports.specs.declared.report.Ending.Ending) → course ≡ Ends ending → ending ≡ Aborted) → WorkKnows told dirty marks log course job.work
      → CourseDone course passed begun told.tree (current log) job.work → IsOutcome (item_in job.work) passed begun told.tree
  ends job new GoesOn (work, t, new_is) calls f0 f1 walks aborted knows k = work_ends job.replies job.work new.work GoesOn (subst (WorkTells job.replies job.work (Ended Finished part)) (sym (ap (λ (x : Running). x.work) new_is)) t) calls f0 f1 walks knows k
  ends job new (InTrouble halt) t calls f0 f1 walks aborted knows k = absurd t
  ends job new (OwedSyncFailed cause) t calls f0 f1 walks aborted knows k = absurd t
  ends job new Asking t calls f0 f1 walks aborted knows k = absurd t
  ends job new (Skips cause) (inl (path, work, did_is, passes, new_is)) calls f0 f1 walks aborted knows k = absurd (let f : ⊥ = cc in f)
  ends job new (Skips cause) (inr (apart, did_is, new_is)) calls f0 f1 walks aborted knows k = absurd (let f : ⊥ = cc in f)
  ends job new (Ends ending) (work, winds, new_is) calls f0 f1 walks aborted knows k = absurd (let e : Finished ≡ Aborted = wound_up ending job.work work part winds ∙ aborted ending refl in let f : ⊥ = cc in f)

module _ (opening now : CallLog) (newest : List Entry) (stand : Stand) (tree : IsTree (current opening)) (settled : all_settled opening.changes ≡ true) (traced : IsTraced opening newest stand now) (e : Entry) (older : List Entry) (id : ℕ) (item : ItemOfJob)
    (h : Finishes e older id item) where
  abbrev Left : Type 0
  Left = IsOutcome item (passed_over id older) (tree_begun opening now id older) (replayed_tree opening now older)

  left_by : IsFound opening tree settled now e older → Left
  left_by f = let by = ender opening tree settled now e older id item h.ended h.its f in of_job by.part by.job by.new by.jobs_is by.id_is by.works by.same
    where
      of_job : (part : Option Route) (job new : Running) → f.was.jobs ≡ job ∷ [] → job.id ≡ id → WorkLeads job (Ended Finished part) new f.was.dirty f.after.dirty f.before f.now → item_in job.work ≡ item → Left
      of_job part job new jobs_is id_is works same =
          let r = traced_reached opening tree settled older f.was f.before f.traced in
          let t : IsTidyJob opening older f.was.dirty f.before job = subst (λ js. AreTidy opening older f.was.dirty f.before js) jobs_is (traced_tidy opening tree settled older f.was f.before f.traced) in
          let d : JobDone (passed_over job.id older) (tree_begun opening f.before job.id older) (replayed_tree opening f.before older) (current f.before) job =
          subst (λ js. JobsDone (λ n. passed_over n older) (λ n. tree_begun opening f.before n older) (replayed_tree opening f.before older) (current f.before) js) jobs_is (traced_done opening tree settled older f.was f.before f.traced) in
          subst (λ v. IsOutcome item (passed_over id older) (tree_begun opening now id older) v) (sym (ap (λ (l : CallLog). replayed_tree opening l older) f.end_is ∙ replayed_more opening f.before f.rest older r.within))
          (subst (λ (b : View). IsOutcome item (passed_over id older) b (replayed_tree opening f.before older)) (sym (ap (λ (l : CallLog). tree_begun opening l id older) f.end_is ∙ begun_more opening f.before f.rest id older r.within))
          (subst (λ n. IsOutcome item (passed_over n older) (tree_begun opening f.before n older) (replayed_tree opening f.before older)) id_is
          (subst (λ i. IsOutcome i (passed_over job.id older) (tree_begun opening f.before job.id older) (replayed_tree opening f.before older)) same
          (ends (told_of opening f.before older r.part) f.was.dirty f.after.dirty r.marks f.before f.now r.kept part (passed_over job.id older) (tree_begun opening f.before job.id older) job new job.course works.tells (let w = works.walks in w.0) (let w = works.walks in w.1) (let w = works.walks in w.2) (let w = works.walks in w.3) t.aborted
          (subst (λ js. JobsKnow (told_of opening f.before older r.part) f.was.dirty r.marks f.before js) jobs_is r.knows) d))))

pub outcome_law : OutcomeLaw
outcome_law opening now newest stand tree settled traced e older id item h moment =
    left_by opening now newest stand tree settled traced e older id item h
    (found_moment opening tree settled now e older [] newest (e ∷ older) (e ∷ older) stand e.calls now [] traced (ap (log_of now) (sym (append-nil now.changes))) moment (inl refl))
