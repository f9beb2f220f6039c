-- By induction over a history: what is kept of the dirty paths of the live job, and of the folder that holds what it changes.
use Rattle.std.proofs.Common.{◌≡◌, ◌⊎◌, ℕ, Bool, true, false, not, List, [], ◌∷◌, refl, sym, ◌∙◌, ap, subst, inl, inr, Option, Some, None}
use Rattle.std.specs.Prelude.{◌==◌, ◌||◌, ◌&&◌, if◌then◌else◌, map}
use Rattle.std.specs.Option.{option_map_or}
use Rattle.std.proofs.lemmas.Bool.{both_ways, eq-eqb, and_parts}
use Rattle.mc_text.specs.Routes.{Route, same_path}
use Rattle.tree_trait.specs.Shape.{IsTree}
use Rattle.tree_trait.specs.Change.{CallLog, current}
use Rattle.tree_trait.specs.CrashImages.{all_settled}
use Rattle.job_answers.specs.Decisions.{with_skips}
use Rattle.job_reports.specs.declared.report.Ending.{Ending}
use Rattle.job_reports.specs.declared.report.Ending.TheVariants.{Aborted}
use Rattle.job_reports.specs.declared.report.Did.{Did}
use Rattle.job_reports.specs.declared.report.Did.TheVariants.{Began, Chunk, Placed, Removed, Made, Set, Kept, Skipped, Cleaned, Barrier, Asked, Merges, Moved, Troubled, Ended}
use Rattle.job_reports.specs.Jobs.{ItemOfJob, folder_changed}
use Rattle.job_reports.specs.declared.job.Job.{Job}
use Rattle.job_reports.specs.declared.answer.Answer.{Answer}
use Rattle.job_reports.specs.declared.answer.Answer.TheVariants.{Yes, No, All, Update, Nothing, SizeDiffers, Retry, Skip, SkipAll, Abort}
use Rattle.session_entries.specs.declared.history.Event.{Event}
use Rattle.session_entries.specs.declared.history.Event.TheVariants.{Key, Look, Sought, Order, Step, Next, Closed}
use Rattle.session_entries.specs.declared.history.Event.TheVariants as event
use Rattle.session_entries.specs.declared.history.JobOrder.{JobOrder}
use Rattle.session_entries.specs.declared.history.JobOrder.TheVariants.{Answered}
use Rattle.session_entries.specs.declared.history.Entry.{Entry}
use Rattle.copy_move.specs.declared.run.Course.{Course}
use Rattle.copy_move.specs.declared.run.Course.TheVariants.{GoesOn, Asking, InTrouble, OwedSyncFailed, Skips, Ends}
use Rattle.copy_move.specs.declared.work.Work.{Work}
use Rattle.copy_tree.specs.declared.item.ItemAtWork.{ItemAtWork as CopyItem}
use Rattle.copy_tree.specs.declared.item.ItemAtWork.TheVariants.{Next, File, Link, Stays}
use Rattle.copy_tree.specs.declared.progress.Progress.{Progress}
use Rattle.copy_tree.specs.declared.progress.Progress.TheVariants.{UnderWay, Decided, Anew}
use Rattle.copy_tree.specs.Skipping.{retried_at}
use Rattle.copy_tree.specs.Standing.{Seen, is_fresh}
use Rattle.copy_tree.specs.TreeCopySteps.{idle, copy_after_progress}
use Rattle.copy_move.specs.declared.work.Work.TheVariants.{Copy, Delete, Make, Move, SetMode, RemoveEmptied}
use Rattle.copy_move.specs.Jobs.{replied_job, Running, TellsOn, answered_on, begun_work, closed_course, closed_job, course_after, taken_anew, unreported_skip}
use Rattle.job_reports.specs.Reports.{ends}
use Rattle.copy_move.specs.Settling.{changed_folder}
use Rattle.job_reports.specs.Paths.{folder_of, without}
use Rattle.copy_move.specs.JobStepReports.{SyncsOwed}
use Rattle.laws_sessions.specs.Doubt.{name_waits}
use Rattle.session_entries.specs.Named.{begins_change, changed_after, has_changed, names}
use Rattle.session_entries.specs.LiveJobs.{live_item, live_jobs}
use Rattle.session_entries.specs.Entries.{is_closed}
use Rattle.session_entries.specs.Sources.{sources_of}
use Rattle.copy_move.specs.Told.{running}
use Rattle.laws_sessions.specs.Traces.{EventLeads, IsTraced, Stand, SyncLeads, WorkLeads, before_others, if_closed, ordered_job, with_job}
use Rattle.laws_sessions.proofs.Beginnings.{calm_stays, folder_stays}
use Rattle.laws_sessions.proofs.Going.{only_job}
use Rattle.laws_sessions.proofs.Histories.{IsReached, traced_reached}
use Rattle.laws_sessions.proofs.Owing.{in_filter}
use Rattle.laws_sessions.proofs.JobKnows.{WorkKnows}
use Rattle.laws_sessions.proofs.OwnNames.{may_change}
use Rattle.laws_sessions.proofs.Reports.{HasLive, JobsKnow, with_one}
use Rattle.laws_sessions.proofs.Sources.{folder_is, folder_same, item_in, tells_same}
use Rattle.laws_sessions.proofs.Prefixes.{calm_event, calm_told, folders_event, folders_told, told_of}
use Rattle.laws_sessions.proofs.Stepped.{calm_by, folders_by}
use Rattle.laws_sessions.proofs.Staying.{event_still}
use Rattle.laws_sessions.proofs.SureThings.{IsSureThing, sure_step, sure_still}
use Rattle.laws_sessions.proofs.Turns.{Turned, begun_clean, one_turned, turned_clean, turned_id, turned_to}
use Rattle.laws_sessions.proofs.Unchanged.{has_begun, knows_calm, step_calm as step_knows_calm, step_clean}
use Rattle.laws_sessions.proofs.Tidy.{IsGoing, IsTidy, TidyFolder, changed_by, neither, tidy_works}

-- what is kept of the live job
pub record IsTidyJob (opening : CallLog) (g : List Entry) (dirty : List Route) (log : CallLog) (job : Running) : Type 0 where
  pub tidy : IsTidy (has_changed job.id g) dirty job
  pub aborted : (ending : Ending) → job.course ≡ Ends ending → ending ≡ Aborted
  pub clean : has_changed job.id g ≡ false → has_begun job.work ≡ false
  pub stands : has_changed job.id g ≡ true → folders_told opening g (changed_folder job.work) ≡ true
  pub calm : has_changed job.id g ≡ true → knows_calm job.work ≡ false → (q : Route) → may_change (item_in job.work) q ≡ true → calm_told g q ≡ true
  pub sure : has_changed job.id g ≡ true → IsSureThing (item_in job.work) log

abbrev pub AreTidy : CallLog → List Entry → List Route → CallLog → List Running → Type 0
AreTidy opening g dirty log [] = Unit {0}
AreTidy opening g dirty log (job ∷ jobs) = IsTidyJob opening g dirty log job

no_end : {A : Type 0} (course : Course) (ending : Ending) → IsGoing course → course ≡ Ends ending → A
no_end course ending going is = absurd (subst IsGoing is going)

after_going : (did : Did) → IsGoing (course_after did)
after_going (Troubled trouble) = tt
after_going (Began part) = tt
after_going (Chunk count) = tt
after_going (Set path) = tt
after_going (Placed path) = tt
after_going (Removed path) = tt
after_going (Made made) = tt
after_going (Kept kept) = tt
after_going (Asked question) = tt
after_going (Merges transfer pair names) = tt
after_going (Moved pair) = tt
after_going (Skipped path why) = tt
after_going (Cleaned part) = tt
after_going Barrier = tt
after_going (Ended ending part) = tt

tells_aborted : (job new : Running) (did : Did) (course : Course) → job.course ≡ course → TellsOn course job did new → ((ending : Ending) → job.course ≡ Ends ending → ending ≡ Aborted)
    → (ending : Ending) → new.course ≡ Ends ending → ending ≡ Aborted
tells_aborted job new did GoesOn is (work, tells, new_is) old ending e = no_end (course_after did) ending (after_going did) (sym (ap (λ (x : Running). x.course) new_is) ∙ e)
tells_aborted job new did (InTrouble halt) is t old ending e = absurd t
tells_aborted job new did (OwedSyncFailed why) is t old ending e = absurd t
tells_aborted job new did Asking is t old ending e = absurd t
tells_aborted job new did (Skips why) is (inl (path, work, did_is, passes, new_is)) old ending e = no_end GoesOn ending tt (sym (ap (λ (x : Running). x.course) new_is) ∙ e)
tells_aborted job new did (Skips why) is (inr (apart, did_is, new_is)) old ending e = no_end (InTrouble unreported_skip) ending tt (sym (ap (λ (x : Running). x.course) new_is) ∙ e)
tells_aborted job new did (Ends first) is (work, winds, new_is) old ending e = old ending (sym (ap (λ (x : Running). x.course) new_is) ∙ e)

-- a job with the same work and number, that goes on only where it went on
kept_tidy : (opening : CallLog) (g : List Entry) (dirty : List Route) (log : CallLog) (job new : Running) → new.id ≡ job.id → has_begun new.work ≡ has_begun job.work → (changed_folder new.work ≡ changed_folder job.work) × (item_in new.work ≡ item_in job.work) × (knows_calm new.work ≡ knows_calm job.work) → (TidyFolder job.work dirty → TidyFolder new.work dirty)
    → (IsGoing new.course → IsGoing job.course) → ((ending : Ending) → new.course ≡ Ends ending → ending ≡ Aborted) → IsTidyJob opening g dirty log job → IsTidyJob opening g dirty log new
kept_tidy opening g dirty log job new id_is begun_is (folder_is, item_is, tree_is) tidy_is on aborted old = record {
  tidy = λ changed going. tidy_is (old.tidy (ap (λ n. has_changed n g) (sym id_is) ∙ changed) (on going));
  aborted = aborted;
  clean = λ unchanged. begun_is ∙ old.clean (ap (λ n. has_changed n g) (sym id_is) ∙ unchanged);
  stands = λ changed. ap (folders_told opening g) folder_is ∙ old.stands (ap (λ n. has_changed n g) (sym id_is) ∙ changed);
  calm = λ changed other q own. old.calm (ap (λ n. has_changed n g) (sym id_is) ∙ changed) (sym tree_is ∙ other) q (subst (λ i. may_change i q ≡ true) item_is own);
  sure = λ changed. subst (λ i. IsSureThing i log) (sym item_is) (old.sure (ap (λ n. has_changed n g) (sym id_is) ∙ changed));
}

-- a retry of a copy leaves its stage
settled_stage : (p : Progress) (item : CopyItem) (c : Seen) → (let s : Seen = copy_after_progress p item c in s.stage) ≡ c.stage
settled_stage UnderWay item c = refl
settled_stage Decided item c = refl
settled_stage Anew item c = refl

anew_stage : (item : CopyItem) (c : Seen) → (let s : Seen = retried_at item c in s.stage) ≡ c.stage
anew_stage Next c = refl
anew_stage (File f) c = settled_stage _ _ (idle c)
anew_stage (Link l) c = settled_stage _ _ (idle c)
anew_stage (Stays part) c = refl

anew_dirty : (work : Work) → (has_begun (taken_anew work) ≡ has_begun work) × ((changed_folder (taken_anew work) ≡ changed_folder work) × (item_in (taken_anew work) ≡ item_in work) × (knows_calm (taken_anew work) ≡ knows_calm work))
anew_dirty (Copy c) = (ap (λ s. not (is_fresh s)) (anew_stage c.at.item c.at), (refl, refl, refl))
anew_dirty (Delete d) = (refl, (refl, refl, refl))
anew_dirty (Make m) = (refl, (refl, refl, refl))
anew_dirty (Move m) = (refl, (refl, refl, refl))
anew_dirty (SetMode s) = (refl, (refl, refl, refl))
anew_dirty (RemoveEmptied r) = (refl, (refl, refl, refl))

anew_tidy : (work : Work) (dirty : List Route) → TidyFolder work dirty → TidyFolder (taken_anew work) dirty
anew_tidy (Copy c) dirty t = ap is_fresh (anew_stage c.at.item c.at) ∙ t
anew_tidy (Delete d) dirty t = tt
anew_tidy (Make m) dirty t = t
anew_tidy (Move m) dirty t = t
anew_tidy (SetMode s) dirty t = t
anew_tidy (RemoveEmptied r) dirty t = t

some_end : (a b : Ending) → (let c : Course = Ends a in c) ≡ Ends b → b ≡ a
some_end a b h = cc

answer_tidy : (opening : CallLog) (g : List Entry) (dirty : List Route) (log : CallLog) (job : Running) (course : Course) → job.course ≡ course → (answer : Answer) → IsTidyJob opening g dirty log job → IsTidyJob opening g dirty log (answered_on course answer job)
answer_tidy opening g dirty log job (InTrouble halt) is Retry t =
    let a = anew_dirty job.work in kept_tidy opening g dirty log job (record job { work = taken_anew job.work; course = GoesOn }) refl a.0 a.1 (anew_tidy job.work dirty) (λ going. subst IsGoing (sym is) tt) (λ ending e. no_end GoesOn ending tt e) t
answer_tidy opening g dirty log job (InTrouble halt) is Skip t = kept_tidy opening g dirty log job (record job { course = Skips halt.cause }) refl refl (refl, refl, refl) (λ t. t) (λ going. subst IsGoing (sym is) tt) (λ ending e. no_end (Skips halt.cause) ending tt e) t
answer_tidy opening g dirty log job (InTrouble halt) is SkipAll t =
    kept_tidy opening g dirty log job (record job { replies = with_skips halt.cause job.replies; course = Skips halt.cause }) refl refl (refl, refl, refl) (λ t. t) (λ going. subst IsGoing (sym is) tt) (λ ending e. no_end (Skips halt.cause) ending tt e) t
answer_tidy opening g dirty log job (InTrouble halt) is Abort t = kept_tidy opening g dirty log job (record job { course = Ends Aborted }) refl refl (refl, refl, refl) (λ t. t) (λ going. absurd going) (λ ending e. some_end Aborted ending e) t
answer_tidy opening g dirty log job (OwedSyncFailed why) is Retry t =
    let a = anew_dirty job.work in kept_tidy opening g dirty log job (record job { work = taken_anew job.work; course = GoesOn }) refl a.0 a.1 (anew_tidy job.work dirty) (λ going. subst IsGoing (sym is) tt) (λ ending e. no_end GoesOn ending tt e) t
answer_tidy opening g dirty log job (OwedSyncFailed why) is Skip t = t
answer_tidy opening g dirty log job (OwedSyncFailed why) is SkipAll t = t
answer_tidy opening g dirty log job (OwedSyncFailed why) is Abort t = kept_tidy opening g dirty log job (record job { course = Ends Aborted }) refl refl (refl, refl, refl) (λ t. t) (λ going. absurd going) (λ ending e. some_end Aborted ending e) t
answer_tidy opening g dirty log job (InTrouble halt) is Yes t = t
answer_tidy opening g dirty log job (InTrouble halt) is No t = t
answer_tidy opening g dirty log job (InTrouble halt) is All t = t
answer_tidy opening g dirty log job (InTrouble halt) is Update t = t
answer_tidy opening g dirty log job (InTrouble halt) is Nothing t = t
answer_tidy opening g dirty log job (InTrouble halt) is SizeDiffers t = t
answer_tidy opening g dirty log job (OwedSyncFailed why) is Yes t = t
answer_tidy opening g dirty log job (OwedSyncFailed why) is No t = t
answer_tidy opening g dirty log job (OwedSyncFailed why) is All t = t
answer_tidy opening g dirty log job (OwedSyncFailed why) is Update t = t
answer_tidy opening g dirty log job (OwedSyncFailed why) is Nothing t = t
answer_tidy opening g dirty log job (OwedSyncFailed why) is SizeDiffers t = t
answer_tidy opening g dirty log job Asking is Yes t =
    kept_tidy opening g dirty log job (replied_job Yes job) refl refl (refl, refl, refl) (λ t. t) (λ going. subst IsGoing (sym is) tt) (λ ending e. no_end GoesOn ending tt e) t
answer_tidy opening g dirty log job Asking is No t =
    kept_tidy opening g dirty log job (replied_job No job) refl refl (refl, refl, refl) (λ t. t) (λ going. subst IsGoing (sym is) tt) (λ ending e. no_end GoesOn ending tt e) t
answer_tidy opening g dirty log job Asking is All t =
    kept_tidy opening g dirty log job (replied_job All job) refl refl (refl, refl, refl) (λ t. t) (λ going. subst IsGoing (sym is) tt) (λ ending e. no_end GoesOn ending tt e) t
answer_tidy opening g dirty log job Asking is Update t =
    kept_tidy opening g dirty log job (replied_job Update job) refl refl (refl, refl, refl) (λ t. t) (λ going. subst IsGoing (sym is) tt) (λ ending e. no_end GoesOn ending tt e) t
answer_tidy opening g dirty log job Asking is Nothing t =
    kept_tidy opening g dirty log job (replied_job Nothing job) refl refl (refl, refl, refl) (λ t. t) (λ going. subst IsGoing (sym is) tt) (λ ending e. no_end GoesOn ending tt e) t
answer_tidy opening g dirty log job Asking is SizeDiffers t =
    kept_tidy opening g dirty log job (replied_job SizeDiffers job) refl refl (refl, refl, refl) (λ t. t) (λ going. subst IsGoing (sym is) tt) (λ ending e. no_end GoesOn ending tt e) t
answer_tidy opening g dirty log job Asking is Retry t = t
answer_tidy opening g dirty log job Asking is Skip t = t
answer_tidy opening g dirty log job Asking is SkipAll t = t
answer_tidy opening g dirty log job Asking is Abort t = kept_tidy opening g dirty log job (record job { course = Ends Aborted }) refl refl (refl, refl, refl) (λ t. t) (λ going. absurd going) (λ ending e. some_end Aborted ending e) t
answer_tidy opening g dirty log job GoesOn is answer t = t
answer_tidy opening g dirty log job (Skips why) is answer t = t
answer_tidy opening g dirty log job (Ends ending) is answer t = t

close_tidy : (opening : CallLog) (g : List Entry) (dirty : List Route) (log : CallLog) (job : Running) (course : Course) → job.course ≡ course → IsTidyJob opening g dirty log job → IsTidyJob opening g dirty log (record job { course = closed_course course })
close_tidy opening g dirty log job GoesOn is t = kept_tidy opening g dirty log job (record job { course = GoesOn }) refl refl (refl, refl, refl) (λ t. t) (λ going. subst IsGoing (sym is) tt) (λ ending e. no_end GoesOn ending tt e) t
close_tidy opening g dirty log job (InTrouble halt) is t = kept_tidy opening g dirty log job (record job { course = Ends Aborted }) refl refl (refl, refl, refl) (λ t. t) (λ going. absurd going) (λ ending e. some_end Aborted ending e) t
close_tidy opening g dirty log job (OwedSyncFailed why) is t = kept_tidy opening g dirty log job (record job { course = Ends Aborted }) refl refl (refl, refl, refl) (λ t. t) (λ going. absurd going) (λ ending e. some_end Aborted ending e) t
close_tidy opening g dirty log job Asking is t = kept_tidy opening g dirty log job (record job { course = Ends Aborted }) refl refl (refl, refl, refl) (λ t. t) (λ going. absurd going) (λ ending e. some_end Aborted ending e) t
close_tidy opening g dirty log job (Skips why) is t = kept_tidy opening g dirty log job (record job { course = Skips why }) refl refl (refl, refl, refl) (λ t. t) (λ going. subst IsGoing (sym is) tt) (λ ending e. no_end (Skips why) ending tt e) t
close_tidy opening g dirty log job (Ends first) is t = kept_tidy opening g dirty log job (record job { course = Ends first }) refl refl (refl, refl, refl) (λ t. t) (λ going. absurd going) (λ ending e. t.aborted ending (is ∙ e)) t

module _ (opening : CallLog) (tree : IsTree (current opening)) (settled : all_settled opening.changes ≡ true) where
  order_tidy : (g : List Entry) (dirty : List Route) (log : CallLog) (id : ℕ) (order : JobOrder) (jobs : List Running) → AreTidy opening g dirty log jobs → AreTidy opening g dirty log (map (ordered_job id order) jobs)
  order_tidy g dirty log id order [] t = tt
  order_tidy g dirty log id (Answered answer) (job ∷ jobs) t = by (job.id == id)
    where
      by : (b : Bool) → IsTidyJob opening g dirty log (if◌then◌else◌ b (answered_on job.course answer job) job)
      by true = answer_tidy opening g dirty log job job.course refl answer t
      by false = t

  closing_tidy : (g : List Entry) (log : CallLog) (b : Bool) (stand : Stand) → AreTidy opening g stand.dirty log stand.jobs → (let s : Stand = if_closed b stand in AreTidy opening g s.dirty log s.jobs)
  closing_tidy g log false stand t = t
  closing_tidy g log true stand t = by stand.jobs t
    where
      by : (jobs : List Running) → AreTidy opening g stand.dirty log jobs → AreTidy opening g stand.dirty log (map closed_job jobs)
      by [] t = tt
      by (job ∷ jobs) t = close_tidy opening g stand.dirty log job job.course refl t

  -- an event that says nothing of steps
  same_tidy : (e : Entry) (older : List Entry) (dirty : List Route) (log now : CallLog) (jobs : List Running) → ((id : ℕ) → has_changed id (e ∷ older) ≡ has_changed id older) → folders_told opening (e ∷ older) ≡ folders_told opening older
      → calm_told (e ∷ older) ≡ calm_told older → now ≡ log → AreTidy opening older dirty log jobs → AreTidy opening (e ∷ older) dirty now jobs
  same_tidy e older dirty log now [] same still calm is t = tt
  same_tidy e older dirty log now (job ∷ jobs) same still calm is t = record {
    tidy = λ changed going. t.tidy (sym (same job.id) ∙ changed) going;
    aborted = t.aborted;
    clean = λ unchanged. t.clean (sym (same job.id) ∙ unchanged);
    stands = λ changed. ap (λ (f : Route → Bool). f (changed_folder job.work)) still ∙ t.stands (sym (same job.id) ∙ changed);
    calm = λ changed other q own. ap (λ (f : Route → Bool). f q) calm ∙ t.calm (sym (same job.id) ∙ changed) other q own;
    sure = λ changed. subst (λ (l : CallLog). IsSureThing (item_in job.work) l) (sym is) (t.sure (sym (same job.id) ∙ changed));
  }

  -- a job that has changed nothing for the source at which it is
  fresh_tidy : (g : List Entry) (dirty : List Route) (log : CallLog) (job : Running) → job.course ≡ GoesOn → has_begun job.work ≡ false → has_changed job.id g ≡ false → IsTidyJob opening g dirty log job
  fresh_tidy g dirty log job goes clean unchanged = record {
    tidy = λ changed going. absurd (both_ways _ unchanged changed);
    aborted = λ ending e. no_end GoesOn ending tt (sym goes ∙ e);
    clean = λ none. clean;
    stands = λ changed. absurd (both_ways _ unchanged changed);
    calm = λ changed other q own. absurd (both_ways _ unchanged changed);
    sure = λ changed. absurd (both_ways _ unchanged changed);
  }

  begun_tidy : (g : List Entry) (dirty : List Route) (log : CallLog) (id : ℕ) (o : Option Work) → ((w : Work) → o ≡ Some w → has_begun w ≡ false) → has_changed id g ≡ false → AreTidy opening g dirty log (option_map_or (λ w. running id w ∷ []) o [])
  begun_tidy g dirty log id None clean unchanged = tt
  begun_tidy g dirty log id (Some w) clean unchanged = fresh_tidy g dirty log (running id w) refl (clean w refl) unchanged

  turned_tidy : (e : Entry) (older : List Entry) (dirty : List Route) (log : CallLog) (id : ℕ) (plan : Job) (job next : Running) → e.what ≡ Next id plan → job.id ≡ id → Turned plan job next → IsTidyJob opening (e ∷ older) dirty log next
  turned_tidy e older dirty log id plan job next is id_is turn =
      fresh_tidy (e ∷ older) dirty log next (ap (λ (x : Running). x.course) turn.next_is) (turned_clean plan job next turn)
      (ap (λ w. changed_after next.id w (has_changed next.id older)) is
      ∙ ap (λ b. if◌then◌else◌ b false (has_changed next.id older)) (eq-eqb id next.id (sym (turned_id plan job next turn ∙ id_is))))

  changed_same : (number id : ℕ) (before begins : Bool) → number ≡ id → (before || ((number == id) && begins)) ≡ (before || begins)
  changed_same number id before begins same = ap (λ b. before || (b && begins)) (eq-eqb number id same)

  -- the folders that are known to be on the disk after a step of a job
  step_folders : (e : Entry) (older : List Entry) (id : ℕ) (did : Did) (work : Work) → live_item id (live_jobs older) ≡ Some (item_in work) → e.what ≡ Step id did → (p : Route)
      → folders_told opening (e ∷ older) p ≡ folders_by did (changed_folder work) (folders_told opening older) p
  step_folders e older id did work item_is what_is p =
      ap (λ w. folders_event w (live_jobs older) (folders_told opening older) p) what_is
      ∙ (ap (λ o. option_map_or (λ item. folders_by did (folder_changed item) (folders_told opening older)) o (folders_told opening older) p) item_is
      ∙ ap (λ f. folders_by did f (folders_told opening older) p) (folder_is work))

  -- and those in which no mode waits
  step_calm : (e : Entry) (older : List Entry) (id : ℕ) (did : Did) (work : Work) → live_item id (live_jobs older) ≡ Some (item_in work) → e.what ≡ Step id did → (p : Route)
      → calm_told (e ∷ older) p ≡ calm_by did (item_in work) (calm_told older) p
  step_calm e older id did work item_is what_is p =
      ap (λ w. calm_event w (live_jobs older) (calm_told older) p) what_is ∙ ap (λ o. option_map_or (λ item. calm_by did item (calm_told older)) o (calm_told older) p) item_is

  -- after a step of a job
  step_tidy : (e : Entry) (older : List Entry) (id : ℕ) (did : Did) (was : Stand) (job new : Running) (dirty_after : List Route) (before now : CallLog) → (r : IsReached opening older was before) → WorkKnows (told_of opening before older (let x : IsReached opening older was before = r in x.part)) was.dirty (let x : IsReached opening older was before = r in x.marks) before job.course job.work
      → ((path : Route) → ((let x : IsReached opening older was before = r in x.part) ≡ Some path → ⊥) → names did path ≡ false → name_waits before path ≡ false → name_waits now path ≡ false) → live_item id (live_jobs older) ≡ Some (item_in job.work)
      → e.what ≡ Step id did → job.id ≡ id → ends did ≡ false
      → IsTidyJob opening older was.dirty before job → WorkLeads job did new was.dirty dirty_after before now ⊎ SyncLeads job did new was.dirty dirty_after before now → IsTidyJob opening (e ∷ older) dirty_after now new
  step_tidy e older id did was job new dirty_after before now r knows stays item_is what_is id_is on t (inl works) =
      let same = tells_same job new did works.tells in
      let changed_is : (has_changed job.id older || begins_change did) ≡ has_changed new.id (e ∷ older) =
      sym (changed_same id new.id (has_changed job.id older) (begins_change did) (sym id_is ∙ sym same.0))
      ∙ (ap (λ n. has_changed n older || ((id == new.id) && begins_change did)) (sym same.0) ∙ sym (ap (λ w. changed_after new.id w (has_changed new.id older)) what_is)) in
      record {
        tidy = λ changed going. tidy_works job new did was.dirty dirty_after before now (has_changed job.id older) works t.tidy (changed_is ∙ changed) going;
        aborted = tells_aborted job new did job.course refl works.tells t.aborted;
        clean = λ unchanged. let n = neither _ _ (changed_is ∙ unchanged) in step_clean job new did works.tells on n.1 (t.clean n.0);
        stands = λ changed. ap (folders_told opening (e ∷ older)) (folder_same new.work job.work same.1)
            ∙ (step_folders e older id did job.work item_is what_is (changed_folder job.work)
            ∙ folder_stays job new did was.dirty dirty_after before now (folders_told opening older) r.kept.known.guarded.tree works (elim (changed_by (has_changed job.id older) (begins_change did) (changed_is ∙ changed)) [
              | inl b ↦ inl (t.stands b)
              | inr h ↦ inr h
            ]));
        calm = λ changed other q own.
            let whole = step_knows_calm job new did works.tells other in
            let here = subst (λ i. may_change i q ≡ true) same.1 own in
            step_calm e older id did job.work item_is what_is q
            ∙ calm_stays job new did was.dirty dirty_after before now (calm_told older) q whole works here (elim (changed_by (has_changed job.id older) (begins_change did) (changed_is ∙ changed)) [ inl b ↦ inl (t.calm b whole q here) | inr h ↦ inr h ]);
        sure = λ changed. subst (λ i. IsSureThing i now) (sym same.1) (sure_step (told_of opening before older r.part) was.dirty dirty_after r.marks before now r.kept.known job new did stays knows works
            (λ none. elim (changed_by (has_changed job.id older) (begins_change did) (changed_is ∙ changed)) [ inl b ↦ t.sure b | inr h ↦ absurd (none h) ]));
      }
  step_tidy e older id did was job new dirty_after before now r knows stays item_is what_is id_is on t (inr syncs) = by syncs.synced
    where
      unchanged : (n : ℕ) → begins_change did ≡ false → has_changed n (e ∷ older) ≡ true → has_changed n older ≡ true
      unchanged n none changed = elim (changed_by (has_changed n older) ((id == n) && begins_change did) (sym (ap (λ w. changed_after n w (has_changed n older)) what_is) ∙ changed)) [
        | inl b ↦ b
        | inr h ↦ absurd (both_ways _ none (and_parts (id == n) (begins_change did) h).1)
      ]

      clean : has_changed job.id (e ∷ older) ≡ false → has_begun job.work ≡ false
      clean none = t.clean (neither (has_changed job.id older) _ (sym (ap (λ w. changed_after job.id w (has_changed job.id older)) what_is) ∙ none)).0

      still : (d : Did) → did ≡ d → ((folder : Route) (before : Route → Bool) → folders_by d folder before ≡ before) → folders_told opening (e ∷ older) (changed_folder job.work) ≡ folders_told opening older (changed_folder job.work)
      still d did_is same =
          step_folders e older id did job.work item_is what_is (changed_folder job.work)
          ∙ (ap (λ x. folders_by x (changed_folder job.work) (folders_told opening older) (changed_folder job.work)) did_is
          ∙ ap (λ (f : Route → Bool). f (changed_folder job.work)) (same (changed_folder job.work) (folders_told opening older)))

      still_calm : (d : Did) → did ≡ d → (q : Route) → ((item : ItemOfJob) (before : Route → Bool) → calm_by d item before ≡ before) → calm_told (e ∷ older) q ≡ calm_told older q
      still_calm d did_is q same =
          step_calm e older id did job.work item_is what_is q
          ∙ (ap (λ x. calm_by x (item_in job.work) (calm_told older) q) did_is ∙ ap (λ (f : Route → Bool). f q) (same (item_in job.work) (calm_told older)))

      fewer_tidy : (work : Work) → TidyFolder work was.dirty → TidyFolder work (without syncs.path was.dirty)
      fewer_tidy (Copy c) tidy = tidy
      fewer_tidy (Delete d) tidy = tt
      fewer_tidy (Make m) tidy = λ clean among. tidy clean (in_filter (λ kept. not (same_path kept syncs.path)) (folder_of m.path) was.dirty among)
      fewer_tidy (Move m) tidy = tidy
      fewer_tidy (SetMode s) tidy = λ clean among. tidy clean (in_filter (λ kept. not (same_path kept syncs.path)) s.path was.dirty among)
      fewer_tidy (RemoveEmptied r) tidy = λ clean among. tidy clean (in_filter (λ kept. not (same_path kept syncs.path)) (folder_of r.path) was.dirty among)

      sure : has_changed job.id older ≡ true → ((path : Route) → names did path ≡ false) → IsSureThing (item_in job.work) now
      sure changed unnamed = sure_still (told_of opening before older r.part) was.dirty dirty_after r.marks before now r.kept.known job new did stays job.course knows unnamed (t.sure changed)

      by : SyncsOwed job syncs.path did new was.dirty dirty_after (Some before) (Some now) → IsTidyJob opening (e ∷ older) dirty_after now new
      by (inl s) = subst (λ (x : Running). IsTidyJob opening (e ∷ older) dirty_after now x) (sym s.new_is) (record {
        tidy = λ changed going. subst (λ xs. TidyFolder job.work xs) (sym s.dirty_is) (fewer_tidy job.work (t.tidy (unchanged job.id (ap begins_change s.did_is) changed) going));
        aborted = t.aborted;
        clean = clean;
        stands = λ changed. still Barrier s.did_is (λ f b. refl) ∙ t.stands (unchanged job.id (ap begins_change s.did_is) changed);
        calm = λ changed other q own. still_calm Barrier s.did_is q (λ i b. refl) ∙ t.calm (unchanged job.id (ap begins_change s.did_is) changed) other q own;
        sure = λ changed. sure (unchanged job.id (ap begins_change s.did_is) changed) (λ p. ap (λ d. names d p) s.did_is);
      })
      by (inr s) = subst (λ (x : Running). IsTidyJob opening (e ∷ older) dirty_after now x) (sym s.new_is) (record {
        tidy = λ changed going. subst (λ xs. TidyFolder job.work xs) (sym s.dirty_is) (t.tidy (unchanged job.id (ap begins_change s.did_is) changed) (subst IsGoing (sym syncs.goes) tt));
        aborted = λ ending x. no_end (OwedSyncFailed s.trouble.cause) ending tt x;
        clean = clean;
        stands = λ changed. still (Troubled s.trouble) s.did_is (λ f b. refl) ∙ t.stands (unchanged job.id (ap begins_change s.did_is) changed);
        calm = λ changed other q own. still_calm (Troubled s.trouble) s.did_is q (λ i b. refl) ∙ t.calm (unchanged job.id (ap begins_change s.did_is) changed) other q own;
        sure = λ changed. sure (unchanged job.id (ap begins_change s.did_is) changed) (λ p. ap (λ d. names d p) s.did_is);
      })

  after_tidy : (g : List Entry) (dirty : List Route) (log : CallLog) (new : Running) (b : Bool) → (b ≡ false → IsTidyJob opening g dirty log new) → AreTidy opening g dirty log (before_others (if◌then◌else◌ b None (Some new)) [])
  after_tidy g dirty log new true t = tt
  after_tidy g dirty log new false t = t refl

  pub traced_tidy : (newest : List Entry) (stand : Stand) (now : CallLog) → IsTraced opening newest stand now → AreTidy opening newest stand.dirty now stand.jobs
  traced_tidy [] stand now (stand_is, now_is) = subst (λ (x : Stand). AreTidy opening [] x.dirty now x.jobs) (sym stand_is) tt
  traced_tidy (e ∷ older) stand now (was, before, traced, f) =
      subst (λ (x : Stand). AreTidy opening (e ∷ older) x.dirty now x.jobs) (sym f.stand_is)
      (closing_tidy (e ∷ older) now (is_closed (e ∷ older)) f.after (by e.what refl f.leads (traced_tidy older was before traced) (traced_reached opening tree settled older was before traced)))
    where
      by : (what : Event) → e.what ≡ what → EventLeads was what f.after before now → AreTidy opening older was.dirty before was.jobs → IsReached opening older was before → AreTidy opening (e ∷ older) (let a : Stand = f.after in a.dirty) now (let a : Stand = f.after in a.jobs)
      by (Step id did) is s t r =
          let one = only_job id was.jobs s.job (told_of opening before older (let x : IsReached opening older was before = r in x.part)) was.dirty r.marks before s.its r.knows in
          let tidy : IsTidyJob opening older was.dirty before s.job = subst (λ js. AreTidy opening older was.dirty before js) one.0 t in
          let knows = subst (λ js. JobsKnow (told_of opening before older (let x : IsReached opening older was before = r in x.part)) was.dirty r.marks before js) one.0 r.knows in
          let stays : (path : Route) → ((let x : IsReached opening older was before = r in x.part) ≡ Some path → ⊥) → names did path ≡ false → name_waits before path ≡ false → name_waits now path ≡ false =
          λ path other unnamed sure. (let still = event_still opening older was before r path sure other (Step id did) f.after now s unnamed in still.after) in
          let live : HasLive (live_jobs older) (s.job ∷ []) r.part = subst (λ js. HasLive (live_jobs older) js r.part) one.0 r.live in
          let item_is : live_item id (live_jobs older) ≡ Some (item_in (let j : Running = s.job in j.work)) =
          ap (live_item id) live ∙ ap (λ b. if◌then◌else◌ b (Some (item_in (let j : Running = s.job in j.work))) None) (eq-eqb (let j : Running = s.job in j.id) id one.1) in
          let a : Stand = f.after in
          let jobs_then : a.jobs ≡ before_others s.new [] = s.jobs_is ∙ (ap (with_job id s.new) one.0 ∙ (ap (λ n. with_job n s.new (s.job ∷ [])) (sym one.1) ∙ with_one s.job s.new)) in
          subst (λ js. AreTidy opening (e ∷ older) a.dirty now js) (sym jobs_then) (elim s.leads [
            | inl stepped ↦ subst (λ o. AreTidy opening (e ∷ older) a.dirty now (before_others o [])) (sym stepped.2)
                (after_tidy (e ∷ older) a.dirty now stepped.0 (ends did) (λ on. step_tidy e older id did was s.job stepped.0 a.dirty before now r knows stays item_is is one.1 on tidy stepped.1))
            | inr gives ↦ subst (λ o. AreTidy opening (e ∷ older) a.dirty now (before_others o [])) (sym gives.1) tt
          ])
      by (event.Began id plan background) is s t r =
          subst (λ (x : Stand). AreTidy opening (e ∷ older) x.dirty now x.jobs) (sym s.after_is)
          (begun_tidy (e ∷ older) was.dirty now id (begun_work id (sources_of plan)) (begun_clean id (sources_of plan)) (ap (λ w. changed_after id w (has_changed id older)) is ∙ ap (λ b. if◌then◌else◌ b false (has_changed id older)) (eq-eqb id id refl)))
      by (Next id plan) is s t r =
          let one = only_job id was.jobs s.job (told_of opening before older (let x : IsReached opening older was before = r in x.part)) was.dirty r.marks before s.its r.knows in
          let a : Stand = f.after in
          subst (λ js. AreTidy opening (e ∷ older) a.dirty now js) (sym (one_turned id was.jobs s.job s.next a.jobs one.0 one.1 s.jobs_is)) (turned_tidy e older a.dirty now id plan s.job s.next is one.1 (turned_to plan s.job s.next s.next_is))
      by (Order id order) is s t r =
          subst (λ (x : Stand). AreTidy opening (e ∷ older) x.dirty now x.jobs) (sym s.after_is)
          (order_tidy (e ∷ older) was.dirty now id order was.jobs (same_tidy e older was.dirty before now was.jobs (λ n. ap (λ w. changed_after n w (has_changed n older)) is) (ap (λ w. folders_event w (live_jobs older) (folders_told opening older)) is) (ap (λ w. calm_event w (live_jobs older) (calm_told older)) is) s.now_is t))
      by (Key key time refusals lost) is s t r =
          subst (λ (x : Stand). AreTidy opening (e ∷ older) x.dirty now x.jobs) (sym s.after_is) (same_tidy e older was.dirty before now was.jobs (λ n. ap (λ w. changed_after n w (has_changed n older)) is) (ap (λ w. folders_event w (live_jobs older) (folders_told opening older)) is) (ap (λ w. calm_event w (live_jobs older) (calm_told older)) is) s.now_is t)
      by (Look refusals) is s t r =
          subst (λ (x : Stand). AreTidy opening (e ∷ older) x.dirty now x.jobs) (sym s.after_is) (same_tidy e older was.dirty before now was.jobs (λ n. ap (λ w. changed_after n w (has_changed n older)) is) (ap (λ w. folders_event w (live_jobs older) (folders_told opening older)) is) (ap (λ w. calm_event w (live_jobs older) (calm_told older)) is) s.now_is t)
      by Sought is s t r =
          subst (λ (x : Stand). AreTidy opening (e ∷ older) x.dirty now x.jobs) (sym s.after_is) (same_tidy e older was.dirty before now was.jobs (λ n. ap (λ w. changed_after n w (has_changed n older)) is) (ap (λ w. folders_event w (live_jobs older) (folders_told opening older)) is) (ap (λ w. calm_event w (live_jobs older) (calm_told older)) is) s.now_is t)
      by Closed is s t r =
          subst (λ (x : Stand). AreTidy opening (e ∷ older) x.dirty now x.jobs) (sym s.after_is) (same_tidy e older was.dirty before now was.jobs (λ n. ap (λ w. changed_after n w (has_changed n older)) is) (ap (λ w. folders_event w (live_jobs older) (folders_told opening older)) is) (ap (λ w. calm_event w (live_jobs older) (calm_told older)) is) s.now_is t)
