-- A step of a job changes what the job touches and nothing else, so each other path stays as it was where the job began with its source; and so with answers and the close of a session.
use Rattle.std.proofs.Common.{◌≡◌, ℕ, Bool, true, false, List, [], ◌∷◌, refl, sym, ◌∙◌, ap, subst, inl, inr, Option, Some, None}
use Rattle.std.specs.Prelude.{⊤, ◌==◌, if◌then◌else◌, map}
use Rattle.std.specs.Option.{option_map}
use Rattle.std.proofs.lemmas.Bool.{both_ways, false_from_ne_true}
use Rattle.mc_text.specs.Routes.{Route, is_prefix, same_path}
use Rattle.tree_trait.specs.FileSystem.{View}
use Rattle.tree_trait.specs.Change.{CallLog, current}
use Rattle.tree_trait.specs.CrashImages.{Among}
use Rattle.tree_trait.proofs.Visible.{same_path-self, same_path-true}
use Rattle.job_reports.specs.declared.answer.Answer.{Answer}
use Rattle.job_answers.specs.declared.replies.Replies.{Replies}
use Rattle.job_reports.specs.declared.report.Did.{Did}
use Rattle.job_reports.specs.declared.report.Did.TheVariants.{Began, Chunk, Placed, Removed, Made, Set, Kept, Skipped, Cleaned, Barrier, Asked, Merges, Moved, Troubled, Ended}
use Rattle.job_reports.specs.Jobs.{ItemOfJob, Copies, Moves, Removes, Makes, MakesLink, Sets, RemovesEmptied}
use Rattle.session_entries.specs.declared.history.JobOrder.{JobOrder}
use Rattle.session_entries.specs.declared.history.JobOrder.TheVariants.{Answered}
use Rattle.mode_job.specs.Settings as settings
use Rattle.mode_job.specs.Settings.{Setting}
use Rattle.make_job.specs.declared.new_thing.NewThing.{NewThing}
use Rattle.make_job.specs.declared.new_thing.NewThing.TheVariants as thing
use Rattle.copy_move.specs.declared.run.Course.{Course}
use Rattle.copy_move.specs.declared.run.Course.TheVariants.{GoesOn, Asking, InTrouble, OwedSyncFailed, Skips, Ends}
use Rattle.copy_move.specs.declared.work.Work.{Work}
use Rattle.copy_move.specs.declared.work.Work.TheVariants.{Copy, Delete, Make, Move, SetMode, RemoveEmptied}
use Rattle.delete_job.specs.Deletions as deletions
use Rattle.delete_job.specs.Deletions.{Deleting}
use Rattle.make_job.specs.Makings as makings
use Rattle.make_job.specs.Makings.{Making}
use Rattle.copy_move.specs.Jobs.{Running, TellsOn, WorkTells, answered_job, answered_on, closed_course, closed_job}
use Rattle.copy_move.specs.JobStepReports.{Walks, WalksOn}
use Rattle.session_entries.specs.Moves.{moved_from}
use Rattle.laws_sessions.specs.Replayed.{made_by, placed_by, placed_copy, replayed_step, set_by, with_mode, with_mode_of}
use Rattle.laws_sessions.specs.Traces.{IsUnclaimed, before_others, ordered_job, unless_ended}
use Rattle.laws_sessions.proofs.Deleted.{put_off}
use Rattle.laws_sessions.proofs.MovedPaths.{moved_off}
use Rattle.laws_sessions.proofs.Sources.{IsSame, answer_same, item_in, making_item}
use Rattle.laws_outcomes.specs.Touched.{touches}
use Rattle.laws_sessions.proofs.ChangedPaths.{IsChanged}
use Rattle.laws_sessions.proofs.CopyTouches.{tree_touches}
use Rattle.laws_outcomes.proofs.Doing.{CourseDone, WorkDone}
use Rattle.laws_outcomes.proofs.MadeThings.{Unless, unless_of}
use Rattle.laws_outcomes.proofs.MovedThings.{moving_touches}
use Rattle.laws_outcomes.proofs.RemovedThings.{removal_touches}

-- this holds of a job that goes so, unless it makes its last steps
abbrev pub UnlessEnding : Course → Type 0 → Type 0
UnlessEnding GoesOn Holds = Holds
UnlessEnding (InTrouble halt) Holds = Holds
UnlessEnding (OwedSyncFailed cause) Holds = Holds
UnlessEnding Asking Holds = Holds
UnlessEnding (Skips cause) Holds = Holds
UnlessEnding (Ends ending) Holds = ⊤

pub unless_ending : (course : Course) (Holds : Type 0) → Holds → UnlessEnding course Holds
unless_ending GoesOn Holds h = h
unless_ending (InTrouble halt) Holds h = h
unless_ending (OwedSyncFailed cause) Holds h = h
unless_ending Asking Holds h = h
unless_ending (Skips cause) Holds h = h
unless_ending (Ends ending) Holds h = tt

unless_map : (did : Did) (A B : Type 0) → (A → B) → Unless did A → Unless did B
unless_map (Ended ending part) A B to a = tt
unless_map did A B to a = to a

-- each path that the item doesn't touch shows what it showed there
abbrev pub IsAsBegun : View → View → ItemOfJob → Type 0
IsAsBegun v was item = (path : Route) → touches item path ≡ false → v path ≡ was path

abbrev pub JobKept : View → (ℕ → View) → Running → Type 0
JobKept v was job = UnlessEnding job.course (IsAsBegun v (was job.id) (item_in job.work))

abbrev pub JobsKept : View → (ℕ → View) → List Running → Type 0
JobsKept v was [] = ⊤
JobsKept v was (job ∷ jobs) = JobKept v was job

pub kept_after : (did : Did) (v : View) (was : ℕ → View) (new : Running) → Unless did (JobKept v was new) → JobsKept v was (before_others (unless_ended did new) [])
kept_after (Ended ending part) v was new h = tt
kept_after did v was new h = h

-- what a report makes of the tree elsewhere than at the path that it changes
pub placed_off : (item : Option ItemOfJob) (path : Route) (v : View) (p : Route) → same_path p path ≡ false → placed_by item path v p ≡ v p
placed_off (Some (Copies source target)) path v p off = put_off v path (option_map placed_copy (v (moved_from source target path)).value) p off
placed_off (Some (Moves source target)) path v p off = refl
placed_off (Some (Removes top)) path v p off = refl
placed_off (Some (Makes made)) path v p off = refl
placed_off (Some (MakesLink made text)) path v p off = refl
placed_off (Some (Sets thing mode)) path v p off = refl
placed_off (Some (RemovesEmptied folder)) path v p off = refl
placed_off None path v p off = refl

pub set_off : (item : Option ItemOfJob) (path : Route) (v : View) (p : Route) → same_path p path ≡ false → set_by item path v p ≡ v p
set_off (Some (Copies source target)) path v p off = put_off v path (option_map (with_mode_of (v (moved_from source target path)).value) (v path).value) p off
set_off (Some (Moves source target)) path v p off = refl
set_off (Some (Removes top)) path v p off = refl
set_off (Some (Makes made)) path v p off = refl
set_off (Some (MakesLink made text)) path v p off = refl
set_off (Some (Sets thing mode)) path v p off = put_off v path (option_map (with_mode mode) (v path).value) p off
set_off (Some (RemovesEmptied folder)) path v p off = refl
set_off None path v p off = refl

apart : (item : ItemOfJob) (path p : Route) → touches item path ≡ true → touches item p ≡ false → same_path p path ≡ false
apart item path p on off = false_from_ne_true _ (λ same. both_ways _ off (subst (λ q. touches item q ≡ true) (sym (same_path-true p path same)) on))

pub step_else : (did : Did) (log : CallLog) (item : ItemOfJob) (v : View) → ((path : Route) → IsChanged did path → touches item path ≡ true) → Unless did (IsAsBegun (replayed_step log did (Some item) v) v item)
step_else (Removed path) log item v on = λ p off. put_off v path None p (apart item path p (on path (inl refl)) off)
step_else (Placed path) log item v on = λ p off. placed_off (Some item) path v p (apart item path p (on path (inl refl)) off)
step_else (Made path) log item v on = λ p off. put_off v path (Some (made_by (Some item) path v)) p (apart item path p (on path (inl refl)) off)
step_else (Set path) log item v on = λ p off. set_off (Some item) path v p (apart item path p (on path (inl refl)) off)
step_else (Moved pair) log item v on = λ p off. moved_off pair v p (false_from_ne_true _ (λ of. both_ways _ off (on p of)))
step_else (Ended ending part) log item v on = tt
step_else did log item v on = λ p off. refl

-- one path was changed
one_path : (a b : Route) → Among (a ∷ []) b → b ≡ a
one_path a b (inl is) = is
one_path a b (inr none) = absurd none

deletion_touches : (replies : Replies) (d new : Deleting) (did : Did) (path : Route) → deletions.Tells replies d did new → IsChanged did path → is_prefix d.path path ≡ true
deletion_touches replies d new (Removed p) path (off, within, at) is = subst (λ (q : Route). is_prefix d.path q ≡ true) (sym (one_path p path is)) within
deletion_touches replies d new (Kept p) path t is = absurd is
deletion_touches replies d new (Skipped p why) path t is = absurd is
deletion_touches replies d new (Troubled trouble) path t is = absurd is
deletion_touches replies d new Barrier path t is = absurd is
deletion_touches replies d new (Ended ending part) path t is = absurd is
deletion_touches replies d new did path t is = absurd t

making_touches : (m new : Making) (did : Did) (path : Route) → makings.Tells m did new → IsChanged did path → touches (making_item m.thing m.path) path ≡ true
making_touches m new (Made p) path (stage, path_is, new_is) is = by m.thing (subst (λ (q : Route). same_path q m.path ≡ true) (sym path_is ∙ sym (one_path p path is)) (same_path-self m.path))
  where
    by : (new : NewThing) → same_path path m.path ≡ true → touches (making_item new m.path) path ≡ true
    by thing.Folder h = h
    by (thing.Link text) h = h
making_touches m new Barrier path t is = absurd is
making_touches m new (Troubled trouble) path t is = absurd is
making_touches m new (Ended ending part) path t is = absurd is
making_touches m new did path t is = absurd t

setting_touches : (replies : Replies) (s new : Setting) (did : Did) (path : Route) → settings.Tells replies s did new → IsChanged did path → same_path path s.path ≡ true
setting_touches replies s new (Set p) path (stage, path_is, new_is) is = subst (λ (q : Route). same_path q s.path ≡ true) (sym path_is ∙ sym (one_path p path is)) (same_path-self s.path)
setting_touches replies s new Barrier path t is = absurd is
setting_touches replies s new (Troubled trouble) path t is = absurd is
setting_touches replies s new (Ended ending part) path t is = absurd is
setting_touches replies s new (Skipped p why) path t is = absurd is
setting_touches replies s new did path t is = absurd t

module _ (dirty dirty_after : List Route) (log now : CallLog) (passed : List Route) (begun v : View) where
  work_touches : (replies : Replies) (old new : Work) (did : Did) (path : Route) (calls faults faults_after : ℕ) → WorkTells replies old did new → Walks IsUnclaimed replies old new did calls dirty dirty_after (Some log) (Some now) faults faults_after
      → WorkDone passed begun v (current log) old → IsChanged did path → touches (item_in old) path ≡ true
  work_touches replies (Copy c) (Copy new) did path calls faults faults_after t walks k is =
      tree_touches c new did path walks.free replies calls dirty dirty_after (Some log) (Some now) walks.since faults_after walks.steps k.in_place t.may is
  work_touches replies (Delete d) (Delete new) did path calls faults faults_after t walks k is = deletion_touches replies d new did path t is
  work_touches replies (Make m) (Make new) did path calls faults faults_after t walks k is = making_touches m new did path t is
  work_touches replies (Move m) (Move new) did path calls faults faults_after t walks k is = moving_touches replies m new did path t is
  work_touches replies (SetMode s) (SetMode new) did path calls faults faults_after t walks k is = setting_touches replies s new did path t is
  work_touches replies (Copy x) (Delete new) did path calls faults faults_after t walks k is = absurd t
  work_touches replies (Copy x) (Make new) did path calls faults faults_after t walks k is = absurd t
  work_touches replies (Copy x) (Move new) did path calls faults faults_after t walks k is = absurd t
  work_touches replies (Copy x) (SetMode new) did path calls faults faults_after t walks k is = absurd t
  work_touches replies (Delete x) (Copy new) did path calls faults faults_after t walks k is = absurd t
  work_touches replies (Delete x) (Make new) did path calls faults faults_after t walks k is = absurd t
  work_touches replies (Delete x) (Move new) did path calls faults faults_after t walks k is = absurd t
  work_touches replies (Delete x) (SetMode new) did path calls faults faults_after t walks k is = absurd t
  work_touches replies (Make x) (Copy new) did path calls faults faults_after t walks k is = absurd t
  work_touches replies (Move x) (Copy new) did path calls faults faults_after t walks k is = absurd t
  work_touches replies (Make x) (Delete new) did path calls faults faults_after t walks k is = absurd t
  work_touches replies (Move x) (Delete new) did path calls faults faults_after t walks k is = absurd t
  work_touches replies (Make x) (SetMode new) did path calls faults faults_after t walks k is = absurd t
  work_touches replies (Make x) (Move new) did path calls faults faults_after t walks k is = absurd t
  work_touches replies (Move x) (SetMode new) did path calls faults faults_after t walks k is = absurd t
  work_touches replies (SetMode x) (Copy new) did path calls faults faults_after t walks k is = absurd t
  work_touches replies (SetMode x) (Delete new) did path calls faults faults_after t walks k is = absurd t
  work_touches replies (SetMode x) (Make new) did path calls faults faults_after t walks k is = absurd t
  work_touches replies (Move x) (Make new) did path calls faults faults_after t walks k is = absurd t
  work_touches replies (SetMode x) (Move new) did path calls faults faults_after t walks k is = absurd t
  work_touches replies (RemoveEmptied r) (RemoveEmptied new) did path calls faults faults_after t walks k is = removal_touches replies r new did path t is
  work_touches replies (RemoveEmptied x) (Copy new) did path calls faults faults_after t walks k is = absurd t
  work_touches replies (RemoveEmptied x) (Delete new) did path calls faults faults_after t walks k is = absurd t
  work_touches replies (RemoveEmptied x) (SetMode new) did path calls faults faults_after t walks k is = absurd t
  work_touches replies (RemoveEmptied x) (Move new) did path calls faults faults_after t walks k is = absurd t
  work_touches replies (Copy x) (RemoveEmptied new) did path calls faults faults_after t walks k is = absurd t
  work_touches replies (Delete x) (RemoveEmptied new) did path calls faults faults_after t walks k is = absurd t
  work_touches replies (SetMode x) (RemoveEmptied new) did path calls faults faults_after t walks k is = absurd t
  work_touches replies (Move x) (RemoveEmptied new) did path calls faults faults_after t walks k is = absurd t
  work_touches replies (RemoveEmptied r) (Make new) did path calls faults faults_after t walks k is = absurd t
  work_touches replies (Make x) (RemoveEmptied new) did path calls faults faults_after t walks k is = absurd t

  -- so a step leaves what the job doesn't touch
  still : (job new : Running) (did : Did) (was : ℕ → View) → IsSame job new → IsAsBegun v (was job.id) (item_in job.work) → ((path : Route) → IsChanged did path → touches (item_in job.work) path ≡ true)
      → Unless did (JobKept (replayed_step now did (Some (item_in job.work)) v) was new)
  still job new did was same kept on =
      unless_map did (IsAsBegun (replayed_step now did (Some (item_in job.work)) v) v (item_in job.work)) (JobKept (replayed_step now did (Some (item_in job.work)) v) was new)
      (λ h. unless_ending new.course (IsAsBegun (replayed_step now did (Some (item_in job.work)) v) (was new.id) (item_in new.work))
      (subst (λ n. IsAsBegun (replayed_step now did (Some (item_in job.work)) v) (was n) (item_in new.work)) (sym same.0)
      (subst (λ i. IsAsBegun (replayed_step now did (Some (item_in job.work)) v) (was job.id) i) (sym same.1) (λ p off. h p off ∙ kept p off))))
      (step_else did now (item_in job.work) v on)

  pub course_touches : (job new : Running) (did : Did) (course : Course) (calls faults faults_after : ℕ) (v_was : ℕ → View) → job.course ≡ course → TellsOn course job did new
      → WalksOn IsUnclaimed job.replies course job.work new.work did calls dirty dirty_after (Some log) (Some now) faults faults_after → CourseDone course passed begun v (current log) job.work
      → UnlessEnding course (IsAsBegun v (v_was job.id) (item_in job.work)) → IsSame job new → Unless did (JobKept (replayed_step now did (Some (item_in job.work)) v) v_was new)
  course_touches job new did GoesOn calls faults faults_after was is (work, t, new_is) walks k kept same =
      still job new did was same kept (λ path changed. work_touches job.replies job.work new.work did path calls faults faults_after (subst (WorkTells job.replies job.work did) (sym (ap (λ (x : Running). x.work) new_is)) t) walks k changed)
  course_touches job new did (InTrouble halt) calls faults faults_after was is t walks k kept same = absurd t
  course_touches job new did (OwedSyncFailed cause) calls faults faults_after was is t walks k kept same = absurd t
  course_touches job new did Asking calls faults faults_after was is t walks k kept same = absurd t
  course_touches job new did (Skips cause) calls faults faults_after was is (inl (path, work, did_is, passes, new_is)) walks k kept same =
      still job new did was same kept (λ p changed. absurd (subst (λ (d : Did). IsChanged d p) did_is changed))
  course_touches job new did (Skips cause) calls faults faults_after was is (inr (off, did_is, new_is)) walks k kept same =
      still job new did was same kept (λ p changed. absurd (subst (λ (d : Did). IsChanged d p) did_is changed))
  course_touches job new did (Ends ending) calls faults faults_after was is (work, winds, new_is) walks k kept same =
      subst (λ c. Unless did (UnlessEnding c (IsAsBegun (replayed_step now did (Some (item_in job.work)) v) (was new.id) (item_in new.work)))) (sym (ap (λ (x : Running). x.course) new_is ∙ is)) (unless_of did ⊤ tt)

-- an answer, and the close of a session
module _ (v : View) (was : ℕ → View) where
  moved : (job new : Running) → IsSame job new → IsAsBegun v (was job.id) (item_in job.work) → JobKept v was new
  moved job new same kept =
      unless_ending new.course (IsAsBegun v (was new.id) (item_in new.work))
      (subst (λ n. IsAsBegun v (was n) (item_in new.work)) (sym same.0) (subst (λ i. IsAsBegun v (was job.id) i) (sym same.1) kept))

  answer_kept : (course : Course) (answer : Answer) (job : Running) → job.course ≡ course → JobKept v was job → IsSame job (answered_on course answer job) → JobKept v was (answered_on course answer job)
  answer_kept (InTrouble halt) answer job is k same = moved job (answered_on (InTrouble halt) answer job) same (subst (λ c. UnlessEnding c (IsAsBegun v (was job.id) (item_in job.work))) is k)
  answer_kept (OwedSyncFailed cause) answer job is k same = moved job (answered_on (OwedSyncFailed cause) answer job) same (subst (λ c. UnlessEnding c (IsAsBegun v (was job.id) (item_in job.work))) is k)
  answer_kept Asking answer job is k same = moved job (answered_on Asking answer job) same (subst (λ c. UnlessEnding c (IsAsBegun v (was job.id) (item_in job.work))) is k)
  answer_kept GoesOn answer job is k same = k
  answer_kept (Skips cause) answer job is k same = k
  answer_kept (Ends ending) answer job is k same = k

  order_kept : (id : ℕ) (order : JobOrder) (job : Running) → JobKept v was job → JobKept v was (ordered_job id order job)
  order_kept id (Answered answer) job k = by (job.id == id)
    where
      by : (b : Bool) → JobKept v was (if b then answered_job answer job else job)
      by true = answer_kept job.course answer job refl k (answer_same answer job)
      by false = k

  pub orders_kept : (id : ℕ) (order : JobOrder) (jobs : List Running) → JobsKept v was jobs → JobsKept v was (map (ordered_job id order) jobs)
  orders_kept id order [] k = tt
  orders_kept id order (job ∷ jobs) k = order_kept id order job k

  pub close_by : (course : Course) (Holds : Type 0) → UnlessEnding course Holds → UnlessEnding (closed_course course) Holds
  close_by GoesOn Holds k = k
  close_by (InTrouble halt) Holds k = tt
  close_by (OwedSyncFailed cause) Holds k = tt
  close_by Asking Holds k = tt
  close_by (Skips cause) Holds k = k
  close_by (Ends ending) Holds k = k

  pub closed_kept : (jobs : List Running) → JobsKept v was jobs → JobsKept v was (map closed_job jobs)
  closed_kept [] k = tt
  closed_kept (job ∷ jobs) k = close_by job.course (IsAsBegun v (was job.id) (item_in job.work)) k
