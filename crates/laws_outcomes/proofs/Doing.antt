-- What a job knows of what it leaves, and how each step keeps that.
use Rattle.std.proofs.Common.{◌≡◌, ℕ, Bool, true, false, not, List, [], ◌∷◌, refl, sym, ◌∙◌, ap, subst, inl, inr, Option, Some, None}
use Rattle.std.specs.Prelude.{⊤, ◌&&◌, is_some, nat_le, if◌then◌else◌, map, ◌==◌}
use Rattle.std.specs.Option.{option_map}
use Rattle.mc_text.specs.Routes.{Route, parent_of, same_path}
use Rattle.tree_trait.specs.declared.file_system.FileSystem.{FileSystem}
use Rattle.tree_trait.specs.FileSystem.{Spot, Value, View, node, value}
use Rattle.tree_trait.specs.Calls.{Rename, SetMode as Sets_mode}
use Rattle.tree_trait.specs.Change.{CallLog, current, found_node}
use Rattle.laws_crash.specs.Guarded.{Marks}
use Rattle.job_reports.specs.declared.job.Job.{Job}
use Rattle.job_reports.specs.declared.job.Job.TheVariants as plan
use Rattle.job_reports.specs.declared.job.Pair.{Pair}
use Rattle.job_reports.specs.declared.report.Cause.{Cause}
use Rattle.job_reports.specs.declared.report.Did.{Did}
use Rattle.job_reports.specs.declared.report.Did.TheVariants.{Began, Chunk, Placed, Removed, Made, Set, Kept, Skipped, Cleaned, Barrier, Asked, Merges, Moved, Troubled, Ended}
use Rattle.job_reports.specs.declared.answer.Answer.{Answer}
use Rattle.job_reports.specs.declared.answer.Answer.TheVariants.{Yes, No, All, Update, Nothing, SizeDiffers, Retry, Skip, SkipAll, Abort}
use Rattle.job_reports.specs.Jobs.{is_link_text}
use Rattle.job_reports.specs.CallRuns.{AllDone}
use Rattle.job_reports.proofs.CallAnswers.{done_call, one_done, some_log}
use Rattle.session_entries.specs.declared.history.JobOrder.{JobOrder}
use Rattle.session_entries.specs.declared.history.JobOrder.TheVariants.{Answered}
use Rattle.mode_job.specs.Settings.{Setting}
use Rattle.mode_job.specs.SettingSteps.{SettingCalls}
use Rattle.job_answers.specs.declared.replies.Replies.{Replies}
use Rattle.job_reports.specs.Jobs.{ItemOfJob}
use Rattle.move_job.specs.Movings.{Moving, MovingCalls}
use Rattle.make_job.specs.declared.new_thing.NewThing.{NewThing}
use Rattle.make_job.specs.declared.new_thing.NewThing.TheVariants as thing
use Rattle.copy_move.specs.declared.run.Course.{Course}
use Rattle.copy_move.specs.declared.run.Course.TheVariants.{GoesOn, Asking, InTrouble, OwedSyncFailed, Skips, Ends}
use Rattle.copy_move.specs.declared.work.Work.{Work}
use Rattle.copy_move.specs.declared.work.Work.TheVariants.{Copy, Delete, Make, Move, SetMode, RemoveEmptied}
use Rattle.copy_move.specs.Jobs.{Running, CallsOn, PassesOver, TellsOn, WorkCalls, WorkTells, answered_job, answered_on, begun_work, closed_course, closed_job, course_after, first_work, taken_anew}
use Rattle.copy_move.specs.Jobs as works
use Rattle.copy_move.specs.JobStepReports.{SkipWalks, Walks, WalksOn}
use Rattle.laws_sessions.specs.Replayed.{replayed_step}
use Rattle.laws_sessions.specs.Traces.{IsUnclaimed, WorkLeads, before_others, ordered_job, unless_ended}
use Rattle.laws_sessions.proofs.Calming.{mode_finds}
use Rattle.laws_sessions.proofs.JobKnows.{WorkKnows}
use Rattle.laws_sessions.proofs.Knowing.{IsKept, HistoryFacts}
use Rattle.laws_sessions.proofs.Sources.{item_in, making_item}
use Rattle.laws_sessions.proofs.Turns.{Turned}
use Rattle.laws_outcomes.specs.Outcomes.{kept_of, passed_by, passed_in}
use Rattle.laws_outcomes.proofs.ApartPaths.{GoesTo, named_goes}
use Rattle.laws_outcomes.proofs.CopyOutcome.{TreeAccounts, tree_begins, tree_passed, tree_steps, tree_taken}
use Rattle.laws_outcomes.proofs.MadeThings.{MakingDone, SettingDone, Unless, making_skips, making_steps, setting_skips, setting_steps, unless_of}
use Rattle.laws_outcomes.proofs.MovedThings.{MovingDone, moving_begins, moving_skips, moving_steps}
use Rattle.laws_outcomes.proofs.RemovedThings.{RemovalDone, removal_begins, removal_skips, removal_steps}
use Rattle.laws_outcomes.proofs.Deciding.{DeletionDone}
use Rattle.laws_outcomes.proofs.Deletions.{deletion_skips, deletion_steps}

-- what a piece of work knows, where the tree was another one as the job began with it
abbrev pub WorkDone : List Route → View → View → FileSystem → Work → Type 0
WorkDone passed begun v s (Copy c) = TreeAccounts passed v c
WorkDone passed begun v s (Delete d) = DeletionDone passed s d
WorkDone passed begun v s (Make m) = MakingDone passed v m
WorkDone passed begun v s (Move m) = MovingDone passed begun v m
WorkDone passed begun v s (SetMode w) = SettingDone passed v w
WorkDone passed begun v s (RemoveEmptied r) = RemovalDone passed begun v r

-- a job that makes its last steps is never finished
abbrev pub CourseDone : Course → List Route → View → View → FileSystem → Work → Type 0
CourseDone GoesOn passed begun v s work = WorkDone passed begun v s work
CourseDone (InTrouble halt) passed begun v s work = WorkDone passed begun v s work
CourseDone (OwedSyncFailed cause) passed begun v s work = WorkDone passed begun v s work
CourseDone Asking passed begun v s work = WorkDone passed begun v s work
CourseDone (Skips cause) passed begun v s work = WorkDone passed begun v s work
CourseDone (Ends ending) passed begun v s work = ⊤

abbrev pub JobDone : List Route → View → View → FileSystem → Running → Type 0
JobDone passed begun v s job = CourseDone job.course passed begun v s job.work

-- at most one job is live
abbrev pub JobsDone : (ℕ → List Route) → (ℕ → View) → View → FileSystem → List Running → Type 0
JobsDone passed begun v s [] = ⊤
JobsDone passed begun v s (job ∷ jobs) = JobDone (passed job.id) (begun job.id) v s job

on_course : (did : Did) (passed : List Route) (begun v : View) (s : FileSystem) (work : Work) → Unless did (WorkDone passed begun v s work) → Unless did (CourseDone (course_after did) passed begun v s work)
on_course (Ended ending part) passed begun v s work h = tt
on_course did passed begun v s work h = h

-- of the jobs after a report
pub jobs_after : (did : Did) (passed : ℕ → List Route) (begun : ℕ → View) (v : View) (s : FileSystem) (new : Running) → Unless did (JobDone (passed new.id) (begun new.id) v s new) → JobsDone passed begun v s (before_others (unless_ended did new) [])
jobs_after (Ended ending part) passed begun v s new h = tt
jobs_after did passed begun v s new h = h

-- something is passed over
skips_work : (old new : Work) (cause : Cause) (path : Route) (passed : List Route) (begun v : View) (s : FileSystem) → PassesOver old path new → SkipWalks cause old (Skipped path cause) new → WorkDone passed begun v s old → WorkDone (path ∷ passed) begun v s new
skips_work (Copy c) (Copy new) cause path passed begun v s p w k = tree_passed c new cause cause path passed v w k
skips_work (Delete d) (Delete new) cause path passed begun v s p w k = deletion_skips d new cause (Skipped path cause) passed s w k
skips_work (Make m) (Make new) cause path passed begun v s (path_is, new_is) w k = making_skips m new path passed v path_is new_is k
skips_work (Move m) (Move new) cause path passed begun v s (path_is, new_is) w k = moving_skips m new path passed begun v w path_is new_is k
skips_work (SetMode t) (SetMode new) cause path passed begun v s (path_is, new_is) w k = setting_skips t new path passed v path_is new_is k
skips_work (Copy c) (Delete new) cause path passed begun v s p w k = absurd p
skips_work (Copy c) (Make new) cause path passed begun v s p w k = absurd p
skips_work (Copy c) (Move new) cause path passed begun v s p w k = absurd p
skips_work (Copy c) (SetMode new) cause path passed begun v s p w k = absurd p
skips_work (Delete d) (Copy new) cause path passed begun v s p w k = absurd p
skips_work (Delete d) (Make new) cause path passed begun v s p w k = absurd p
skips_work (Delete d) (Move new) cause path passed begun v s p w k = absurd p
skips_work (Delete d) (SetMode new) cause path passed begun v s p w k = absurd p
skips_work (Make m) (Copy new) cause path passed begun v s p w k = absurd p
skips_work (Move m) (Copy new) cause path passed begun v s p w k = absurd p
skips_work (Make m) (Delete new) cause path passed begun v s p w k = absurd p
skips_work (Move m) (Delete new) cause path passed begun v s p w k = absurd p
skips_work (Make m) (SetMode new) cause path passed begun v s p w k = absurd p
skips_work (Make m) (Move new) cause path passed begun v s p w k = absurd p
skips_work (Move m) (SetMode new) cause path passed begun v s p w k = absurd p
skips_work (SetMode t) (Copy new) cause path passed begun v s p w k = absurd p
skips_work (SetMode t) (Delete new) cause path passed begun v s p w k = absurd p
skips_work (SetMode t) (Make new) cause path passed begun v s p w k = absurd p
skips_work (Move t) (Make new) cause path passed begun v s p w k = absurd p
skips_work (SetMode t) (Move new) cause path passed begun v s p w k = absurd p
skips_work (RemoveEmptied r) (RemoveEmptied new) cause path passed begun v s (path_is, new_is) w k = removal_skips r new path passed begun v w path_is new_is k
skips_work (RemoveEmptied r) (Copy new) cause path passed begun v s p w k = absurd p
skips_work (RemoveEmptied r) (Delete new) cause path passed begun v s p w k = absurd p
skips_work (RemoveEmptied r) (SetMode new) cause path passed begun v s p w k = absurd p
skips_work (RemoveEmptied r) (Move new) cause path passed begun v s p w k = absurd p
skips_work (Copy c) (RemoveEmptied new) cause path passed begun v s p w k = absurd p
skips_work (Delete d) (RemoveEmptied new) cause path passed begun v s p w k = absurd p
skips_work (SetMode t) (RemoveEmptied new) cause path passed begun v s p w k = absurd p
skips_work (Move t) (RemoveEmptied new) cause path passed begun v s p w k = absurd p
skips_work (RemoveEmptied r) (Make new) cause path passed begun v s p w k = absurd p
skips_work (Make m) (RemoveEmptied new) cause path passed begun v s p w k = absurd p

-- of a job that keeps nothing of its own what is passed over is what was skipped
in_plain : (item : ItemOfJob) (did : Did) (passed : List Route) → kept_of (Some item) passed ≡ passed → passed_in (Some item) did passed ≡ passed_by did passed
in_plain item (Kept path) passed plain = plain
in_plain item did passed plain = refl

makes_plain : (new : NewThing) (path : Route) (passed : List Route) → kept_of (Some (making_item new path)) passed ≡ passed
makes_plain thing.Folder path passed = refl
makes_plain (thing.Link text) path passed = refl

module _ (told : HistoryFacts) (dirty dirty_after : List Route) (marks : Marks) (log now : CallLog) (kept : IsKept told dirty marks log) (begun : View) where
  abbrev Then : List Route → Did → Work → Work → Type 0
  Then passed did old new = Unless did (WorkDone (passed_in (Some (item_in old)) did passed) begun (replayed_step now did (Some (item_in old)) told.tree) (current now) new)

  -- where a mode is set something stands
  pub stands : (s : Setting) (did : Did) → WorkKnows told dirty marks log GoesOn (SetMode s) → SettingCalls s did log (Some now) → (path : Route) → did ≡ Set path → (x : Value) × ((told.tree s.path).value ≡ Some x)
  stands s did (name, none) called path is =
      let done : AllDone log (Sets_mode s.path s.mode ∷ []) (Some now) = subst (λ (x : Did). SettingCalls s x log (Some now)) is called in
      let d = one_done log (Sets_mode s.path s.mode) now done in (
        value (node (current log) (found_node (current log) s.path)),
        ap (λ (x : Spot). x.value) (sym (kept.known.shows s.path (λ part. let e : (let o : Option Route = None in o) ≡ Some s.path = sym none ∙ part in let x : ⊥ = cc in x)))
            ∙ ap (option_map (λ k. value (node (current log) k))) (mode_finds (current log) s.path s.mode d.permits),
      )

  -- what is moved stands, lies apart from where it goes, and goes onto no folder
  pub goes_to : (replies : Replies) (m : Moving) (did : Did) → WorkKnows told dirty marks log GoesOn (Move m) → MovingCalls replies m did log (Some now) → (pair : Pair) → did ≡ Moved pair → GoesTo log m.pair
  goes_to replies m did knows called pair is =
      let renamed = subst (λ (x : Did). MovingCalls replies m x log (Some now)) is called in
      let d = done_call log (Rename m.pair.source m.pair.target) now renamed.1 in
      named_goes log kept.known.guarded.tree replies m.pair knows.source knows.target knows.other renamed.0 d.permits

  work_steps : (replies : Replies) (old new : Work) (did : Did) (calls faults faults_after : ℕ) (passed : List Route) → WorkKnows told dirty marks log GoesOn old → WorkTells replies old did new → WorkCalls IsUnclaimed replies old did new log (Some now)
      → Walks IsUnclaimed replies old new did calls dirty dirty_after (Some log) (Some now) faults faults_after → WorkDone passed begun told.tree (current log) old → Then passed did old new
  work_steps replies (Copy c) (Copy new) did calls faults faults_after passed knows t called walks k =
      unless_of did (WorkDone (passed_in (Some (item_in (Copy c))) did passed) begun (replayed_step now did (Some (item_in (Copy c))) told.tree) (current now) (Copy new))
      (tree_steps told dirty dirty_after marks log now kept c new did passed GoesOn walks.free replies calls walks.since faults_after knows.part walks.steps k)
  work_steps replies (Delete d) (Delete new) did calls faults faults_after passed knows t called walks k =
      subst (λ p. Unless did (DeletionDone p (current now) new)) (sym (in_plain (item_in (Delete d)) did passed refl)) (deletion_steps replies d new did calls dirty dirty_after log now faults faults_after passed kept.known.guarded.tree t walks k)
  work_steps replies (Make m) (Make new) did calls faults faults_after passed knows t called walks k =
      subst (λ p. Unless did (MakingDone p (replayed_step now did (Some (item_in (Make m))) told.tree) new)) (sym (in_plain (item_in (Make m)) did passed (makes_plain m.thing m.path passed))) (making_steps m new did now passed told.tree t k)
  work_steps replies (Move m) (Move new) did calls faults faults_after passed knows t called walks k =
      moving_steps replies m new did now passed begun told.tree (λ pair is. let g = goes_to replies m did knows called pair is in g.apart) t k
  work_steps replies (SetMode s) (SetMode new) did calls faults faults_after passed knows t called walks k =
      subst (λ p. Unless did (SettingDone p (replayed_step now did (Some (item_in (SetMode s))) told.tree) new)) (sym (in_plain (item_in (SetMode s)) did passed refl)) (setting_steps replies s new did now passed told.tree t (stands s did knows called) k)
  work_steps replies (Copy c) (Delete new) did calls faults faults_after passed knows t called walks k = absurd t
  work_steps replies (Copy c) (Make new) did calls faults faults_after passed knows t called walks k = absurd t
  work_steps replies (Copy c) (Move new) did calls faults faults_after passed knows t called walks k = absurd t
  work_steps replies (Copy c) (SetMode new) did calls faults faults_after passed knows t called walks k = absurd t
  work_steps replies (Delete d) (Copy new) did calls faults faults_after passed knows t called walks k = absurd t
  work_steps replies (Delete d) (Make new) did calls faults faults_after passed knows t called walks k = absurd t
  work_steps replies (Delete d) (Move new) did calls faults faults_after passed knows t called walks k = absurd t
  work_steps replies (Delete d) (SetMode new) did calls faults faults_after passed knows t called walks k = absurd t
  work_steps replies (Make m) (Copy new) did calls faults faults_after passed knows t called walks k = absurd t
  work_steps replies (Move m) (Copy new) did calls faults faults_after passed knows t called walks k = absurd t
  work_steps replies (Make m) (Delete new) did calls faults faults_after passed knows t called walks k = absurd t
  work_steps replies (Move m) (Delete new) did calls faults faults_after passed knows t called walks k = absurd t
  work_steps replies (Make m) (SetMode new) did calls faults faults_after passed knows t called walks k = absurd t
  work_steps replies (Make m) (Move new) did calls faults faults_after passed knows t called walks k = absurd t
  work_steps replies (Move m) (SetMode new) did calls faults faults_after passed knows t called walks k = absurd t
  work_steps replies (SetMode s) (Copy new) did calls faults faults_after passed knows t called walks k = absurd t
  work_steps replies (SetMode s) (Delete new) did calls faults faults_after passed knows t called walks k = absurd t
  work_steps replies (SetMode s) (Make new) did calls faults faults_after passed knows t called walks k = absurd t
  work_steps replies (Move s) (Make new) did calls faults faults_after passed knows t called walks k = absurd t
  work_steps replies (SetMode s) (Move new) did calls faults faults_after passed knows t called walks k = absurd t
  work_steps replies (RemoveEmptied r) (RemoveEmptied new) did calls faults faults_after passed knows t called walks k =
      removal_steps replies r new did now passed begun told.tree t k
  work_steps replies (RemoveEmptied r) (Copy new) did calls faults faults_after passed knows t called walks k = absurd t
  work_steps replies (RemoveEmptied r) (Delete new) did calls faults faults_after passed knows t called walks k = absurd t
  work_steps replies (RemoveEmptied r) (SetMode new) did calls faults faults_after passed knows t called walks k = absurd t
  work_steps replies (RemoveEmptied r) (Move new) did calls faults faults_after passed knows t called walks k = absurd t
  work_steps replies (Copy c) (RemoveEmptied new) did calls faults faults_after passed knows t called walks k = absurd t
  work_steps replies (Delete d) (RemoveEmptied new) did calls faults faults_after passed knows t called walks k = absurd t
  work_steps replies (SetMode s) (RemoveEmptied new) did calls faults faults_after passed knows t called walks k = absurd t
  work_steps replies (Move s) (RemoveEmptied new) did calls faults faults_after passed knows t called walks k = absurd t
  work_steps replies (RemoveEmptied r) (Make new) did calls faults faults_after passed knows t called walks k = absurd t
  work_steps replies (Make m) (RemoveEmptied new) did calls faults faults_after passed knows t called walks k = absurd t

  abbrev Later : List Route → Did → Running → Running → Type 0
  Later passed did job new = Unless did (JobDone (passed_in (Some (item_in job.work)) did passed) begun (replayed_step now did (Some (item_in job.work)) told.tree) (current now) new)

  course_steps : (job new : Running) (did : Did) (course : Course) (calls faults faults_after : ℕ) (passed : List Route) → job.course ≡ course → WorkKnows told dirty marks log course job.work → TellsOn course job did new
      → CallsOn IsUnclaimed course job did new log (Some now) → WalksOn IsUnclaimed job.replies course job.work new.work did calls dirty dirty_after (Some log) (Some now) faults faults_after → CourseDone course passed begun told.tree (current log) job.work
      → Later passed did job new
  course_steps job new did GoesOn calls faults faults_after passed is knows (work, t, new_is) called walks k =
      subst (λ c. Unless did (CourseDone c (passed_in (Some (item_in job.work)) did passed) begun (replayed_step now did (Some (item_in job.work)) told.tree) (current now) new.work)) (sym (ap (λ (x : Running). x.course) new_is))
      (on_course did (passed_in (Some (item_in job.work)) did passed) begun (replayed_step now did (Some (item_in job.work)) told.tree) (current now) new.work
      (work_steps job.replies job.work new.work did calls faults faults_after passed knows (subst (WorkTells job.replies job.work did) (sym (ap (λ (x : Running). x.work) new_is)) t) called walks k))
  course_steps job new did (InTrouble halt) calls faults faults_after passed is knows t called walks k = absurd t
  course_steps job new did (OwedSyncFailed cause) calls faults faults_after passed is knows t called walks k = absurd t
  course_steps job new did Asking calls faults faults_after passed is knows t called walks k = absurd t
  course_steps job new did (Skips cause) calls faults faults_after passed is knows (inl (path, work, did_is, passes, new_is)) called walks k =
      let w = ap (λ (x : Running). x.work) new_is in
      subst (λ (d : Did). Later passed d job new) (sym did_is)
      (subst (λ c. CourseDone c (path ∷ passed) begun told.tree (current now) new.work) (sym (ap (λ (x : Running). x.course) new_is))
      (subst (λ (l : CallLog). WorkDone (path ∷ passed) begun told.tree (current l) new.work) (sym (some_log now log called))
      (skips_work job.work new.work cause path passed begun told.tree (current log) (subst (PassesOver job.work path) (sym w) passes) (subst (λ (d : Did). SkipWalks cause job.work d new.work) did_is walks) k)))
  course_steps job new did (Skips cause) calls faults faults_after passed is knows (inr (apart, did_is, new_is)) called walks k =
      subst (λ (d : Did). Later passed d job new) (sym did_is)
      (subst (λ (x : Running). JobDone passed begun told.tree (current now) x) (sym new_is)
      (subst (λ (l : CallLog). WorkDone passed begun told.tree (current l) job.work) (sym (some_log now log called)) k))
  course_steps job new did (Ends ending) calls faults faults_after passed is knows (work, winds, new_is) called walks k =
      subst (λ c. Unless did (CourseDone c (passed_in (Some (item_in job.work)) did passed) begun (replayed_step now did (Some (item_in job.work)) told.tree) (current now) new.work)) (sym (ap (λ (x : Running). x.course) new_is ∙ is))
      (unless_of did ⊤ tt)

  pub leads_done : (job new : Running) (did : Did) (passed : List Route) → WorkKnows told dirty marks log job.course job.work → WorkLeads job did new dirty dirty_after log now → JobDone passed begun told.tree (current log) job → Later passed did job new
  leads_done job new did passed knows w k = let x = w.walks in course_steps job new did job.course x.0 x.1 x.2 passed refl knows w.tells w.called x.3 k

-- an answer, and the close of a session
module _ (passed : List Route) (begun v : View) (s : FileSystem) where
  anew_done : (work : Work) → WorkDone passed begun v s work → WorkDone passed begun v s (taken_anew work)
  anew_done (Copy c) k = tree_taken c passed v k
  anew_done (Delete d) k = k
  anew_done (Make m) k = k
  anew_done (Move m) k = k
  anew_done (SetMode t) k = k
  anew_done (RemoveEmptied r) k = k

  answer_done : (course : Course) (answer : Answer) (job : Running) → job.course ≡ course → JobDone passed begun v s job → JobDone passed begun v s (answered_on course answer job)
  answer_done (InTrouble halt) Retry job is k = anew_done job.work (subst (λ c. CourseDone c passed begun v s job.work) is k)
  answer_done (InTrouble halt) Skip job is k = subst (λ c. CourseDone c passed begun v s job.work) is k
  answer_done (InTrouble halt) SkipAll job is k = subst (λ c. CourseDone c passed begun v s job.work) is k
  answer_done (InTrouble halt) Abort job is k = tt
  answer_done (OwedSyncFailed cause) Retry job is k = anew_done job.work (subst (λ c. CourseDone c passed begun v s job.work) is k)
  answer_done (OwedSyncFailed cause) Skip job is k = k
  answer_done (OwedSyncFailed cause) SkipAll job is k = k
  answer_done (OwedSyncFailed cause) Abort job is k = tt
  answer_done (InTrouble halt) Yes job is k = k
  answer_done (InTrouble halt) No job is k = k
  answer_done (InTrouble halt) All job is k = k
  answer_done (InTrouble halt) Update job is k = k
  answer_done (InTrouble halt) Nothing job is k = k
  answer_done (InTrouble halt) SizeDiffers job is k = k
  answer_done (OwedSyncFailed cause) Yes job is k = k
  answer_done (OwedSyncFailed cause) No job is k = k
  answer_done (OwedSyncFailed cause) All job is k = k
  answer_done (OwedSyncFailed cause) Update job is k = k
  answer_done (OwedSyncFailed cause) Nothing job is k = k
  answer_done (OwedSyncFailed cause) SizeDiffers job is k = k
  answer_done Asking Yes job is k = subst (λ c. CourseDone c passed begun v s job.work) is k
  answer_done Asking No job is k = subst (λ c. CourseDone c passed begun v s job.work) is k
  answer_done Asking All job is k = subst (λ c. CourseDone c passed begun v s job.work) is k
  answer_done Asking Update job is k = subst (λ c. CourseDone c passed begun v s job.work) is k
  answer_done Asking Nothing job is k = subst (λ c. CourseDone c passed begun v s job.work) is k
  answer_done Asking SizeDiffers job is k = subst (λ c. CourseDone c passed begun v s job.work) is k
  answer_done Asking Retry job is k = k
  answer_done Asking Skip job is k = k
  answer_done Asking SkipAll job is k = k
  answer_done Asking Abort job is k = tt
  answer_done GoesOn answer job is k = k
  answer_done (Skips cause) answer job is k = k
  answer_done (Ends ending) answer job is k = k

  order_by : (b : Bool) (answer : Answer) (job : Running) → JobDone passed begun v s job → JobDone passed begun v s (if b then answered_job answer job else job)
  order_by true answer job k = answer_done job.course answer job refl k
  order_by false answer job k = k

  close_by : (course : Course) (work : Work) → CourseDone course passed begun v s work → CourseDone (closed_course course) passed begun v s work
  close_by GoesOn work k = k
  close_by (InTrouble halt) work k = tt
  close_by (OwedSyncFailed cause) work k = tt
  close_by Asking work k = tt
  close_by (Skips cause) work k = k
  close_by (Ends ending) work k = k

answered_id : (course : Course) (answer : Answer) (job : Running) → (let x : Running = answered_on course answer job in x.id) ≡ job.id
answered_id (InTrouble halt) Retry job = refl
answered_id (InTrouble halt) Skip job = refl
answered_id (InTrouble halt) SkipAll job = refl
answered_id (InTrouble halt) Abort job = refl
answered_id (OwedSyncFailed cause) Retry job = refl
answered_id (OwedSyncFailed cause) Skip job = refl
answered_id (OwedSyncFailed cause) SkipAll job = refl
answered_id (OwedSyncFailed cause) Abort job = refl
answered_id (InTrouble halt) Yes job = refl
answered_id (InTrouble halt) No job = refl
answered_id (InTrouble halt) All job = refl
answered_id (InTrouble halt) Update job = refl
answered_id (InTrouble halt) Nothing job = refl
answered_id (InTrouble halt) SizeDiffers job = refl
answered_id (OwedSyncFailed cause) Yes job = refl
answered_id (OwedSyncFailed cause) No job = refl
answered_id (OwedSyncFailed cause) All job = refl
answered_id (OwedSyncFailed cause) Update job = refl
answered_id (OwedSyncFailed cause) Nothing job = refl
answered_id (OwedSyncFailed cause) SizeDiffers job = refl
answered_id Asking Yes job = refl
answered_id Asking No job = refl
answered_id Asking All job = refl
answered_id Asking Update job = refl
answered_id Asking Nothing job = refl
answered_id Asking SizeDiffers job = refl
answered_id Asking Retry job = refl
answered_id Asking Skip job = refl
answered_id Asking SkipAll job = refl
answered_id Asking Abort job = refl
answered_id GoesOn answer job = refl
answered_id (Skips cause) answer job = refl
answered_id (Ends ending) answer job = refl

pub ordered_id : (id : ℕ) (order : JobOrder) (job : Running) → (let x : Running = ordered_job id order job in x.id) ≡ job.id
ordered_id id (Answered answer) job = by (job.id == id)
  where
    by : (b : Bool) → (let x : Running = if b then answered_job answer job else job in x.id) ≡ job.id
    by true = answered_id job.course answer job
    by false = refl

module _ (passed : ℕ → List Route) (begun : ℕ → View) (v : View) (s : FileSystem) where
  order_done : (id : ℕ) (order : JobOrder) (job : Running) → JobDone (passed job.id) (begun job.id) v s job → JobDone (passed job.id) (begun job.id) v s (ordered_job id order job)
  order_done id (Answered answer) job k = order_by (passed job.id) (begun job.id) v s (job.id == id) answer job k

  pub orders_done : (id : ℕ) (order : JobOrder) (jobs : List Running) → JobsDone passed begun v s jobs → JobsDone passed begun v s (map (ordered_job id order) jobs)
  orders_done id order [] k = tt
  orders_done id order (job ∷ jobs) k = subst (λ n. JobDone (passed n) (begun n) v s (ordered_job id order job)) (sym (ordered_id id order job)) (order_done id order job k)

  pub closed_done : (jobs : List Running) → JobsDone passed begun v s jobs → JobsDone passed begun v s (map closed_job jobs)
  closed_done [] k = tt
  closed_done (job ∷ jobs) k = close_by (passed job.id) (begun job.id) v s job.course job.work k

-- a job that begins
pub some_if : (P : Work → Type 0) (b : Bool) (x w : Work) → P x → (if b then Some x else None) ≡ Some w → P w
some_if P true x w k is = subst P (let e : x ≡ w = cc in e) k
some_if P false x w k is = absurd (let f : ⊥ = cc in f)

pub some_and : (P : Work → Type 0) (a b : Bool) (x w : Work) → (a ≡ true → b ≡ true → P x) → (if a && b then Some x else None) ≡ Some w → P w
some_and P true true x w k is = subst P (let e : x ≡ w = cc in e) (k refl refl)
some_and P true false x w k is = absurd (let f : ⊥ = cc in f)
some_and P false b x w k is = absurd (let f : ⊥ = cc in f)

module _ (v : View) (s : FileSystem) where
  first_done : (id : ℕ) (job : Job) (w : Work) → first_work id job ≡ Some w → WorkDone [] v v s w
  first_done id (plan.Delete []) w is = absurd (let f : ⊥ = cc in f)
  first_done id (plan.Delete (path ∷ [])) w is = some_if (WorkDone [] v v s) (is_some (parent_of path)) (works.deletes path) w refl is
  first_done id (plan.Delete (path ∷ more ∷ paths)) w is = absurd (let f : ⊥ = cc in f)
  first_done id (plan.Copy []) w is = absurd (let f : ⊥ = cc in f)
  first_done id (plan.Copy (pair ∷ [])) w is = some_and (WorkDone [] v v s) (is_some (parent_of pair.source)) (is_some (parent_of pair.target)) (works.copies id pair) w (λ from to. tree_begins id pair v from to) is
  first_done id (plan.Copy (pair ∷ more ∷ pairs)) w is = absurd (let f : ⊥ = cc in f)
  first_done id (plan.Move []) w is = absurd (let f : ⊥ = cc in f)
  first_done id (plan.Move (pair ∷ [])) w is =
      some_if (WorkDone [] v v s) ((is_some (parent_of pair.source) && is_some (parent_of pair.target)) && not (same_path pair.source pair.target)) (works.moves pair) w (moving_begins pair v) is
  first_done id (plan.Move (pair ∷ more ∷ pairs)) w is = absurd (let f : ⊥ = cc in f)
  first_done id (plan.MakeFolder path) w is = some_if (WorkDone [] v v s) (is_some (parent_of path)) (works.makes thing.Folder path) w tt is
  first_done id (plan.MakeLink path text) w is = some_if (WorkDone [] v v s) (is_some (parent_of path) && is_link_text text) (works.makes (thing.Link text) path) w tt is
  first_done id (plan.SetMode [] mode) w is = absurd (let f : ⊥ = cc in f)
  first_done id (plan.SetMode (path ∷ []) mode) w is = some_if (WorkDone [] v v s) (is_some (parent_of path) && nat_le mode 0o7777) (works.sets path mode) w tt is
  first_done id (plan.SetMode (path ∷ more ∷ paths) mode) w is = absurd (let f : ⊥ = cc in f)
  first_done id (plan.RemoveEmptied path) w is = some_if (WorkDone [] v v s) (is_some (parent_of path)) (works.removes_emptied path) w (removal_begins path v) is

  pub begun_done : (id : ℕ) (sources : List Job) (w : Work) → begun_work id sources ≡ Some w → WorkDone [] v v s w
  begun_done id [] w is = absurd (let f : ⊥ = cc in f)
  begun_done id (source ∷ more) w is = first_done id source w is

  -- and one that goes on with its next source
  pub turned_done : (plan : Job) (job next : Running) → Turned plan job next → WorkDone [] v v s next.work
  turned_done plan job next turn =
      subst (λ (x : Running). WorkDone [] v v s x.work) (sym turn.next_is) (first_done job.id plan turn.work turn.first)
