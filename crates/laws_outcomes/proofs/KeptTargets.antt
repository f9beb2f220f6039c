-- What a job has spared for the source at which it is, and how each step, skip, answer and next source keeps that.
use Rattle.std.proofs.Common.{◌≡◌, ℕ, Bool, true, false, not, List, [], ◌∷◌, refl, sym, ◌∙◌, ap, subst, inl, inr, Option, Some}
use Rattle.std.specs.Prelude.{⊤, ◌&&◌, is_some, nat_le, if◌then◌else◌, map, ◌==◌}
use Rattle.mc_text.specs.Routes.{Route, parent_of, same_path}
use Rattle.tree_trait.specs.Change.{CallLog}
use Rattle.tree_trait.specs.FileSystem.{View}
use Rattle.job_reports.specs.Jobs.{is_link_text}
use Rattle.job_reports.specs.declared.answer.Answer.{Answer}
use Rattle.job_reports.specs.declared.answer.Answer.TheVariants.{Yes, No, All, Update, Nothing, SizeDiffers, Retry, Skip, SkipAll, Abort}
use Rattle.job_reports.specs.declared.job.Job.{Job}
use Rattle.job_reports.specs.declared.job.Job.TheVariants as plan
use Rattle.job_reports.specs.declared.report.Cause.{Cause}
use Rattle.job_reports.specs.declared.report.Did.{Did}
use Rattle.job_reports.specs.declared.report.Did.TheVariants.{Began, Chunk, Placed, Removed, Made, Set, Kept, Skipped, Cleaned, Barrier, Asked, Merges, Moved, Troubled, Ended}
use Rattle.session_entries.specs.declared.history.JobOrder.{JobOrder}
use Rattle.session_entries.specs.declared.history.JobOrder.TheVariants.{Answered}
use Rattle.job_answers.specs.declared.replies.Replies.{Replies}
use Rattle.make_job.specs.declared.new_thing.NewThing.TheVariants as thing
use Rattle.copy_move.specs.declared.run.Course.{Course}
use Rattle.copy_move.specs.declared.run.Course.TheVariants.{GoesOn, Asking, InTrouble, OwedSyncFailed, Skips, Ends}
use Rattle.copy_move.specs.declared.work.Work.{Work}
use Rattle.copy_move.specs.declared.work.Work.TheVariants.{Copy, Delete, Make, Move, SetMode, RemoveEmptied}
use Rattle.copy_move.specs.Jobs.{PassesOver, Running, TellsOn, WorkTells, answered_on, answered_job, begun_work, closed_job, first_work}
use Rattle.copy_move.specs.Jobs as works
use Rattle.copy_move.specs.JobStepReports.{SkipWalks, Walks}
use Rattle.laws_sessions.specs.Replayed.{replayed_step}
use Rattle.laws_sessions.specs.Traces.{IsUnclaimed, before_others, ordered_job, unless_ended}
use Rattle.laws_sessions.proofs.Sources.{item_in}
use Rattle.laws_sessions.proofs.Turns.{Turned}
use Rattle.laws_outcomes.specs.Keeps.{keeps_by}
use Rattle.laws_outcomes.proofs.Doing.{ordered_id, some_and, some_if}
use Rattle.laws_outcomes.proofs.KeptTrees.{TreeSpares, tree_begins, tree_passes, tree_retries, tree_spares}
use Rattle.laws_outcomes.proofs.MadeThings.{Unless, unless_of}
use Rattle.laws_outcomes.proofs.Touching.{UnlessEnding, close_by}

-- a copy has (`KeptTrees`), and no other job keeps anything
abbrev pub Spares : View → View → Bool → Work → Type 0
Spares v was kept (Copy c) = TreeSpares v was kept c
Spares v was kept (Delete d) = ⊤
Spares v was kept (Make m) = ⊤
Spares v was kept (Move m) = ⊤
Spares v was kept (SetMode s) = ⊤
Spares v was kept (RemoveEmptied r) = ⊤

module _ (now : CallLog) (v was : View) (kept : Bool) where
  work_spares : (replies : Replies) (old new : Work) (did : Did) (calls faults faults_after : ℕ) (dirty dirty_after : List Route) (before after : Option CallLog) → WorkTells replies old did new
      → Walks IsUnclaimed replies old new did calls dirty dirty_after before after faults faults_after → Spares v was kept old
      → Unless did (Spares (replayed_step now did (Some (item_in old)) v) was (keeps_by did kept) new)
  work_spares replies (Copy c) (Copy new) did calls faults faults_after dirty dirty_after before after t walks s =
      tree_spares now (Some (item_in (Copy c))) v was kept c new did walks.free replies calls dirty dirty_after before after walks.since faults_after walks.steps s
  work_spares replies (Delete d) (Delete new) did calls faults faults_after dirty dirty_after before after t walks s = unless_of did ⊤ tt
  work_spares replies (Make m) (Make new) did calls faults faults_after dirty dirty_after before after t walks s = unless_of did ⊤ tt
  work_spares replies (Move m) (Move new) did calls faults faults_after dirty dirty_after before after t walks s = unless_of did ⊤ tt
  work_spares replies (SetMode w) (SetMode new) did calls faults faults_after dirty dirty_after before after t walks s = unless_of did ⊤ tt
  work_spares replies (Copy c) (Delete new) did calls faults faults_after dirty dirty_after before after t walks s = absurd t
  work_spares replies (Copy c) (Make new) did calls faults faults_after dirty dirty_after before after t walks s = absurd t
  work_spares replies (Copy c) (Move new) did calls faults faults_after dirty dirty_after before after t walks s = absurd t
  work_spares replies (Copy c) (SetMode new) did calls faults faults_after dirty dirty_after before after t walks s = absurd t
  work_spares replies (Delete d) (Copy new) did calls faults faults_after dirty dirty_after before after t walks s = absurd t
  work_spares replies (Delete d) (Make new) did calls faults faults_after dirty dirty_after before after t walks s = absurd t
  work_spares replies (Delete d) (Move new) did calls faults faults_after dirty dirty_after before after t walks s = absurd t
  work_spares replies (Delete d) (SetMode new) did calls faults faults_after dirty dirty_after before after t walks s = absurd t
  work_spares replies (Make m) (Copy new) did calls faults faults_after dirty dirty_after before after t walks s = absurd t
  work_spares replies (Move m) (Copy new) did calls faults faults_after dirty dirty_after before after t walks s = absurd t
  work_spares replies (Make m) (Delete new) did calls faults faults_after dirty dirty_after before after t walks s = absurd t
  work_spares replies (Move m) (Delete new) did calls faults faults_after dirty dirty_after before after t walks s = absurd t
  work_spares replies (Make m) (SetMode new) did calls faults faults_after dirty dirty_after before after t walks s = absurd t
  work_spares replies (Make m) (Move new) did calls faults faults_after dirty dirty_after before after t walks s = absurd t
  work_spares replies (Move m) (SetMode new) did calls faults faults_after dirty dirty_after before after t walks s = absurd t
  work_spares replies (SetMode w) (Copy new) did calls faults faults_after dirty dirty_after before after t walks s = absurd t
  work_spares replies (SetMode w) (Delete new) did calls faults faults_after dirty dirty_after before after t walks s = absurd t
  work_spares replies (SetMode w) (Make new) did calls faults faults_after dirty dirty_after before after t walks s = absurd t
  work_spares replies (Move w) (Make new) did calls faults faults_after dirty dirty_after before after t walks s = absurd t
  work_spares replies (SetMode w) (Move new) did calls faults faults_after dirty dirty_after before after t walks s = absurd t
  work_spares replies (RemoveEmptied r) (RemoveEmptied new) did calls faults faults_after dirty dirty_after before after t walks s = unless_of did ⊤ tt
  work_spares replies (RemoveEmptied r) (Copy new) did calls faults faults_after dirty dirty_after before after t walks s = absurd t
  work_spares replies (RemoveEmptied r) (Delete new) did calls faults faults_after dirty dirty_after before after t walks s = absurd t
  work_spares replies (RemoveEmptied r) (SetMode new) did calls faults faults_after dirty dirty_after before after t walks s = absurd t
  work_spares replies (RemoveEmptied r) (Move new) did calls faults faults_after dirty dirty_after before after t walks s = absurd t
  work_spares replies (Copy c) (RemoveEmptied new) did calls faults faults_after dirty dirty_after before after t walks s = absurd t
  work_spares replies (Delete d) (RemoveEmptied new) did calls faults faults_after dirty dirty_after before after t walks s = absurd t
  work_spares replies (SetMode w) (RemoveEmptied new) did calls faults faults_after dirty dirty_after before after t walks s = absurd t
  work_spares replies (Move w) (RemoveEmptied new) did calls faults faults_after dirty dirty_after before after t walks s = absurd t
  work_spares replies (RemoveEmptied r) (Make new) did calls faults faults_after dirty dirty_after before after t walks s = absurd t
  work_spares replies (Make m) (RemoveEmptied new) did calls faults faults_after dirty dirty_after before after t walks s = absurd t

  passes_spares : (old new : Work) (cause : Cause) (did : Did) (path : Route) → PassesOver old path new → SkipWalks cause old did new → Spares v was kept old → Spares v was kept new
  passes_spares (Copy c) (Copy new) cause did path p k s = tree_passes v was kept c new cause did k s
  passes_spares (Delete d) (Delete new) cause did path p k s = tt
  passes_spares (Make m) (Make new) cause did path p k s = tt
  passes_spares (Move m) (Move new) cause did path p k s = tt
  passes_spares (SetMode w) (SetMode new) cause did path p k s = tt
  passes_spares (Copy c) (Delete new) cause did path p k s = absurd p
  passes_spares (Copy c) (Make new) cause did path p k s = absurd p
  passes_spares (Copy c) (Move new) cause did path p k s = absurd p
  passes_spares (Copy c) (SetMode new) cause did path p k s = absurd p
  passes_spares (Delete d) (Copy new) cause did path p k s = absurd p
  passes_spares (Delete d) (Make new) cause did path p k s = absurd p
  passes_spares (Delete d) (Move new) cause did path p k s = absurd p
  passes_spares (Delete d) (SetMode new) cause did path p k s = absurd p
  passes_spares (Make m) (Copy new) cause did path p k s = absurd p
  passes_spares (Move m) (Copy new) cause did path p k s = absurd p
  passes_spares (Make m) (Delete new) cause did path p k s = absurd p
  passes_spares (Move m) (Delete new) cause did path p k s = absurd p
  passes_spares (Make m) (SetMode new) cause did path p k s = absurd p
  passes_spares (Make m) (Move new) cause did path p k s = absurd p
  passes_spares (Move m) (SetMode new) cause did path p k s = absurd p
  passes_spares (SetMode w) (Copy new) cause did path p k s = absurd p
  passes_spares (SetMode w) (Delete new) cause did path p k s = absurd p
  passes_spares (SetMode w) (Make new) cause did path p k s = absurd p
  passes_spares (Move w) (Make new) cause did path p k s = absurd p
  passes_spares (SetMode w) (Move new) cause did path p k s = absurd p
  passes_spares (RemoveEmptied r) (RemoveEmptied new) cause did path p k s = tt
  passes_spares (RemoveEmptied r) (Copy new) cause did path p k s = absurd p
  passes_spares (RemoveEmptied r) (Delete new) cause did path p k s = absurd p
  passes_spares (RemoveEmptied r) (SetMode new) cause did path p k s = absurd p
  passes_spares (RemoveEmptied r) (Move new) cause did path p k s = absurd p
  passes_spares (Copy c) (RemoveEmptied new) cause did path p k s = absurd p
  passes_spares (Delete d) (RemoveEmptied new) cause did path p k s = absurd p
  passes_spares (SetMode w) (RemoveEmptied new) cause did path p k s = absurd p
  passes_spares (Move w) (RemoveEmptied new) cause did path p k s = absurd p
  passes_spares (RemoveEmptied r) (Make new) cause did path p k s = absurd p
  passes_spares (Make m) (RemoveEmptied new) cause did path p k s = absurd p

  -- a step, by the course
  pub course_spares : (job new : Running) (did : Did) (course : Course) → job.course ≡ course → TellsOn course job did new → ((cause : Cause) → course ≡ Skips cause → SkipWalks cause job.work did new.work)
      → (calls faults faults_after : ℕ) (dirty dirty_after : List Route) (before after : Option CallLog) → (course ≡ GoesOn → Walks IsUnclaimed job.replies job.work new.work did calls dirty dirty_after before after faults faults_after) → UnlessEnding course (Spares v was kept job.work)
      → Unless did (UnlessEnding new.course (Spares (replayed_step now did (Some (item_in job.work)) v) was (keeps_by did kept) new.work))
  course_spares job new did GoesOn is (work, t, new_is) walks calls faults faults_after dirty dirty_after before after goes s =
      subst (λ (x : Running). Unless did (UnlessEnding x.course (Spares (replayed_step now did (Some (item_in job.work)) v) was (keeps_by did kept) x.work))) (sym new_is)
      (ending_by did (work_spares job.replies job.work work did calls faults faults_after dirty dirty_after before after t
      (subst (λ (x : Running). Walks IsUnclaimed job.replies job.work x.work did calls dirty dirty_after before after faults faults_after) new_is (goes refl)) s))
    where
      ending_by : (d : Did) → Unless d (Spares (replayed_step now d (Some (item_in job.work)) v) was (keeps_by d kept) work)
          → Unless d (UnlessEnding (works.course_after d) (Spares (replayed_step now d (Some (item_in job.work)) v) was (keeps_by d kept) work))
      ending_by (Began part) h = h
      ending_by (Chunk count) h = h
      ending_by (Placed path) h = h
      ending_by (Removed path) h = h
      ending_by (Made made) h = h
      ending_by (Set path) h = h
      ending_by (Kept path) h = h
      ending_by (Skipped path cause) h = h
      ending_by (Cleaned part) h = h
      ending_by Barrier h = h
      ending_by (Asked question) h = h
      ending_by (Merges transfer pair names) h = h
      ending_by (Moved pair) h = h
      ending_by (Troubled trouble) h = h
      ending_by (Ended ending part) h = h
  course_spares job new did (InTrouble halt) is t walks calls faults faults_after dirty dirty_after before after goes s = absurd t
  course_spares job new did (OwedSyncFailed cause) is t walks calls faults faults_after dirty dirty_after before after goes s = absurd t
  course_spares job new did Asking is t walks calls faults faults_after dirty dirty_after before after goes s = absurd t
  course_spares job new did (Skips cause) is (inl (path, work, did_is, passes, new_is)) walks calls faults faults_after dirty dirty_after before after goes s =
      subst (λ (d : Did). Unless d (UnlessEnding new.course (Spares (replayed_step now d (Some (item_in job.work)) v) was (keeps_by d kept) new.work))) (sym did_is)
      (subst (λ (x : Running). UnlessEnding x.course (Spares v was kept x.work)) (sym new_is) (passes_spares job.work work cause did path passes (subst (λ (x : Running). SkipWalks cause job.work did x.work) new_is (walks cause refl)) s))
  course_spares job new did (Skips cause) is (inr (off, did_is, new_is)) walks calls faults faults_after dirty dirty_after before after goes s =
      subst (λ (d : Did). Unless d (UnlessEnding new.course (Spares (replayed_step now d (Some (item_in job.work)) v) was (keeps_by d kept) new.work))) (sym did_is)
      (subst (λ (x : Running). UnlessEnding x.course (Spares v was kept x.work)) (sym new_is) s)
  course_spares job new did (Ends ending) is (work, winds, new_is) walks calls faults faults_after dirty dirty_after before after goes s =
      subst (λ c. Unless did (UnlessEnding c (Spares (replayed_step now did (Some (item_in job.work)) v) was (keeps_by did kept) new.work))) (sym (ap (λ (x : Running). x.course) new_is ∙ is)) (unless_of did ⊤ tt)

-- the live jobs
abbrev pub JobSpares : View → (ℕ → View) → (ℕ → Bool) → Running → Type 0
JobSpares v was kept job = UnlessEnding job.course (Spares v (was job.id) (kept job.id) job.work)

abbrev pub JobsSpare : View → (ℕ → View) → (ℕ → Bool) → List Running → Type 0
JobsSpare v was kept [] = ⊤
JobsSpare v was kept (job ∷ jobs) = JobSpares v was kept job

pub spares_after : (did : Did) (v : View) (was : ℕ → View) (kept : ℕ → Bool) (new : Running) → Unless did (JobSpares v was kept new) → JobsSpare v was kept (before_others (unless_ended did new) [])
spares_after (Ended ending part) v was kept new h = tt
spares_after (Began part) v was kept new h = h
spares_after (Chunk count) v was kept new h = h
spares_after (Placed path) v was kept new h = h
spares_after (Removed path) v was kept new h = h
spares_after (Made made) v was kept new h = h
spares_after (Set path) v was kept new h = h
spares_after (Kept path) v was kept new h = h
spares_after (Skipped path cause) v was kept new h = h
spares_after (Cleaned part) v was kept new h = h
spares_after Barrier v was kept new h = h
spares_after (Asked question) v was kept new h = h
spares_after (Merges transfer pair names) v was kept new h = h
spares_after (Moved pair) v was kept new h = h
spares_after (Troubled trouble) v was kept new h = h

-- an answer, and the close of a session
module _ (v was : View) (kept : Bool) where
  anew_spares : (work : Work) → Spares v was kept work → Spares v was kept (works.taken_anew work)
  anew_spares (Copy c) s = tree_retries v was kept c s
  anew_spares (Delete d) s = s
  anew_spares (Make m) s = s
  anew_spares (Move m) s = s
  anew_spares (SetMode w) s = s
  anew_spares (RemoveEmptied r) s = s

  abbrev Held : Running → Type 0
  Held job = UnlessEnding job.course (Spares v was kept job.work)

  answer_spares : (course : Course) (answer : Answer) (job : Running) → job.course ≡ course → Held job → Held (answered_on course answer job)
  answer_spares (InTrouble halt) Retry job is k = anew_spares job.work (subst (λ c. UnlessEnding c (Spares v was kept job.work)) is k)
  answer_spares (InTrouble halt) Skip job is k = subst (λ c. UnlessEnding c (Spares v was kept job.work)) is k
  answer_spares (InTrouble halt) SkipAll job is k = subst (λ c. UnlessEnding c (Spares v was kept job.work)) is k
  answer_spares (InTrouble halt) Abort job is k = tt
  answer_spares (InTrouble halt) Yes job is k = k
  answer_spares (InTrouble halt) No job is k = k
  answer_spares (InTrouble halt) All job is k = k
  answer_spares (InTrouble halt) Update job is k = k
  answer_spares (InTrouble halt) Nothing job is k = k
  answer_spares (InTrouble halt) SizeDiffers job is k = k
  answer_spares (OwedSyncFailed cause) Retry job is k = anew_spares job.work (subst (λ c. UnlessEnding c (Spares v was kept job.work)) is k)
  answer_spares (OwedSyncFailed cause) Skip job is k = k
  answer_spares (OwedSyncFailed cause) SkipAll job is k = k
  answer_spares (OwedSyncFailed cause) Abort job is k = tt
  answer_spares (OwedSyncFailed cause) Yes job is k = k
  answer_spares (OwedSyncFailed cause) No job is k = k
  answer_spares (OwedSyncFailed cause) All job is k = k
  answer_spares (OwedSyncFailed cause) Update job is k = k
  answer_spares (OwedSyncFailed cause) Nothing job is k = k
  answer_spares (OwedSyncFailed cause) SizeDiffers job is k = k
  answer_spares Asking Yes job is k = subst (λ c. UnlessEnding c (Spares v was kept job.work)) is k
  answer_spares Asking No job is k = subst (λ c. UnlessEnding c (Spares v was kept job.work)) is k
  answer_spares Asking All job is k = subst (λ c. UnlessEnding c (Spares v was kept job.work)) is k
  answer_spares Asking Update job is k = subst (λ c. UnlessEnding c (Spares v was kept job.work)) is k
  answer_spares Asking Nothing job is k = subst (λ c. UnlessEnding c (Spares v was kept job.work)) is k
  answer_spares Asking SizeDiffers job is k = subst (λ c. UnlessEnding c (Spares v was kept job.work)) is k
  answer_spares Asking Retry job is k = k
  answer_spares Asking Skip job is k = k
  answer_spares Asking SkipAll job is k = k
  answer_spares Asking Abort job is k = tt
  answer_spares GoesOn answer job is k = k
  answer_spares (Skips cause) answer job is k = k
  answer_spares (Ends ending) answer job is k = k

  order_by : (b : Bool) (answer : Answer) (job : Running) → Held job → Held (if b then answered_job answer job else job)
  order_by true answer job k = answer_spares job.course answer job refl k
  order_by false answer job k = k

module _ (v : View) (was : ℕ → View) (kept : ℕ → Bool) where
  order_spares : (id : ℕ) (order : JobOrder) (job : Running) → JobSpares v was kept job → UnlessEnding (let x : Running = ordered_job id order job in x.course) (let x : Running = ordered_job id order job in Spares v (was job.id) (kept job.id) x.work)
  order_spares id (Answered answer) job k = order_by v (was job.id) (kept job.id) (job.id == id) answer job k

  pub orders_spare : (id : ℕ) (order : JobOrder) (jobs : List Running) → JobsSpare v was kept jobs → JobsSpare v was kept (map (ordered_job id order) jobs)
  orders_spare id order [] k = tt
  orders_spare id order (job ∷ jobs) k =
      subst (λ n. UnlessEnding (let x : Running = ordered_job id order job in x.course) (let x : Running = ordered_job id order job in Spares v (was n) (kept n) x.work)) (sym (ordered_id id order job)) (order_spares id order job k)

  pub closed_spare : (jobs : List Running) → JobsSpare v was kept jobs → JobsSpare v was kept (map closed_job jobs)
  closed_spare [] k = tt
  closed_spare (job ∷ jobs) k = close_by v was job.course (Spares v (was job.id) (kept job.id) job.work) k

-- A job that begins with a source has kept nothing of it, and all is as it is.
module _ (v : View) where
  first_spares : (id : ℕ) (job : Job) (w : Work) → first_work id job ≡ Some w → Spares v v false w
  first_spares id (plan.Delete []) w is = absurd (let f : ⊥ = cc in f)
  first_spares id (plan.Delete (path ∷ [])) w is = some_if (Spares v v false) (is_some (parent_of path)) (works.deletes path) w tt is
  first_spares id (plan.Delete (path ∷ more ∷ paths)) w is = absurd (let f : ⊥ = cc in f)
  first_spares id (plan.Copy []) w is = absurd (let f : ⊥ = cc in f)
  first_spares id (plan.Copy (pair ∷ [])) w is = some_and (Spares v v false) (is_some (parent_of pair.source)) (is_some (parent_of pair.target)) (works.copies id pair) w (λ from to. tree_begins id pair v from to) is
  first_spares id (plan.Copy (pair ∷ more ∷ pairs)) w is = absurd (let f : ⊥ = cc in f)
  first_spares id (plan.Move []) w is = absurd (let f : ⊥ = cc in f)
  first_spares id (plan.Move (pair ∷ [])) w is =
      some_if (Spares v v false) ((is_some (parent_of pair.source) && is_some (parent_of pair.target)) && not (same_path pair.source pair.target)) (works.moves pair) w tt is
  first_spares id (plan.Move (pair ∷ more ∷ pairs)) w is = absurd (let f : ⊥ = cc in f)
  first_spares id (plan.MakeFolder path) w is = some_if (Spares v v false) (is_some (parent_of path)) (works.makes thing.Folder path) w tt is
  first_spares id (plan.MakeLink path text) w is = some_if (Spares v v false) (is_some (parent_of path) && is_link_text text) (works.makes (thing.Link text) path) w tt is
  first_spares id (plan.SetMode [] mode) w is = absurd (let f : ⊥ = cc in f)
  first_spares id (plan.SetMode (path ∷ []) mode) w is = some_if (Spares v v false) (is_some (parent_of path) && nat_le mode 0o7777) (works.sets path mode) w tt is
  first_spares id (plan.SetMode (path ∷ more ∷ paths) mode) w is = absurd (let f : ⊥ = cc in f)
  first_spares id (plan.RemoveEmptied path) w is = some_if (Spares v v false) (is_some (parent_of path)) (works.removes_emptied path) w tt is

  pub begun_spares : (id : ℕ) (sources : List Job) (w : Work) → begun_work id sources ≡ Some w → Spares v v false w
  begun_spares id [] w is = absurd (let f : ⊥ = cc in f)
  begun_spares id (source ∷ more) w is = first_spares id source w is

  pub turned_spares : (plan : Job) (job next : Running) → Turned plan job next → Spares v v false next.work
  turned_spares plan job next turn =
      subst (λ (x : Running). Spares v v false x.work) (sym turn.next_is) (first_spares job.id plan turn.work turn.first)
