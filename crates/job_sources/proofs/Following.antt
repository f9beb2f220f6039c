-- Each source that a step of a job leaves can be worked: a folder that it merges by moves is no root, nor the one at its target.
use Rattle.std.proofs.Common.{◌≡◌, ℕ, inl, inr, List, Option}
use Rattle.mc_text.specs.Routes.{Route}
use Rattle.tree_trait.specs.Change.{CallLog}
use Rattle.job_answers.specs.declared.replies.Replies.{Replies}
use Rattle.job_reports.specs.declared.report.Transfer.TheVariants.{ByCopy, ByMove}
use Rattle.job_reports.specs.declared.job.Pair.{Pair}
use Rattle.job_reports.specs.declared.report.Did.{Did}
use Rattle.job_reports.specs.declared.report.Did.TheVariants.{Barrier, Merges, Skipped, Troubled}
use Rattle.copy_move.specs.declared.run.Course.{Course}
use Rattle.copy_move.specs.declared.run.Course.TheVariants.{GoesOn, Asking, InTrouble, OwedSyncFailed, Skips, Ends}
use Rattle.copy_move.specs.declared.work.Work.{Work}
use Rattle.copy_move.specs.declared.work.Work.TheVariants.{Copy, Delete, Make, Move, SetMode, RemoveEmptied}
use Rattle.copy_move.specs.Jobs.{Running, TellsOn, WorkTells}
use Rattle.copy_move.specs.JobStepReports.{RunStep, SyncsOwed, step_made}
use Rattle.copy_move.proofs.Merging.{none_wound}
use Rattle.job_sources.specs.Turning.{MayFollow, MayLeave}

-- a move that is merged with the folder at its target; nothing else merges so
work_follows : (replies : Replies) (old new : Work) (pair : Pair) (names : List (List ℕ)) → WorkTells replies old (Merges ByMove pair names) new → MayLeave ByMove pair
work_follows replies (Copy c) (Copy new) pair names t = absurd t.may
work_follows replies (Move m) (Move new) pair names t = (let merge = t.1 in (merge.held, merge.apart))
work_follows replies (Delete d) (Delete new) pair names t = absurd t
work_follows replies (Make m) (Make new) pair names t = absurd t
work_follows replies (SetMode s) (SetMode new) pair names t = absurd t
work_follows replies (RemoveEmptied r) (RemoveEmptied new) pair names t = absurd t
work_follows replies old new pair names t = absurd t

module _ (unclaimed : Route → Type 0) (job new : Running) (calls : ℕ) (dirty dirty_after : List Route) (before after : Option CallLog) (f0 f1 : ℕ) where
  course_follows : (course : Course) (pair : Pair) (names : List (List ℕ)) → TellsOn course job (Merges ByMove pair names) new → MayLeave ByMove pair
  course_follows GoesOn pair names (work, tells, new_is) = work_follows job.replies job.work work pair names tells
  course_follows (InTrouble halt) pair names tells = absurd tells
  course_follows (OwedSyncFailed cause) pair names tells = absurd tells
  course_follows Asking pair names tells = absurd tells
  course_follows (Skips cause) pair names (inl (path, work, did_is, passes, new_is)) = absurd (let e : Merges ByMove pair names ≡ Skipped path cause = did_is in let f : ⊥ = cc in f)
  course_follows (Skips cause) pair names (inr (apart, did_is, new_is)) = absurd (let e = did_is in let f : ⊥ = cc in f)
  course_follows (Ends ending) pair names (work, winds, new_is) = absurd (none_wound ByMove pair names ending job.work work winds)

  owed_follows : (path : Route) (pair : Pair) (names : List (List ℕ)) → SyncsOwed job path (Merges ByMove pair names) new dirty dirty_after before after → MayLeave ByMove pair
  owed_follows path pair names (inl h) = absurd (let e : Merges ByMove pair names ≡ Barrier = h.did_is in let f : ⊥ = cc in f)
  owed_follows path pair names (inr h) = absurd (let e : Merges ByMove pair names ≡ Troubled h.trouble = h.did_is in let f : ⊥ = cc in f)

  moves_follow : (pair : Pair) (names : List (List ℕ)) → RunStep unclaimed (step_made job new (Merges ByMove pair names) calls dirty dirty_after before after f0 f1) → MayLeave ByMove pair
  moves_follow pair names (inl o) = (let s = o.own in course_follows job.course pair names s.tells)
  moves_follow pair names (inr s) = owed_follows s.path pair names s.synced

  pub step_follows : (did : Did) → RunStep unclaimed (step_made job new did calls dirty dirty_after before after f0 f1) → MayFollow did
  step_follows (Merges ByCopy pair names) steps = tt
  step_follows (Merges ByMove pair names) steps = moves_follow pair names steps
  step_follows did steps = tt
