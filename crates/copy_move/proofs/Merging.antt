-- What the step that merges leaves: it makes no call, no folder gets dirty or clean by it, and the job's number, its part and what was answered stay. And which folders are merged: by a
-- copy or a move, those of its own.
use Rattle.std.proofs.Common.{◌≡◌, ℕ, refl, sym, ◌∙◌, ap, subst, inl, inr, List, Option, Some, None}
use Rattle.mc_text.specs.Routes.{Route}
use Rattle.tree_trait.specs.Change.{CallLog}
use Rattle.tree_trait.specs.Answers.{IfKnown}
use Rattle.job_answers.specs.declared.replies.Replies.{Replies}
use Rattle.job_reports.specs.declared.report.Transfer.{Transfer}
use Rattle.job_reports.specs.declared.report.Transfer.TheVariants.{ByCopy, ByMove}
use Rattle.job_reports.specs.declared.job.Pair.{Pair}
use Rattle.job_reports.specs.declared.report.Did.TheVariants.{Barrier, Merges, Skipped, Troubled}
use Rattle.job_reports.specs.declared.report.Ending.{Ending}
use Rattle.copy_job.specs.Merged.{MergesTop}
use Rattle.copy_job.specs.Standing.{SubtreeCopying}
use Rattle.move_job.specs.declared.moving.MovingStage.TheVariants.{PassedOver, Take}
use Rattle.move_job.specs.Movings.{MayMerge, Moving, with_moves}
use Rattle.copy_job.proofs.MergeStill.{merge_is_still}
use Rattle.copy_move.specs.declared.run.Course.{Course}
use Rattle.copy_move.specs.declared.run.Course.TheVariants.{GoesOn, Asking, InTrouble, OwedSyncFailed, Skips, Ends}
use Rattle.copy_move.specs.declared.work.Work.{Work}
use Rattle.copy_move.specs.declared.work.Work.TheVariants.{Copy, Delete, Make, Move, SetMode, RemoveEmptied}
use Rattle.copy_move.specs.Jobs.{CallsOn, Running, TellsOn, WorkCalls, WorkTells, WorkWinds, part_of}
use Rattle.copy_move.specs.Settling.{WorkLeaves}
use Rattle.copy_move.specs.JobStepReports.{LeavesDirty, RunStep, SyncsOwed, Walks, WalksOn, step_made}
use Rattle.copy_move.specs.TreeCopies as trees
use Rattle.copy_move.proofs.Finishing.{Finishes}

-- what the work keeps, with the list of dirty folders and the tree's log
record Keeps (old new : Work) (dirty dirty_after : List Route) (before after : Option CallLog) : Type 0 where
  pub stays : part_of new ≡ part_of old
  pub list : dirty_after ≡ dirty
  pub log : (log : CallLog) → before ≡ Some log → after ≡ Some log

-- no last step merges
pub none_wound : (transfer : Transfer) (pair : Pair) (names : List (List ℕ)) (ending : Ending) (old new : Work) → WorkWinds ending old (Merges transfer pair names) new → ⊥
none_wound transfer pair names ending (Copy c) (Copy new) w = w.may
none_wound transfer pair names ending (Delete d) (Delete new) w = w
none_wound transfer pair names ending (Make m) (Make new) w = w
none_wound transfer pair names ending (Move m) (Move new) w = w
none_wound transfer pair names ending (SetMode s) (SetMode new) w = w
none_wound transfer pair names ending (RemoveEmptied r) (RemoveEmptied new) w = w
none_wound transfer pair names ending old new w = w

-- what is merged, and by which work: a copy merges what it copies, a move what it moves
abbrev pub FitsMerge : Transfer → Pair → List (List ℕ) → Work → Work → Type 0
FitsMerge transfer pair names (Copy c) (Copy new) = (transfer ≡ ByCopy) × MergesTop c pair names new
FitsMerge transfer pair names (Move m) (Move new) = (m.stage ≡ Take) × MayMerge m.pair transfer pair names × (new ≡ record m { stage = PassedOver })
FitsMerge transfer pair names old new = ⊥

copy_fits : (transfer : Transfer) (pair : Pair) (names : List (List ℕ)) (replies : Replies) (c new : SubtreeCopying) → trees.Tells replies c (Merges transfer pair names) new → FitsMerge transfer pair names (Copy c) (Copy new)
copy_fits ByCopy pair names replies c new t = (refl, t.merged pair names refl)
copy_fits ByMove pair names replies c new t = absurd t.may

pub merge_fits : (transfer : Transfer) (pair : Pair) (names : List (List ℕ)) (replies : Replies) (old new : Work) → WorkTells replies old (Merges transfer pair names) new → FitsMerge transfer pair names old new
merge_fits transfer pair names replies (Copy c) (Copy new) t = copy_fits transfer pair names replies c new t
merge_fits transfer pair names replies (Delete d) (Delete new) t = t
merge_fits transfer pair names replies (Make m) (Make new) t = t
merge_fits transfer pair names replies (Move m) (Move new) t = t
merge_fits transfer pair names replies (SetMode s) (SetMode new) t = t
merge_fits transfer pair names replies (RemoveEmptied r) (RemoveEmptied new) t = t
merge_fits transfer pair names replies old new t = absurd t

-- a copy merges as one
copy_keeps : (unclaimed : Route → Type 0) (replies : Replies) (c new : SubtreeCopying) (pair : Pair) (names : List (List ℕ)) (calls : ℕ) (dirty dirty_after : List Route) (before after : Option CallLog) (f0 f1 : ℕ) (transfer : Transfer)
    → trees.Tells replies c (Merges transfer pair names) new → trees.Goes unclaimed replies c new (Merges transfer pair names) calls dirty dirty_after before after f0 f1 → Keeps (Copy c) (Copy new) dirty dirty_after before after
copy_keeps unclaimed replies c new pair names calls dirty dirty_after before after f0 f1 ByCopy t walks =
    let still = merge_is_still walks.free replies c new pair names calls dirty dirty_after before after walks.since f1 walks.steps in
    let a = t.after in
    record { stays = a.part; list = still.0; log = still.1 }
copy_keeps unclaimed replies c new pair names calls dirty dirty_after before after f0 f1 ByMove t walks = absurd t.may

module _ (unclaimed : Route → Type 0) (transfer : Transfer) (pair : Pair) (names : List (List ℕ)) (calls : ℕ) (dirty dirty_after : List Route) (before after : Option CallLog) (f0 f1 : ℕ) where
  -- A copy or a move merges.
  work_keeps : (replies : Replies) (old new : Work) → WorkTells replies old (Merges transfer pair names) new → Walks unclaimed replies old new (Merges transfer pair names) calls dirty dirty_after before after f0 f1
      → WorkLeaves old (Merges transfer pair names) new dirty dirty_after before after → IfKnown before (λ log. WorkCalls unclaimed replies old (Merges transfer pair names) new log after) → Keeps old new dirty dirty_after before after
  work_keeps replies (Copy c) (Copy new) t walks leaves called = copy_keeps unclaimed replies c new pair names calls dirty dirty_after before after f0 f1 transfer t walks
  work_keeps replies (Move m) (Move new) t walks leaves called = record {
    stays = refl;
    list = leaves ∙ (ap (λ s. with_moves s new.stage m.pair dirty) t.0 ∙ ap (λ (n : Moving). with_moves Take n.stage m.pair dirty) t.2);
    log = λ log is. (called log is).1;
  }
  work_keeps replies (Delete d) (Delete new) t walks leaves called = absurd t
  work_keeps replies (Make m) (Make new) t walks leaves called = absurd t
  work_keeps replies (SetMode s) (SetMode new) t walks leaves called = absurd t
  work_keeps replies (RemoveEmptied r) (RemoveEmptied new) t walks leaves called = absurd t
  work_keeps replies old new t walks leaves called = absurd t

  module _ (job new : Running) where
    owed : (path : Route) → SyncsOwed job path (Merges transfer pair names) new dirty dirty_after before after → Finishes job new None dirty dirty_after before after
    owed path (inl s) = absurd (let e : Merges transfer pair names ≡ Barrier = s.did_is in let f : ⊥ = cc in f)
    owed path (inr s) = absurd (let e : Merges transfer pair names ≡ Troubled s.trouble = s.did_is in let f : ⊥ = cc in f)

    by : (course : Course) → job.course ≡ course → TellsOn course job (Merges transfer pair names) new → WalksOn unclaimed job.replies course job.work new.work (Merges transfer pair names) calls dirty dirty_after before after f0 f1
        → LeavesDirty course job.work (Merges transfer pair names) new.work dirty dirty_after before after → IfKnown before (λ log. CallsOn unclaimed course job (Merges transfer pair names) new log after) → Finishes job new None dirty dirty_after before after
    by GoesOn is (work, tells, new_is) walks leaves called =
        let same : new.work ≡ work = ap (λ (r : Running). r.work) new_is in
        let keeps = work_keeps job.replies job.work new.work (subst (λ w. WorkTells job.replies job.work (Merges transfer pair names) w) (sym same) tells) walks leaves called in
        record {
          goes = is;
          none = refl;
          number = ap (λ (r : Running). r.id) new_is;
          replies = ap (λ (r : Running). r.replies) new_is;
          stays = keeps.stays;
          list = keeps.list;
          log = keeps.log;
        }
    by (InTrouble halt) is tells walks leaves called = absurd tells
    by (OwedSyncFailed cause) is tells walks leaves called = absurd tells
    by Asking is tells walks leaves called = absurd tells
    by (Skips cause) is (inl (path, work, did_is, passes, new_is)) walks leaves called = absurd (let e : Merges transfer pair names ≡ Skipped path cause = did_is in let f : ⊥ = cc in f)
    by (Skips cause) is (inr (apart, did_is, new_is)) walks leaves called = absurd (let e = did_is in let f : ⊥ = cc in f)
    by (Ends ending) is (work, winds, new_is) walks leaves called = absurd (none_wound transfer pair names ending job.work work winds)

    -- All that the next source needs of a job that merges stays as it was before the step.
    pub merge_stays : RunStep unclaimed (step_made job new (Merges transfer pair names) calls dirty dirty_after before after f0 f1) → Finishes job new None dirty dirty_after before after
    merge_stays (inl o) = (let s = o.own in by job.course refl s.tells o.walks o.leaves s.called)
    merge_stays (inr s) = owed s.path s.synced
