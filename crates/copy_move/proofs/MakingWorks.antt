-- The making of a thing as the work of a job: its steps, its last steps and its skips.
use Rattle.std.proofs.Common.{◌≡◌, ℕ, ◌+◌, ◌<◌, ◌≤◌, false, List, length, refl, sym, ◌∙◌, ap, subst, inl, inr, Option, arith}
use Rattle.mc_text.specs.Routes.{Route}
use Rattle.tree_trait.specs.declared.calls.TreeError.{TreeError}
use Rattle.tree_trait.specs.Change.{CallLog}
use Rattle.tree_trait.proofs.Visible.{same_path-self}
use Rattle.job_reports.specs.declared.report.Cause.{Cause}
use Rattle.job_reports.specs.declared.report.Ending.{Ending}
use Rattle.job_reports.specs.declared.report.Did.{Did}
use Rattle.job_reports.specs.declared.report.Did.TheVariants.{Troubled}
use Rattle.job_reports.specs.Paths.{folder_of}
use Rattle.job_reports.specs.Stops.{out_of_memory_at}
use Rattle.job_answers.specs.declared.replies.Replies.{Replies}
use Rattle.copy_move.specs.declared.work.Work.TheVariants.{Make}
use Rattle.copy_move.specs.declared.run.Course.TheVariants.{GoesOn, InTrouble}
use Rattle.delete_job.specs.DeletionSteps.{after_try}
use Rattle.make_job.specs.Makings.{Making, Tells, at_barrier, is_dirty}
use Rattle.make_job.specs.MakingSteps.{LastMakingStep, MakingSkips, MakingStep}
use Rattle.copy_move.specs.Jobs.{course_after, unreported_skip}
use Rattle.copy_move.specs.Ranks.{making_rank, rank_on, tries_left}
use Rattle.copy_move.specs.Settling.{with_change}
use Rattle.copy_move.specs.JobStepReports.{WorkSkips, WorkSteps, WorkWindsUp}
use Rattle.copy_move.proofs.Falling.{last_making_falls, making_falls, unmade_falls, waiting_falls}
use Rattle.copy_move.proofs.FolderSteps.{one_more, tried_more, tries_after, weighs_less}
use Rattle.copy_move.proofs.RunSteps.{met_by}

-- a step
module _ (unclaimed : Route → Type 0) (replies : Replies) (m new : Making) (did : Did) (calls : ℕ) (dirty dirty_after : List Route) (before after : Option CallLog) (f0 f1 : ℕ) where
  pub making_steps : MakingStep m new did calls before after f0 f1 → dirty_after ≡ with_change (is_dirty m.stage) (is_dirty new.stage) (folder_of m.path) dirty
      → WorkSteps unclaimed replies (Make m) (Make new) did calls dirty dirty_after before after f0 f1
  making_steps s leaves = record {
    tells = s.tells;
    walks = tt;
    called = s.called;
    leaves = leaves;
    counted = s.counted;
    few = let few = s.few in omega (arith, few);
    unknown = s.unknown;
    later = s.later;
    fault = λ h. s.fault (met_by GoesOn (λ d. Tells m d new) did (λ path cause x. x) s.tells h);
    falls = λ going.
        let low = making_falls m new did s.tells going in
        let more = subst (λ xs. length xs ≤ length dirty + 1) (sym leaves) (one_more (is_dirty m.stage) (is_dirty new.stage) (folder_of m.path) dirty) in
        weighs_less (rank_on (course_after did) (Make new)) (making_rank m.stage) (length dirty_after) (length dirty) (tries_left (course_after did) (Make new) dirty_after) low more (tries_after did (Make new) dirty_after);
  }

-- a last step
pub making_winds_up : (ending : Ending) (m new : Making) (did : Did) (calls : ℕ) (left : Option TreeError) (dirty dirty_after : List Route) (before after : Option CallLog) (f0 f1 : ℕ) → LastMakingStep ending m new did calls left before after f0 f1
    → dirty_after ≡ after_try did left (folder_of m.path) dirty → WorkWindsUp ending (Make m) (Make new) did calls left dirty dirty_after before after f0 f1
making_winds_up ending m new did calls left dirty dirty_after before after f0 f1 w leaves = record {
  tells = w.tells;
  walks = tt;
  called = w.called;
  folder = folder_of m.path;
  own = same_path-self (folder_of m.path);
  dirty_is = leaves;
  synced = w.synced;
  counted = w.counted;
  few = let few = w.few in omega (arith, few);
  unknown = w.unknown;
  later = w.later;
  fault = w.fault;
  falls = λ going.
      let low = last_making_falls ending m new did w.tells going in
      let more = subst (λ xs. length xs ≤ length dirty + 1) (sym leaves) (tried_more did left (folder_of m.path) dirty) in
      omega (arith, low, more);
}

-- a skip
pub making_skips : (cause : Cause) (m new : Making) (did : Did) → MakingSkips cause m did new → at_barrier m.stage ≡ false → WorkSkips cause (Make m) did (Make new)
making_skips cause m new did (inl (did_is, new_is)) apart = record {
  walks = tt;
  skips = inl (m.path, did_is, (refl, new_is));
  falls = subst (λ d. rank_on (course_after d) (Make new) < 10) (sym did_is) (subst (λ (n : Making). making_rank n.stage < 10) (sym new_is) (unmade_falls m.stage));
}
making_skips cause m new did (inr (did_is, new_is)) apart = record {
  walks = tt;
  skips = inr (did_is ∙ ap (λ b. Troubled (out_of_memory_at b)) apart, ap Make new_is);
  falls = subst (λ d. rank_on (course_after d) (Make new) < 10) (sym did_is) (subst (λ (n : Making). rank_on (InTrouble unreported_skip) (Make n) < 10) (sym new_is) (waiting_falls (Make m) tt));
}
