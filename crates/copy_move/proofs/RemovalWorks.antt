-- The removal of an emptied folder as the work of a job: its steps, its last steps and its skips.
use Rattle.std.proofs.Common.{◌≡◌, ℕ, ◌+◌, ◌<◌, ◌≤◌, false, List, length, refl, sym, ◌∙◌, ap, subst, inl, inr, Option, arith}
use Rattle.mc_text.specs.Routes.{Route}
use Rattle.tree_trait.specs.declared.calls.TreeError.{TreeError}
use Rattle.tree_trait.specs.Change.{CallLog}
use Rattle.tree_trait.proofs.Visible.{same_path-self}
use Rattle.job_reports.specs.declared.report.Cause.{Cause}
use Rattle.job_reports.specs.declared.report.Ending.{Ending}
use Rattle.job_reports.specs.declared.report.Did.{Did}
use Rattle.job_reports.specs.declared.report.Did.TheVariants.{Skipped, Troubled}
use Rattle.job_reports.specs.Paths.{folder_of}
use Rattle.job_reports.specs.Stops.{out_of_memory_at}
use Rattle.job_answers.specs.declared.replies.Replies.{Replies}
use Rattle.emptied_job.specs.Removals.{Removing, at_barrier, is_dirty}
use Rattle.emptied_job.specs.RemovalSteps.{LastRemovalStep, RemovalSkips, RemovalStep, TellsFault}
use Rattle.copy_move.specs.declared.work.Work.TheVariants.{RemoveEmptied}
use Rattle.copy_move.specs.declared.run.Course.TheVariants.{GoesOn, InTrouble}
use Rattle.delete_job.specs.DeletionSteps.{after_try}
use Rattle.copy_move.specs.Faults.{MeetsFault}
use Rattle.copy_move.specs.Jobs.{course_after, unreported_skip}
use Rattle.copy_move.specs.Ranks.{rank_on, removal_rank, tries_left}
use Rattle.copy_move.specs.Settling.{with_change}
use Rattle.copy_move.specs.JobStepReports.{WorkSkips, WorkSteps, WorkWindsUp}
use Rattle.copy_move.proofs.Falling.{waiting_falls}
use Rattle.copy_move.proofs.FolderSteps.{one_more, tried_more, tries_after, weighs_less}
use Rattle.copy_move.proofs.RemovalFalls.{last_removal_falls, removal_falls, unremoved_falls}

-- a fault that a job meets is one of which the removal tells
fault_so : (did : Did) → MeetsFault GoesOn did → TellsFault did
fault_so (Troubled trouble) h = h
fault_so (Skipped path cause) h = h
fault_so did h = absurd h

-- a step
module _ (unclaimed : Route → Type 0) (replies : Replies) (r new : Removing) (did : Did) (calls : ℕ) (dirty dirty_after : List Route) (before after : Option CallLog) (f0 f1 : ℕ) where
  pub removal_steps : RemovalStep replies r new did calls before after f0 f1 → dirty_after ≡ with_change (is_dirty r.stage) (is_dirty new.stage) (folder_of r.path) dirty
      → WorkSteps unclaimed replies (RemoveEmptied r) (RemoveEmptied new) did calls dirty dirty_after before after f0 f1
  removal_steps s leaves = record {
    tells = s.tells;
    walks = tt;
    called = s.called;
    leaves = leaves;
    counted = s.counted;
    few = let few = s.few in omega (arith, few);
    unknown = s.unknown;
    later = s.later;
    fault = λ h. s.fault (fault_so did h);
    falls = λ going.
        let low = removal_falls replies r new did s.tells going in
        let more = subst (λ xs. length xs ≤ length dirty + 1) (sym leaves) (one_more (is_dirty r.stage) (is_dirty new.stage) (folder_of r.path) dirty) in
        weighs_less (rank_on (course_after did) (RemoveEmptied new)) (removal_rank r.stage) (length dirty_after) (length dirty) (tries_left (course_after did) (RemoveEmptied new) dirty_after) low more (tries_after did (RemoveEmptied new) dirty_after);
  }

-- a last step
pub removal_winds_up : (ending : Ending) (r new : Removing) (did : Did) (calls : ℕ) (left : Option TreeError) (dirty dirty_after : List Route) (before after : Option CallLog) (f0 f1 : ℕ) → LastRemovalStep ending r new did calls left before after f0 f1
    → dirty_after ≡ after_try did left (folder_of r.path) dirty → WorkWindsUp ending (RemoveEmptied r) (RemoveEmptied new) did calls left dirty dirty_after before after f0 f1
removal_winds_up ending r new did calls left dirty dirty_after before after f0 f1 w leaves = record {
  tells = w.tells;
  walks = tt;
  called = w.called;
  folder = folder_of r.path;
  own = same_path-self (folder_of r.path);
  dirty_is = leaves;
  synced = w.synced;
  counted = w.counted;
  few = let few = w.few in omega (arith, few);
  unknown = w.unknown;
  later = w.later;
  fault = w.fault;
  falls = λ going.
      let low = last_removal_falls ending r new did w.tells going in
      let more = subst (λ xs. length xs ≤ length dirty + 1) (sym leaves) (tried_more did left (folder_of r.path) dirty) in
      omega (arith, low, more);
}

-- a skip
pub removal_skips : (cause : Cause) (r new : Removing) (did : Did) → RemovalSkips cause r did new → at_barrier r.stage ≡ false → WorkSkips cause (RemoveEmptied r) did (RemoveEmptied new)
removal_skips cause r new did (inl (did_is, new_is)) apart = record {
  walks = apart;
  skips = inl (r.path, did_is, (refl, new_is));
  falls = subst (λ d. rank_on (course_after d) (RemoveEmptied new) < 10) (sym did_is) (subst (λ (n : Removing). removal_rank n.stage < 10) (sym new_is) (unremoved_falls r.stage));
}
removal_skips cause r new did (inr (did_is, new_is)) apart = record {
  walks = apart;
  skips = inr (did_is ∙ ap (λ b. Troubled (out_of_memory_at b)) apart, ap RemoveEmptied new_is);
  falls = subst (λ d. rank_on (course_after d) (RemoveEmptied new) < 10) (sym did_is)
      (subst (λ (n : Removing). rank_on (InTrouble unreported_skip) (RemoveEmptied n) < 10) (sym new_is) (waiting_falls (RemoveEmptied r) tt));
}
