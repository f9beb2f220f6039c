-- Each step of the removal of an emptied folder leaves fewer steps to be made.
use Rattle.std.proofs.Common.{◌≡◌, ◌<◌, false, sym, subst, arith}
use Rattle.std.proofs.lemmas.Bool.{true≢false}
use Rattle.job_reports.specs.declared.report.Ending.{Ending}
use Rattle.job_reports.specs.declared.report.Did.{Did}
use Rattle.job_reports.specs.declared.report.Did.TheVariants.{Removed, Kept, Skipped, Barrier, Troubled, Ended}
use Rattle.job_reports.specs.Reports.{ends}
use Rattle.job_answers.specs.declared.replies.Replies.{Replies}
use Rattle.emptied_job.specs.declared.removal.RemovalStage.{RemovalStage}
use Rattle.emptied_job.specs.declared.removal.RemovalStage.TheVariants.{Remove, Sync, Finish, PassedOver}
use Rattle.emptied_job.specs.Removals.{Removing, Tells, Winds, skipped_stage}
use Rattle.copy_move.specs.declared.work.Work.TheVariants.{RemoveEmptied}
use Rattle.copy_move.specs.Jobs.{course_after}
use Rattle.copy_move.specs.Ranks.{last_removal_steps, rank_on, removal_rank}

-- a removal in trouble has fewer steps left than one that goes on
pub removal_tried_low : (stage : RemovalStage) → last_removal_steps stage < removal_rank stage
removal_tried_low Remove = omega arith
removal_tried_low Sync = omega arith
removal_tried_low Finish = omega arith
removal_tried_low PassedOver = omega arith

-- its last steps are few
pub removal_low : (stage : RemovalStage) → last_removal_steps stage < 10
removal_low Remove = omega arith
removal_low Sync = omega arith
removal_low Finish = omega arith
removal_low PassedOver = omega arith

-- so are the steps of one whose folder stays
pub unremoved_falls : (stage : RemovalStage) → removal_rank (skipped_stage stage) < 10
unremoved_falls Remove = omega arith
unremoved_falls Sync = omega arith
unremoved_falls Finish = omega arith
unremoved_falls PassedOver = omega arith

-- a step
pub removal_falls : (replies : Replies) (r new : Removing) (did : Did) → Tells replies r did new → ends did ≡ false → rank_on (course_after did) (RemoveEmptied new) < removal_rank r.stage
removal_falls replies r new (Removed path) (at, path_is, is) h =
    subst (λ (n : Removing). removal_rank n.stage < removal_rank r.stage) (sym is) (subst (λ s. 5 < removal_rank s) (sym at) (omega arith))
removal_falls replies r new (Kept path) (at, path_is, is) h =
    subst (λ (n : Removing). removal_rank n.stage < removal_rank r.stage) (sym is) (subst (λ s. 4 < removal_rank s) (sym at) (omega arith))
removal_falls replies r new (Skipped path cause) (at, path_is, passes, is) h =
    subst (λ (n : Removing). removal_rank n.stage < removal_rank r.stage) (sym is) (subst (λ s. 4 < removal_rank s) (sym at) (omega arith))
removal_falls replies r new Barrier (at, is) h =
    subst (λ (n : Removing). removal_rank n.stage < removal_rank r.stage) (sym is) (subst (λ s. 4 < removal_rank s) (sym at) (omega arith))
removal_falls replies r new (Troubled trouble) (barrier, undone, cause, is) h =
    subst (λ (n : Removing). last_removal_steps n.stage < removal_rank r.stage) (sym is) (removal_tried_low r.stage)
removal_falls replies r new (Ended ending part) t h = absurd (true≢false h)
removal_falls replies r new did t h = absurd t

-- a last step
pub last_removal_falls : (ending : Ending) (r new : Removing) (did : Did) → Winds ending r did new → ends did ≡ false → last_removal_steps new.stage < last_removal_steps r.stage
last_removal_falls ending r new Barrier (at, is) h =
    subst (λ (n : Removing). last_removal_steps n.stage < last_removal_steps r.stage) (sym is) (subst (λ s. 1 < last_removal_steps s) (sym at) (omega arith))
last_removal_falls ending r new (Ended how part) w h = absurd (true≢false h)
last_removal_falls ending r new did w h = absurd w
