-- What a history tells of the removal of an emptied folder follows its steps.
use Rattle.std.proofs.Common.{◌≡◌, ℕ, Bool, true, false, refl, ap, Some}
use Rattle.std.specs.Prelude.{◌&&◌, if◌then◌else◌}
use Rattle.std.proofs.lemmas.Bool.{true≢false, false≢true}
use Rattle.job_reports.specs.declared.report.Trouble.{Trouble}
use Rattle.job_reports.specs.declared.report.Ending.{Ending}
use Rattle.job_reports.specs.declared.report.Did.{Did}
use Rattle.job_reports.specs.declared.report.Did.TheVariants.{Removed, Kept, Skipped, Barrier, Troubled, Ended}
use Rattle.job_reports.specs.Reports.{ends}
use Rattle.job_answers.specs.declared.replies.Replies.{Replies}
use Rattle.emptied_job.specs.declared.removal.RemovalStage.{RemovalStage}
use Rattle.emptied_job.specs.declared.removal.RemovalStage.TheVariants.{Remove, Sync, Finish, PassedOver}
use Rattle.emptied_job.specs.Removals.{Removing, Tells, Winds, at_barrier, is_fresh}
use Rattle.emptied_job.specs.Removals as removals
use Rattle.copy_move.specs.declared.run.Course.{Course}
use Rattle.copy_move.specs.declared.run.Course.TheVariants.{GoesOn, InTrouble, OwedSyncFailed, Ends}
use Rattle.copy_move.specs.declared.work.Work.TheVariants.{RemoveEmptied}
use Rattle.copy_move.specs.Jobs.{Running, course_after, halt_of}
use Rattle.copy_move.specs.Told.{after_step, course_told, synced_work, told_job}

-- the job with this number that removes an emptied folder
abbrev removes_on : ℕ → Replies → Removing → Course → Running
removes_on id replies r course = record { id = id; work = RemoveEmptied r; course = course; replies = replies }

-- before the removal no trouble of the work is at a barrier
removal_bars : (stage : RemovalStage) (barrier : Bool) → barrier ≡ at_barrier stage → (is_fresh stage && barrier) ≡ false
removal_bars Remove barrier h = h
removal_bars Sync barrier h = refl
removal_bars Finish barrier h = refl
removal_bars PassedOver barrier h = refl

pub removal_in_trouble : (r : Removing) (trouble : Trouble) → trouble.barrier ≡ at_barrier r.stage → course_told (RemoveEmptied r) trouble ≡ InTrouble (halt_of trouble)
removal_in_trouble r trouble h = ap (λ b. if b then OwedSyncFailed trouble.cause else InTrouble (halt_of trouble)) (removal_bars r.stage trouble.barrier h)

-- a removal that goes on
pub removal_told : (id : ℕ) (replies : Replies) (old new : Removing) (did : Did) → Tells replies old did new → ends did ≡ false
    → after_step did (told_job (removes_on id replies old GoesOn)) ≡ Some (told_job (removes_on id replies new (course_after did)))
removal_told id replies old new (Removed path) (at, path_is, is) h = rw is refl
removal_told id replies old new (Kept path) (at, path_is, is) h = rw is refl
removal_told id replies old new (Skipped path cause) (at, path_is, passes, is) h =
    rw is (ap (λ stage. Some (removes_on id replies (record old { stage = removals.skipped_stage stage }) GoesOn)) at)
removal_told id replies old new Barrier (at, is) h = rw is (ap (λ stage. Some (removes_on id replies (record old { stage = removals.after_sync stage }) GoesOn)) at)
removal_told id replies old new (Troubled trouble) (barrier, undone, cause, is) h = rw is (ap (λ course. Some (removes_on id replies old course)) (removal_in_trouble old trouble barrier))
removal_told id replies old new (Ended ending part) t h = absurd (true≢false h)
removal_told id replies old new did t h = absurd t

-- its last steps
pub removal_winds : (id : ℕ) (replies : Replies) (ending : Ending) (old new : Removing) (did : Did) → Winds ending old did new → ends did ≡ false
    → after_step did (told_job (removes_on id replies old (Ends ending))) ≡ Some (told_job (removes_on id replies new (Ends ending)))
removal_winds id replies ending old new Barrier (at, is) h = rw is (ap (λ stage. Some (removes_on id replies (record old { stage = removals.after_sync stage }) (Ends ending))) at)
removal_winds id replies ending old new (Ended how part) t h = absurd (true≢false h)
removal_winds id replies ending old new did t h = absurd t

-- the sync of what an ended job left dirty comes before the removal, and leaves it as it is
pub synced_removal : (r : Removing) (stage : RemovalStage) → is_fresh stage ≡ true → synced_work (RemoveEmptied (record r { stage = stage })) ≡ RemoveEmptied (record r { stage = stage })
synced_removal r Remove h = refl
synced_removal r Sync h = absurd (false≢true h)
synced_removal r Finish h = absurd (false≢true h)
synced_removal r PassedOver h = absurd (false≢true h)
