-- What a history tells of a move follows its steps.
use Rattle.std.proofs.Common.{◌≡◌, ℕ, Bool, true, false, refl, ap, Some}
use Rattle.std.specs.Prelude.{◌&&◌, if◌then◌else◌}
use Rattle.std.proofs.lemmas.Bool.{false≢true}
use Rattle.job_reports.specs.declared.report.Trouble.{Trouble}
use Rattle.job_reports.specs.declared.report.Ending.{Ending}
use Rattle.job_reports.specs.declared.report.Ending.TheVariants.{Finished, Aborted, Killed, NoMemory}
use Rattle.job_reports.specs.declared.report.Did.{Did}
use Rattle.job_reports.specs.declared.report.Did.TheVariants.{Began, Chunk, Placed, Removed, Made, Set, Kept, Skipped, Cleaned, Barrier, Asked, Merges, Moved, Troubled, Ended}
use Rattle.job_reports.specs.Reports.{ends}
use Rattle.job_answers.specs.declared.replies.Replies.{Replies}
use Rattle.move_job.specs.declared.moving.MovingStage.{MovingStage}
use Rattle.move_job.specs.declared.moving.MovingStage.TheVariants.{Take, SyncTarget, SyncSource, Finish, PassedOver}
use Rattle.move_job.specs.Movings.{Moving, Tells, Winds, at_barrier, is_fresh}
use Rattle.move_job.specs.Movings as movings
use Rattle.copy_move.specs.declared.run.Course.{Course}
use Rattle.copy_move.specs.declared.run.Course.TheVariants.{GoesOn, InTrouble, OwedSyncFailed, Ends}
use Rattle.copy_move.specs.declared.work.Work.TheVariants.{Move}
use Rattle.copy_move.specs.Jobs.{Running, course_after, halt_of}
use Rattle.copy_move.specs.Told.{after_step, course_told, synced_work, told_job}

-- the job with this number that moves something
abbrev moves_on : ℕ → Replies → Moving → Course → Running
moves_on id replies m course = record { id = id; work = Move m; course = course; replies = replies }

-- before the renaming no trouble of the work is at a barrier
moving_bars : (stage : MovingStage) (barrier : Bool) → barrier ≡ at_barrier stage → (is_fresh stage && barrier) ≡ false
moving_bars Take barrier h = h
moving_bars SyncTarget barrier h = refl
moving_bars SyncSource barrier h = refl
moving_bars Finish barrier h = refl
moving_bars PassedOver barrier h = refl

pub moving_in_trouble : (m : Moving) (trouble : Trouble) → trouble.barrier ≡ at_barrier m.stage → course_told (Move m) trouble ≡ InTrouble (halt_of trouble)
moving_in_trouble m trouble h = ap (λ b. if b then OwedSyncFailed trouble.cause else InTrouble (halt_of trouble)) (moving_bars m.stage trouble.barrier h)

-- a move that goes on
pub moving_told : (id : ℕ) (replies : Replies) (old new : Moving) (did : Did) → Tells replies old did new → ends did ≡ false
    → after_step did (told_job (moves_on id replies old GoesOn)) ≡ Some (told_job (moves_on id replies new (course_after did)))
moving_told id replies old new (Moved pair) (at, pair_is, is) h = rw is refl
moving_told id replies old new (Kept path) (at, path_is, is) h = rw is refl
moving_told id replies old new (Merges transfer pair names) (at, merges, is) h = rw is refl
moving_told id replies old new (Skipped path cause) (at, path_is, passes, is) h =
    rw is (ap (λ stage. Some (moves_on id replies (record old { stage = movings.skipped_stage stage }) GoesOn)) at)
moving_told id replies old new Barrier (dirty, is) h = rw is refl
moving_told id replies old new (Asked question) (at, is) h = rw is refl
moving_told id replies old new (Troubled trouble) (barrier, undone, cause, is) h = rw is (ap (λ course. Some (moves_on id replies old course)) (moving_in_trouble old trouble barrier))
moving_told id replies old new (Ended Finished part) t h = absurd cc
moving_told id replies old new (Ended Aborted part) t h = absurd t
moving_told id replies old new (Ended Killed part) t h = absurd t
moving_told id replies old new (Ended NoMemory part) t h = absurd t
moving_told id replies old new (Began part) t h = absurd t
moving_told id replies old new (Chunk count) t h = absurd t
moving_told id replies old new (Set path) t h = absurd t
moving_told id replies old new (Placed path) t h = absurd t
moving_told id replies old new (Removed path) t h = absurd t
moving_told id replies old new (Made path) t h = absurd t
moving_told id replies old new (Cleaned part) t h = absurd t

-- its last steps
pub moving_winds : (id : ℕ) (replies : Replies) (ending : Ending) (old new : Moving) (did : Did) → Winds ending old did new → ends did ≡ false
    → after_step did (told_job (moves_on id replies old (Ends ending))) ≡ Some (told_job (moves_on id replies new (Ends ending)))
moving_winds id replies ending old new Barrier (dirty, is) h = rw is refl
moving_winds id replies ending old new (Ended how part) t h = absurd cc
moving_winds id replies ending old new (Began part) t h = absurd t
moving_winds id replies ending old new (Chunk count) t h = absurd t
moving_winds id replies ending old new (Asked question) t h = absurd t
moving_winds id replies ending old new (Merges transfer pair names) t h = absurd t
moving_winds id replies ending old new (Moved pair) t h = absurd t
moving_winds id replies ending old new (Set path) t h = absurd t
moving_winds id replies ending old new (Placed path) t h = absurd t
moving_winds id replies ending old new (Removed path) t h = absurd t
moving_winds id replies ending old new (Made path) t h = absurd t
moving_winds id replies ending old new (Kept path) t h = absurd t
moving_winds id replies ending old new (Skipped path cause) t h = absurd t
moving_winds id replies ending old new (Cleaned part) t h = absurd t
moving_winds id replies ending old new (Troubled trouble) t h = absurd t

-- the sync of what an ended job left dirty comes before the renaming, and leaves the move as it is
pub synced_moving : (m : Moving) (stage : MovingStage) → is_fresh stage ≡ true → synced_work (Move (record m { stage = stage })) ≡ Move (record m { stage = stage })
synced_moving m Take h = refl
synced_moving m SyncTarget h = absurd (false≢true h)
synced_moving m SyncSource h = absurd (false≢true h)
synced_moving m Finish h = absurd (false≢true h)
synced_moving m PassedOver h = absurd (false≢true h)
