-- Each step of a move leaves fewer steps to be made.
use Rattle.std.proofs.Common.{◌≡◌, ◌<◌, Bool, true, false, sym, subst, arith}
use Rattle.std.specs.Prelude.{if◌then◌else◌}
use Rattle.std.proofs.lemmas.Bool.{false≢true}
use Rattle.mc_text.specs.Routes.{same_path}
use Rattle.job_reports.specs.declared.job.Pair.{Pair}
use Rattle.job_reports.specs.declared.report.Ending.{Ending}
use Rattle.job_reports.specs.declared.report.Did.{Did}
use Rattle.job_reports.specs.declared.report.Did.TheVariants.{Began, Chunk, Placed, Removed, Made, Set, Kept, Skipped, Cleaned, Barrier, Asked, Merges, Moved, Troubled, Ended}
use Rattle.job_reports.specs.Paths.{folder_of}
use Rattle.job_reports.specs.Reports.{ends}
use Rattle.move_job.specs.declared.moving.MovingStage.{MovingStage}
use Rattle.move_job.specs.declared.moving.MovingStage.TheVariants.{Take, SyncTarget, SyncSource, Finish, PassedOver}
use Rattle.move_job.specs.Movings.{Moving, Winds, after_sync, is_dirty, skipped_stage}
use Rattle.copy_move.specs.Ranks.{last_moving_steps, moving_rank}

-- a move in trouble has fewer steps left than one that goes on
pub moving_tried_low : (stage : MovingStage) → last_moving_steps stage < moving_rank stage
moving_tried_low Take = omega arith
moving_tried_low SyncTarget = omega arith
moving_tried_low SyncSource = omega arith
moving_tried_low Finish = omega arith
moving_tried_low PassedOver = omega arith

-- its last steps are few
pub moving_low : (stage : MovingStage) → last_moving_steps stage < 10
moving_low Take = omega arith
moving_low SyncTarget = omega arith
moving_low SyncSource = omega arith
moving_low Finish = omega arith
moving_low PassedOver = omega arith

-- so are the steps of one whose thing stays
pub unmoved_falls : (stage : MovingStage) → moving_rank (skipped_stage stage) < 10
unmoved_falls Take = omega arith
unmoved_falls SyncTarget = omega arith
unmoved_falls SyncSource = omega arith
unmoved_falls Finish = omega arith
unmoved_falls PassedOver = omega arith

-- a last step
tried_falls : (pair : Pair) (stage : MovingStage) → is_dirty stage ≡ true → last_moving_steps (after_sync pair stage) < last_moving_steps stage
tried_falls pair Take h = absurd (false≢true h)
tried_falls pair SyncTarget h = by (same_path (folder_of pair.target) (folder_of pair.source))
  where
    by : (once : Bool) → last_moving_steps (if once then Finish else SyncSource) < 3
    by true = omega arith
    by false = omega arith
tried_falls pair SyncSource h = omega arith
tried_falls pair Finish h = absurd (false≢true h)
tried_falls pair PassedOver h = absurd (false≢true h)

pub last_moving_falls : (ending : Ending) (m new : Moving) (did : Did) → Winds ending m did new → ends did ≡ false → last_moving_steps new.stage < last_moving_steps m.stage
last_moving_falls ending m new Barrier (dirty, is) h = subst (λ (n : Moving). last_moving_steps n.stage < last_moving_steps m.stage) (sym is) (tried_falls m.pair m.stage dirty)
last_moving_falls ending m new (Ended how part) w h = absurd cc
last_moving_falls ending m new (Began part) w h = absurd w
last_moving_falls ending m new (Chunk count) w h = absurd w
last_moving_falls ending m new (Asked question) w h = absurd w
last_moving_falls ending m new (Merges transfer pair names) w h = absurd w
last_moving_falls ending m new (Moved pair) w h = absurd w
last_moving_falls ending m new (Set path) w h = absurd w
last_moving_falls ending m new (Placed path) w h = absurd w
last_moving_falls ending m new (Made path) w h = absurd w
last_moving_falls ending m new (Removed path) w h = absurd w
last_moving_falls ending m new (Kept path) w h = absurd w
last_moving_falls ending m new (Skipped path cause) w h = absurd w
last_moving_falls ending m new (Cleaned part) w h = absurd w
last_moving_falls ending m new (Troubled trouble) w h = absurd w
