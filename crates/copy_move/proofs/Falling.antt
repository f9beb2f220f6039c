-- Each step of a job leaves fewer steps to be made.
use Rattle.std.proofs.Common.{◌≡◌, ℕ, ◌+◌, ◌<◌, false, sym, subst, arith}
use Rattle.job_reports.specs.declared.report.Ending.{Ending}
use Rattle.job_reports.specs.declared.report.Ending.TheVariants.{Finished, Aborted, Killed, NoMemory}
use Rattle.job_reports.specs.declared.report.Did.{Did}
use Rattle.job_reports.specs.declared.report.Did.TheVariants.{Began, Chunk, Placed, Removed, Made, Set, Kept, Skipped, Cleaned, Barrier, Asked, Merges, Moved, Troubled, Ended}
use Rattle.make_job.specs.declared.making.MakingStage.{MakingStage}
use Rattle.make_job.specs.declared.making.MakingStage.TheVariants as making
use Rattle.copy_move.specs.declared.work.Work.{Work}
use Rattle.copy_move.specs.declared.work.Work.TheVariants.{Copy, Delete, Make, Move, SetMode, RemoveEmptied}
use Rattle.make_job.specs.Makings.{Making}
use Rattle.make_job.specs.Makings as makings
use Rattle.copy_move.specs.Jobs.{IsGoing, course_after}
use Rattle.copy_job.specs.Ranks as tree
use Rattle.copy_job.proofs.Answered.{waiting_law}
use Rattle.job_reports.specs.Reports.{ends}
use Rattle.copy_move.specs.Ranks.{last_making_steps, last_rank, last_setting_steps, making_rank, rank_on, setting_rank, skip_rank, work_rank}
use Rattle.mode_job.specs.declared.setting.Stage.{Stage as SettingStage}
use Rattle.mode_job.specs.declared.setting.Stage.TheVariants as setting
use Rattle.copy_move.proofs.MovingFalls.{moving_low, moving_tried_low}
use Rattle.copy_move.proofs.RemovalFalls.{removal_low, removal_tried_low}

tried_low : (stage : MakingStage) → last_making_steps stage < making_rank stage
tried_low making.Make = omega arith
tried_low making.Sync = omega arith
tried_low making.Finish = omega arith
tried_low making.PassedOver = omega arith

pub setting_tried_low : (stage : SettingStage) → last_setting_steps stage < setting_rank stage
setting_tried_low setting.Give = omega arith
setting_tried_low setting.Sync = omega arith
setting_tried_low setting.Done = omega arith

-- a job in trouble has fewer steps left than one that goes on
above : (low high : ℕ) → low < high → low + 1 < high + 2
above low high less = omega (arith, less)

-- with the end
one_above : (low high : ℕ) → low < high → low + 1 < high + 1
one_above low high less = omega (arith, less)

pub trouble_falls : (work : Work) → IsGoing work → last_rank work < work_rank work
trouble_falls (Copy c) g = above (tree.last_rank c.at) (tree.rank c.at) (waiting_law c g.can)
trouble_falls (Delete d) g = omega arith
trouble_falls (Make m) g = tried_low m.stage
trouble_falls (Move m) g = moving_tried_low m.stage
trouble_falls (SetMode s) g = setting_tried_low s.stage
trouble_falls (RemoveEmptied r) g = removal_tried_low r.stage

pub making_falls : (old new : Making) (did : Did) → makings.Tells old did new → ends did ≡ false → rank_on (course_after did) (Make new) < work_rank (Make old)
making_falls old new (Made path) (at, path_is, is) h =
    subst (λ (n : Making). making_rank n.stage < making_rank old.stage) (sym is) (subst (λ s. 5 < making_rank s) (sym at) (omega arith))
making_falls old new Barrier (at, is) h =
    subst (λ (n : Making). making_rank n.stage < making_rank old.stage) (sym is) (subst (λ s. 4 < making_rank s) (sym at) (omega arith))
making_falls old new (Troubled trouble) (at, is) h =
    subst (λ (n : Making). last_making_steps n.stage < making_rank old.stage) (sym is) (tried_low old.stage)
making_falls old new (Ended Finished part) t h = absurd cc
making_falls old new (Ended Aborted part) t h = absurd t
making_falls old new (Ended Killed part) t h = absurd t
making_falls old new (Ended NoMemory part) t h = absurd t
making_falls old new (Began part) t h = absurd t
making_falls old new (Chunk count) t h = absurd t
making_falls old new (Asked question) t h = absurd t
making_falls old new (Merges transfer pair names) t h = absurd t
making_falls old new (Moved pair) t h = absurd t
making_falls old new (Set path) t h = absurd t
making_falls old new (Placed path) t h = absurd t
making_falls old new (Removed made) t h = absurd t
making_falls old new (Kept kept) t h = absurd t
making_falls old new (Skipped path cause) t h = absurd t
making_falls old new (Cleaned part) t h = absurd t

pub last_making_falls : (ending : Ending) (old new : Making) (did : Did) → makings.Winds ending old did new → ends did ≡ false → last_rank (Make new) < last_rank (Make old)
last_making_falls ending old new Barrier (at, is) h =
    subst (λ (n : Making). last_making_steps n.stage < last_making_steps old.stage) (sym is) (subst (λ s. 1 < last_making_steps s) (sym at) (omega arith))
last_making_falls ending old new (Ended how part) w h = absurd cc
last_making_falls ending old new (Began part) w h = absurd w
last_making_falls ending old new (Chunk count) w h = absurd w
last_making_falls ending old new (Asked question) w h = absurd w
last_making_falls ending old new (Merges transfer pair names) w h = absurd w
last_making_falls ending old new (Moved pair) w h = absurd w
last_making_falls ending old new (Set path) w h = absurd w
last_making_falls ending old new (Placed path) w h = absurd w
last_making_falls ending old new (Made path) w h = absurd w
last_making_falls ending old new (Removed made) w h = absurd w
last_making_falls ending old new (Kept kept) w h = absurd w
last_making_falls ending old new (Skipped path cause) w h = absurd w
last_making_falls ending old new (Cleaned part) w h = absurd w
last_making_falls ending old new (Troubled trouble) w h = absurd w

-- so has the making of a folder that is not made
pub unmade_falls : (stage : MakingStage) → making_rank (makings.skipped_stage stage) < 10
unmade_falls making.Make = omega arith
unmade_falls making.Sync = omega arith
unmade_falls making.Finish = omega arith
unmade_falls making.PassedOver = omega arith

-- the last steps of a setting are few
setting_low : (stage : SettingStage) → last_setting_steps stage < 10
setting_low setting.Give = omega arith
setting_low setting.Sync = omega arith
setting_low setting.Done = omega arith

pub waiting_falls : (work : Work) → IsGoing work → last_rank work < skip_rank work
waiting_falls (Copy c) g = one_above (tree.last_rank c.at) (tree.rank c.at) (waiting_law c g.can)
waiting_falls (Delete d) g = omega arith
waiting_falls (SetMode s) g = setting_low s.stage
waiting_falls (Make m) g = by m.stage
  where
    by : (stage : MakingStage) → last_making_steps stage < 10
    by making.Make = omega arith
    by making.Sync = omega arith
    by making.Finish = omega arith
    by making.PassedOver = omega arith
waiting_falls (Move m) g = moving_low m.stage
waiting_falls (RemoveEmptied r) g = removal_low r.stage
