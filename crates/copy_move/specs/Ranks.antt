-- How many steps a job makes at most before its end or its next trouble. Each step leaves fewer.
use Rattle.std.specs.Prelude.{ℕ, ◌+◌, ◌-◌, ◌*◌, List, length, Option, Some, None}
use Rattle.mc_text.specs.Routes.{Route}
use Rattle.make_job.specs.declared.making.MakingStage.{MakingStage}
use Rattle.make_job.specs.declared.making.MakingStage.TheVariants as making
use Rattle.move_job.specs.declared.moving.MovingStage.{MovingStage}
use Rattle.move_job.specs.declared.moving.MovingStage.TheVariants as moving
use Rattle.emptied_job.specs.declared.removal.RemovalStage.{RemovalStage}
use Rattle.emptied_job.specs.declared.removal.RemovalStage.TheVariants as removal
use Rattle.delete_job.specs.Deletions.{Deleting, left_in}
use Rattle.copy_move.specs.declared.work.Work.{Work}
use Rattle.copy_move.specs.declared.work.Work.TheVariants.{Copy, Delete, Make, Move, SetMode, RemoveEmptied}
use Rattle.copy_move.specs.declared.run.Course.{Course}
use Rattle.copy_move.specs.declared.run.Course.TheVariants.{GoesOn, Asking, InTrouble}
use Rattle.copy_move.specs.declared.run.Course.TheVariants.{OwedSyncFailed, Skips, Ends}
use Rattle.copy_move.specs.Jobs.{Running}
use Rattle.copy_job.specs.Ranks as tree
use Rattle.mode_job.specs.declared.setting.Stage.{Stage as SettingStage}
use Rattle.mode_job.specs.declared.setting.Stage.TheVariants as setting

-- of a deletion that goes on: the things that are left, and its end; the folders that are to be
-- synced are counted apart
abbrev pub deletion_rank : Deleting → ℕ
deletion_rank d = left_in d + 2

-- of a making that goes on
abbrev pub making_rank : MakingStage → ℕ
making_rank making.Make = 6
making_rank making.Sync = 5
making_rank making.Finish = 4
making_rank making.PassedOver = 4

-- the last steps of a making
abbrev pub last_making_steps : MakingStage → ℕ
last_making_steps making.Make = 1
last_making_steps making.Sync = 2
last_making_steps making.Finish = 1
last_making_steps making.PassedOver = 1

-- of a move that goes on: the renaming makes two folders dirty
abbrev pub moving_rank : MovingStage → ℕ
moving_rank moving.Take = 8
moving_rank moving.SyncTarget = 6
moving_rank moving.SyncSource = 5
moving_rank moving.Finish = 4
moving_rank moving.PassedOver = 4

-- its last steps
abbrev pub last_moving_steps : MovingStage → ℕ
last_moving_steps moving.Take = 1
last_moving_steps moving.SyncTarget = 3
last_moving_steps moving.SyncSource = 2
last_moving_steps moving.Finish = 1
last_moving_steps moving.PassedOver = 1

-- of the removal of an emptied folder that goes on
abbrev pub removal_rank : RemovalStage → ℕ
removal_rank removal.Remove = 6
removal_rank removal.Sync = 5
removal_rank removal.Finish = 4
removal_rank removal.PassedOver = 4

-- its last steps
abbrev pub last_removal_steps : RemovalStage → ℕ
last_removal_steps removal.Remove = 1
last_removal_steps removal.Sync = 2
last_removal_steps removal.Finish = 1
last_removal_steps removal.PassedOver = 1

-- of the setting of a mode that goes on
abbrev pub setting_rank : SettingStage → ℕ
setting_rank setting.Give = 6
setting_rank setting.Sync = 5
setting_rank setting.Done = 4

-- its last steps
abbrev pub last_setting_steps : SettingStage → ℕ
last_setting_steps setting.Give = 1
last_setting_steps setting.Sync = 2
last_setting_steps setting.Done = 1

-- of a job that copies those of its copy, and the end; a trouble may leave it as many last steps as it had
-- steps, so there is one more
abbrev pub work_rank : Work → ℕ
work_rank (Copy c) = tree.rank c.at + 2
work_rank (Delete d) = deletion_rank d
work_rank (Make m) = making_rank m.stage
work_rank (Move m) = moving_rank m.stage
work_rank (SetMode s) = setting_rank s.stage
work_rank (RemoveEmptied r) = removal_rank r.stage

abbrev pub last_rank : Work → ℕ
last_rank (Copy c) = tree.last_rank c.at + 1
last_rank (Delete d) = 1
last_rank (Make m) = last_making_steps m.stage
last_rank (Move m) = last_moving_steps m.stage
last_rank (SetMode s) = last_setting_steps s.stage
last_rank (RemoveEmptied r) = last_removal_steps r.stage

-- where something is to be skipped
abbrev pub skip_rank : Work → ℕ
skip_rank (Copy c) = tree.rank c.at + 1
skip_rank (Delete d) = deletion_rank d + 1
skip_rank (Make m) = 10
skip_rank (Move m) = 10
skip_rank (SetMode s) = 10
skip_rank (RemoveEmptied r) = 10

-- a job that waits counts as one that is aborted
abbrev pub rank_on : Course → Work → ℕ
rank_on GoesOn work = work_rank work
rank_on (InTrouble halt) work = last_rank work
rank_on (OwedSyncFailed cause) work = last_rank work
rank_on Asking work = last_rank work
rank_on (Skips cause) work = skip_rank work
rank_on (Ends ending) work = last_rank work

-- how many dirty folders the last steps of a job may try yet
abbrev pub tries_left : Course → Work → List Route → ℕ
tries_left (Ends ending) (Delete d) dirty = length dirty - d.tried
tries_left (Ends ending) (Copy c) dirty = length dirty
tries_left (Ends ending) (Make m) dirty = length dirty
tries_left (Ends ending) (Move m) dirty = length dirty
tries_left (Ends ending) (SetMode s) dirty = length dirty
tries_left (Ends ending) (RemoveEmptied r) dirty = length dirty
tries_left GoesOn work dirty = length dirty
tries_left (InTrouble halt) work dirty = length dirty
tries_left (OwedSyncFailed cause) work dirty = length dirty
tries_left Asking work dirty = length dirty
tries_left (Skips cause) work dirty = length dirty

-- The same where folders are dirty: a job may have to sync each of them, and to try each in its last steps.
-- A change adds one, and a renaming two.
abbrev pub rank_at : List Route → Course → Work → ℕ
rank_at dirty course work = 3 * rank_on course work + (length dirty + tries_left course work dirty)

abbrev pub rank_with : List Route → Option Running → ℕ
rank_with dirty None = length dirty
rank_with dirty (Some job) = rank_at dirty job.course job.work
