-- A tree that tells what it holds goes on telling at each step of a job.
use Rattle.std.proofs.Common.{[], ◌∷◌, inl, inr, Option, Some, None, Result, Ok, Err}
use Rattle.mc_text.specs.Routes.{Route}
use Rattle.tree_trait.specs.declared.calls.TreeError.{TreeError}
use Rattle.tree_trait.specs.declared.calls.TreeError.TheVariants.{NotEmpty}
use Rattle.tree_trait.specs.Calls.{Call, RemoveFile, RemoveFolder, SyncFolder}
use Rattle.tree_trait.specs.Calls as calls
use Rattle.tree_trait.specs.Change.{CallLog, current}
use Rattle.job_reports.specs.declared.report.Cause.{Cause}
use Rattle.job_reports.specs.declared.report.Did.{Did}
use Rattle.job_reports.specs.declared.report.Did.TheVariants.{Began, Chunk, Placed, Removed, Made, Set, Kept, Skipped, Cleaned, Barrier, Asked, Merges, Moved, Troubled, Ended}
use Rattle.job_answers.specs.declared.replies.Replies.{Replies}
use Rattle.job_reports.proofs.Runs.{all_some}
use Rattle.copy_job.specs.Known as known
use Rattle.copy_job.specs.LastCalls.{LastCalls as LastTreeCalls}
use Rattle.copy_job.specs.Standing.{part_of}
use Rattle.copy_job.proofs.StillTelling.{known_law, performs_tells, run_tells}
use Rattle.job_reports.specs.Paths.{folder_of}
use Rattle.job_reports.specs.Stops.{sync_answer}
use Rattle.copy_move.specs.declared.work.Work.{Work}
use Rattle.copy_move.specs.declared.work.Work.TheVariants.{Copy, Delete, Make, Move, SetMode, RemoveEmptied}
use Rattle.copy_move.specs.declared.run.Course.{Course}
use Rattle.copy_move.specs.declared.run.Course.TheVariants.{GoesOn, Asking, InTrouble, OwedSyncFailed, Skips, Ends}
use Rattle.delete_job.specs.Deletions.{DeletionCalls, IsRefused, LastCalls}
use Rattle.delete_job.specs.Deletions as deletions
use Rattle.make_job.specs.Makings.{Answers, LastMakingCalls, Making, MakingCalls}
use Rattle.make_job.specs.Makings as makings
use Rattle.make_job.specs.NewThings.{making_call}
use Rattle.move_job.specs.declared.moving.MovingStage.{MovingStage}
use Rattle.move_job.specs.declared.moving.MovingStage.TheVariants as moving
use Rattle.move_job.specs.Movings.{LastMovingCalls, Moving, MovingCalls, Stops, owed_folder}
use Rattle.emptied_job.specs.declared.removal.RemovalStage.{RemovalStage}
use Rattle.emptied_job.specs.declared.removal.RemovalStage.TheVariants as removal
use Rattle.emptied_job.specs.Removals.{LastRemovalCalls, Removing, RemovalCalls}
use Rattle.emptied_job.specs.Removals as removals
use Rattle.mode_job.specs.ModeSettings.{LastSettingCalls}
use Rattle.mode_job.specs.declared.setting.Stage.{Stage as SettingStage}
use Rattle.mode_job.specs.declared.setting.Stage.TheVariants as setting
use Rattle.mode_job.specs.Settings.{Setting}
use Rattle.mode_job.specs.SettingSteps.{SettingCalls, SettingStops, SyncStops, TellsTried, sync_of}
use Rattle.copy_move.specs.Jobs.{CallsOn, JobCalls, Running, WorkCalls, WorkLastCalls}

abbrev pub StillTells : Option CallLog → Type 0
StillTells after = known.StillTells after

refused_tells : (log : CallLog) (e : TreeError) (after : Option CallLog) → IsRefused log e after → StillTells after
refused_tells log e after (deletions.RefusedFile path h) = performs_tells log (RemoveFile path) (Err e) after h
refused_tells log e after (deletions.RefusedFolder path h) = performs_tells log (RemoveFolder path) (Err e) after h
refused_tells log e after (deletions.RefusedSync folder h) = performs_tells log (SyncFolder folder) (Err e) after h

call_tells : (log : CallLog) (call : Option Call) (answer : Result (Unit {0}) TreeError) (after : Option CallLog) → Answers log call answer after → StillTells after
call_tells log None answer after h = (log, h)
call_tells log (Some call) answer after h = performs_tells log call answer after h

-- a deletion
deletion_tells : (did : Did) (log : CallLog) (after : Option CallLog) → DeletionCalls did log after → StillTells after
deletion_tells (Removed path) log after (inl h) = performs_tells log (RemoveFile path) (Ok tt) after h
deletion_tells (Removed path) log after (inr h) = performs_tells log (RemoveFolder path) (Ok tt) after h
deletion_tells Barrier log after h = performs_tells log (SyncFolder h.0) (Ok tt) after h.1
deletion_tells (Troubled trouble) log after (inl h) = (log, h)
deletion_tells (Troubled trouble) log after (inr (e, cause, h)) = refused_tells log e after h
deletion_tells (Ended ending part) log after h = (log, h)
deletion_tells (Began part) log after h = absurd h
deletion_tells (Chunk count) log after h = absurd h
deletion_tells (Asked question) log after h = absurd h
deletion_tells (Merges transfer pair names) log after h = absurd h
deletion_tells (Moved pair) log after h = absurd h
deletion_tells (Set path) log after h = absurd h
deletion_tells (Placed path) log after h = absurd h
deletion_tells (Made made) log after h = absurd h
deletion_tells (Kept kept) log after h = (log, h)
deletion_tells (Skipped path cause) log after (inl h) = (log, h)
deletion_tells (Skipped path cause) log after (inr (e, is, h)) = refused_tells log e after h
deletion_tells (Cleaned part) log after h = absurd h

-- a making
making_tells : (m : Making) (did : Did) (log : CallLog) (after : Option CallLog) → MakingCalls m did log after → StillTells after
making_tells m (Made path) log after h = performs_tells log (making_call m.thing path) (Ok tt) after h
making_tells m Barrier log after h = call_tells log (makings.sync_of m.path) (Ok tt) after h
making_tells m (Troubled trouble) log after h = call_tells log (makings.call_of m.thing m.stage m.path) (Err h.0) after h.2
making_tells m (Ended ending part) log after h = (log, h)
making_tells m (Began part) log after h = absurd h
making_tells m (Chunk count) log after h = absurd h
making_tells m (Asked question) log after h = absurd h
making_tells m (Merges transfer pair names) log after h = absurd h
making_tells m (Moved pair) log after h = absurd h
making_tells m (Set path) log after h = absurd h
making_tells m (Placed path) log after h = absurd h
making_tells m (Removed made) log after h = absurd h
making_tells m (Kept kept) log after h = absurd h
making_tells m (Skipped path cause) log after h = absurd h
making_tells m (Cleaned part) log after h = absurd h

last_tells : (did : Did) (log : CallLog) (after : Option CallLog) → LastCalls did log after → StillTells after
last_tells Barrier log after (folder, answer, h) = performs_tells log (SyncFolder folder) answer after h
last_tells (Ended ending part) log after h = (log, h)
last_tells (Began part) log after h = absurd h
last_tells (Chunk count) log after h = absurd h
last_tells (Asked question) log after h = absurd h
last_tells (Merges transfer pair names) log after h = absurd h
last_tells (Moved pair) log after h = absurd h
last_tells (Set path) log after h = absurd h
last_tells (Placed path) log after h = absurd h
last_tells (Removed path) log after h = absurd h
last_tells (Made made) log after h = absurd h
last_tells (Kept kept) log after h = absurd h
last_tells (Skipped path cause) log after h = absurd h
last_tells (Cleaned part) log after h = absurd h
last_tells (Troubled trouble) log after h = absurd h

last_making_tells : (m : Making) (did : Did) (log : CallLog) (after : Option CallLog) → LastMakingCalls m did log after → StillTells after
last_making_tells m Barrier log after h = call_tells log (makings.sync_of m.path) h.0 after h.1
last_making_tells m (Ended ending part) log after h = (log, h)
last_making_tells m (Began part) log after h = absurd h
last_making_tells m (Chunk count) log after h = absurd h
last_making_tells m (Asked question) log after h = absurd h
last_making_tells m (Merges transfer pair names) log after h = absurd h
last_making_tells m (Moved pair) log after h = absurd h
last_making_tells m (Set path) log after h = absurd h
last_making_tells m (Placed path) log after h = absurd h
last_making_tells m (Made path) log after h = absurd h
last_making_tells m (Removed made) log after h = absurd h
last_making_tells m (Kept kept) log after h = absurd h
last_making_tells m (Skipped path cause) log after h = absurd h
last_making_tells m (Cleaned part) log after h = absurd h
last_making_tells m (Troubled trouble) log after h = absurd h

-- a move
moving_stop_tells : (replies : Replies) (m : Moving) (stage : MovingStage) (cause : Cause) (named : Option Route) (log : CallLog) (after : Option CallLog) → Stops m replies stage cause named log after → StillTells after
moving_stop_tells replies m moving.Take cause named log after (inl look) = (log, look.1)
moving_stop_tells replies m moving.Take cause named log after (inr s) = performs_tells log (calls.Rename m.pair.source m.pair.target) (Err s.error) after s.called
moving_stop_tells replies m moving.SyncTarget cause named log after s = performs_tells log (SyncFolder (owed_folder m)) (Err s.error) after s.called
moving_stop_tells replies m moving.SyncSource cause named log after s = performs_tells log (SyncFolder (owed_folder m)) (Err s.error) after s.called
moving_stop_tells replies m moving.Finish cause named log after s = performs_tells log (SyncFolder (owed_folder m)) (Err s.error) after s.called
moving_stop_tells replies m moving.PassedOver cause named log after s = performs_tells log (SyncFolder (owed_folder m)) (Err s.error) after s.called

moving_tells : (replies : Replies) (m : Moving) (did : Did) (log : CallLog) (after : Option CallLog) → MovingCalls replies m did log after → StillTells after
moving_tells replies m (Moved pair) log after (may, h) = performs_tells log (calls.Rename m.pair.source m.pair.target) (Ok tt) after h
moving_tells replies m (Kept path) log after (kept, is) = (log, is)
moving_tells replies m (Skipped path cause) log after h = moving_stop_tells replies m m.stage cause h.0 log after h.1
moving_tells replies m Barrier log after h = performs_tells log (SyncFolder (owed_folder m)) (Ok tt) after h
moving_tells replies m (Asked question) log after (asks, is) = (log, is)
moving_tells replies m (Merges transfer pair names) log after (merged, is) = (log, is)
moving_tells replies m (Troubled trouble) log after h = moving_stop_tells replies m m.stage trouble.cause trouble.path log after h
moving_tells replies m (Ended ending part) log after h = (log, h)
moving_tells replies m (Began part) log after h = absurd h
moving_tells replies m (Chunk count) log after h = absurd h
moving_tells replies m (Set path) log after h = absurd h
moving_tells replies m (Placed path) log after h = absurd h
moving_tells replies m (Removed path) log after h = absurd h
moving_tells replies m (Made path) log after h = absurd h
moving_tells replies m (Cleaned part) log after h = absurd h

last_moving_tells : (m : Moving) (did : Did) (log : CallLog) (after : Option CallLog) → LastMovingCalls m did log after → StillTells after
last_moving_tells m Barrier log after h = performs_tells log (SyncFolder (owed_folder m)) h.0 after h.1
last_moving_tells m (Ended ending part) log after h = (log, h)
last_moving_tells m (Began part) log after h = absurd h
last_moving_tells m (Chunk count) log after h = absurd h
last_moving_tells m (Asked question) log after h = absurd h
last_moving_tells m (Merges transfer pair names) log after h = absurd h
last_moving_tells m (Moved pair) log after h = absurd h
last_moving_tells m (Set path) log after h = absurd h
last_moving_tells m (Placed path) log after h = absurd h
last_moving_tells m (Removed path) log after h = absurd h
last_moving_tells m (Made path) log after h = absurd h
last_moving_tells m (Kept path) log after h = absurd h
last_moving_tells m (Skipped path cause) log after h = absurd h
last_moving_tells m (Cleaned part) log after h = absurd h
last_moving_tells m (Troubled trouble) log after h = absurd h

-- the removal of an emptied folder
removal_stop_tells : (r : Removing) (stage : RemovalStage) (cause : Cause) (named : Option Route) (log : CallLog) (after : Option CallLog) → removals.Stops r stage cause named log after → StillTells after
removal_stop_tells r removal.Remove cause named log after (inl (cause_is, path_is, is)) = (log, is)
removal_stop_tells r removal.Remove cause named log after (inr s) = performs_tells log (RemoveFolder r.path) (Err s.error) after s.called
removal_stop_tells r removal.Sync cause named log after s = performs_tells log (SyncFolder (folder_of r.path)) (Err s.error) after s.called
removal_stop_tells r removal.Finish cause named log after s = performs_tells log (SyncFolder (folder_of r.path)) (Err s.error) after s.called
removal_stop_tells r removal.PassedOver cause named log after s = performs_tells log (SyncFolder (folder_of r.path)) (Err s.error) after s.called

removal_tells : (r : Removing) (did : Did) (log : CallLog) (after : Option CallLog) → RemovalCalls r did log after → StillTells after
removal_tells r (Removed path) log after h = performs_tells log (RemoveFolder r.path) (Ok tt) after h
removal_tells r (Kept path) log after h = performs_tells log (RemoveFolder r.path) (Err NotEmpty) after h
removal_tells r (Skipped path cause) log after (named, h) = removal_stop_tells r r.stage cause named log after h
removal_tells r Barrier log after h = performs_tells log (SyncFolder (folder_of r.path)) (Ok tt) after h
removal_tells r (Troubled trouble) log after h = removal_stop_tells r r.stage trouble.cause trouble.path log after h
removal_tells r (Ended ending part) log after h = (log, h)
removal_tells r did log after h = absurd h

last_removal_tells : (r : Removing) (did : Did) (log : CallLog) (after : Option CallLog) → LastRemovalCalls r did log after → StillTells after
last_removal_tells r Barrier log after (answer, h) = performs_tells log (SyncFolder (folder_of r.path)) answer after h
last_removal_tells r (Ended ending part) log after h = (log, h)
last_removal_tells r did log after h = absurd h

-- a setting
pub sync_stop_tells : (path : Route) (cause : Cause) (named : Option Route) (log : CallLog) (after : Option CallLog) → SyncStops path cause named log after → StillTells after
sync_stop_tells path cause named log after (inl look) = (log, look.1)
sync_stop_tells path cause named log after (inr sync) = run_tells (sync_of (current log) path ∷ []) cause named log after sync

setting_stop_tells : (s : Setting) (stage : SettingStage) (cause : Cause) (named : Option Route) (log : CallLog) (after : Option CallLog) → SettingStops s stage cause named log after → StillTells after
setting_stop_tells s setting.Give cause named log after h = run_tells (calls.SetMode s.path s.mode ∷ []) cause named log after h
setting_stop_tells s setting.Sync cause named log after h = sync_stop_tells s.path cause named log after h
setting_stop_tells s setting.Done cause named log after h = absurd h

setting_tells : (s : Setting) (did : Did) (log : CallLog) (after : Option CallLog) → SettingCalls s did log after → StillTells after
setting_tells s (Set path) log after h = all_some (calls.SetMode s.path s.mode ∷ []) log after h
setting_tells s Barrier log after h = all_some (sync_of (current log) s.path ∷ []) log after h
setting_tells s (Troubled trouble) log after h = setting_stop_tells s s.stage trouble.cause trouble.path log after h
setting_tells s (Ended ending part) log after h = (log, h)
setting_tells s (Began part) log after h = absurd h
setting_tells s (Chunk count) log after h = absurd h
setting_tells s (Asked question) log after h = absurd h
setting_tells s (Merges transfer pair names) log after h = absurd h
setting_tells s (Moved pair) log after h = absurd h
setting_tells s (Placed path) log after h = absurd h
setting_tells s (Removed path) log after h = absurd h
setting_tells s (Made path) log after h = absurd h
setting_tells s (Kept path) log after h = absurd h
setting_tells s (Skipped path cause) log after (named, h) = setting_stop_tells s s.stage cause named log after h
setting_tells s (Cleaned part) log after h = absurd h

try_tells : (path : Route) (left : Option TreeError) (log : CallLog) (after : Option CallLog) → TellsTried path left log after → StillTells after
try_tells path None log after h = performs_tells log (sync_of (current log) path) (Ok tt) after h
try_tells path (Some e) log after (inl look) = (log, look.0)
try_tells path (Some e) log after (inr h) = performs_tells log (sync_of (current log) path) (Err e) after h

last_setting_tells : (s : Setting) (did : Did) (log : CallLog) (after : Option CallLog) → LastSettingCalls s did log after → StillTells after
last_setting_tells s Barrier log after (left, h) = try_tells s.path left log after h
last_setting_tells s (Ended ending part) log after h = (log, h)
last_setting_tells s (Began part) log after h = absurd h
last_setting_tells s (Chunk count) log after h = absurd h
last_setting_tells s (Asked question) log after h = absurd h
last_setting_tells s (Merges transfer pair names) log after h = absurd h
last_setting_tells s (Moved pair) log after h = absurd h
last_setting_tells s (Set path) log after h = absurd h
last_setting_tells s (Placed path) log after h = absurd h
last_setting_tells s (Removed path) log after h = absurd h
last_setting_tells s (Made path) log after h = absurd h
last_setting_tells s (Kept path) log after h = absurd h
last_setting_tells s (Skipped path cause) log after h = absurd h
last_setting_tells s (Cleaned part) log after h = absurd h
last_setting_tells s (Troubled trouble) log after h = absurd h

-- a copy
last_tree_tells : (part : Option Route) (did : Did) (log : CallLog) (after : Option CallLog) → LastTreeCalls part did log after → StillTells after
last_tree_tells part (Cleaned path) log after h = all_some (RemoveFile path ∷ []) log after h
last_tree_tells part Barrier log after (folder, left, (mid, leaves, h)) = performs_tells mid (SyncFolder folder) (sync_answer left) after h
last_tree_tells part (Ended ending stays) log after (mid, leaves, is) = (mid, is)
last_tree_tells part (Began path) log after h = absurd h
last_tree_tells part (Chunk count) log after h = absurd h
last_tree_tells part (Asked question) log after h = absurd h
last_tree_tells part (Merges transfer pair names) log after h = absurd h
last_tree_tells part (Moved pair) log after h = absurd h
last_tree_tells part (Set path) log after h = absurd h
last_tree_tells part (Placed path) log after h = absurd h
last_tree_tells part (Removed path) log after h = absurd h
last_tree_tells part (Made made) log after h = absurd h
last_tree_tells part (Kept kept) log after h = absurd h
last_tree_tells part (Skipped path cause) log after h = absurd h
last_tree_tells part (Troubled trouble) log after h = absurd h

-- any job
work_tells : (unclaimed : Route → Type 0) (replies : Replies) (work : Work) (did : Did) (new : Work) (log : CallLog) (after : Option CallLog) → WorkCalls unclaimed replies work did new log after → StillTells after
work_tells unclaimed replies (Copy c) did (Copy new) log after h = (let g = h.goes in known_law g.free replies c new did h.calls h.dirty h.dirty_after log after g.since h.faults_after g.steps)
work_tells unclaimed replies (Delete d) did new log after h = deletion_tells did log after h
work_tells unclaimed replies (Make m) did new log after h = making_tells m did log after h
work_tells unclaimed replies (Move m) did new log after h = moving_tells replies m did log after h
work_tells unclaimed replies (SetMode s) did new log after h = setting_tells s did log after h
work_tells unclaimed replies (RemoveEmptied r) did new log after h = removal_tells r did log after h
work_tells unclaimed replies old did new log after h = absurd h

last_work_tells : (work : Work) (did : Did) (log : CallLog) (after : Option CallLog) → WorkLastCalls work did log after → StillTells after
last_work_tells (Copy c) did log after h = last_tree_tells (part_of c.at.item) did log after h
last_work_tells (Delete d) did log after h = last_tells did log after h
last_work_tells (Make m) did log after h = last_making_tells m did log after h
last_work_tells (Move m) did log after h = last_moving_tells m did log after h
last_work_tells (SetMode s) did log after h = last_setting_tells s did log after h
last_work_tells (RemoveEmptied r) did log after h = last_removal_tells r did log after h

calls_tell : (unclaimed : Route → Type 0) (course : Course) (job : Running) (did : Did) (new : Running) (log : CallLog) (after : Option CallLog) → CallsOn unclaimed course job did new log after → StillTells after
calls_tell unclaimed GoesOn job did new log after h = work_tells unclaimed job.replies job.work did new.work log after h
calls_tell unclaimed (InTrouble halt) job did new log after h = absurd h
calls_tell unclaimed (OwedSyncFailed cause) job did new log after h = absurd h
calls_tell unclaimed Asking job did new log after h = absurd h
calls_tell unclaimed (Skips cause) job did new log after h = (log, h)
calls_tell unclaimed (Ends ending) job did new log after h = last_work_tells job.work did log after h

pub step_tells : (unclaimed : Route → Type 0) (job : Running) (did : Did) (new : Running) (log : CallLog) (after : Option CallLog) → JobCalls unclaimed job did new log after → StillTells after
step_tells unclaimed job did new log after h = calls_tell unclaimed job.course job did new log after h
