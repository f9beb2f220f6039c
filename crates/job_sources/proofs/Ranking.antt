-- A step leaves the job fewer steps, also where the session is closed.
use Rattle.std.proofs.Common.{◌≡◌, ℕ, ◌+◌, ◌<◌, ◌≤◌, Bool, true, false, List, length, refl, sym, ap, subst, inl, inr, Option, Some, None, arith}
use Rattle.std.specs.Prelude.{if◌then◌else◌}
use Rattle.mc_text.specs.Routes.{Route}
use Rattle.tree_trait.specs.Change.{CallLog}
use Rattle.job_reports.specs.declared.report.Did.{Did}
use Rattle.job_reports.specs.declared.report.Did.TheVariants.{Began, Chunk, Placed, Removed, Made, Set, Kept, Skipped, Cleaned, Barrier, Asked, Merges, Moved, Troubled, Ended}
use Rattle.copy_move.specs.declared.work.Work.{Work}
use Rattle.copy_move.specs.declared.work.Work.TheVariants.{Copy, Delete, Make, Move, SetMode, RemoveEmptied}
use Rattle.copy_move.specs.declared.run.Course.{Course}
use Rattle.copy_move.specs.declared.run.Course.TheVariants.{GoesOn, Asking, InTrouble, OwedSyncFailed, Skips, Ends}
use Rattle.copy_move.specs.Jobs.{Running, closed_course}
use Rattle.job_reports.specs.Reports.{ends}
use Rattle.make_job.specs.declared.making.MakingStage.{MakingStage}
use Rattle.make_job.specs.declared.making.MakingStage.TheVariants as making
use Rattle.move_job.specs.declared.moving.MovingStage.{MovingStage}
use Rattle.move_job.specs.declared.moving.MovingStage.TheVariants as moving
use Rattle.emptied_job.specs.declared.removal.RemovalStage.{RemovalStage}
use Rattle.emptied_job.specs.declared.removal.RemovalStage.TheVariants as removal
use Rattle.emptied_job.specs.Removals as removals
use Rattle.delete_job.specs.Deletions.{Deleting, DeletionLeaves}
use Rattle.make_job.specs.Makings as makings
use Rattle.mode_job.specs.declared.setting.Stage.{Stage as SettingStage}
use Rattle.mode_job.specs.declared.setting.Stage.TheVariants as setting
use Rattle.mode_job.specs.Settings as settings
use Rattle.copy_move.specs.Ranks.{last_making_steps, last_moving_steps, last_rank, last_removal_steps, last_setting_steps, making_rank, moving_rank, rank_at, rank_on, rank_with, removal_rank, setting_rank, work_rank}
use Rattle.job_unsynced.specs.Folders.{joined_folders}
use Rattle.copy_move.specs.Settling.{WorkLeaves}
use Rattle.job_reports.specs.Paths.{folder_of, without}
use Rattle.copy_move.specs.JobStepReports.{LeavesDirty, RunStep, OwedSyncStep, SyncsOwed, step_made}
use Rattle.copy_move.specs.Told.{if_closed}
use Rattle.delete_job.proofs.DeletionRuns.{fewer, one_fewer}
use Rattle.copy_move.proofs.FolderSteps.{joined_more, one_more, tried_more}
use Rattle.copy_move.proofs.MovingWorks.{two_more}

some_making : (stage : MakingStage) → 0 < making_rank stage
some_making making.Make = omega arith
some_making making.Sync = omega arith
some_making making.Finish = omega arith
some_making making.PassedOver = omega arith

some_making_try : (stage : MakingStage) → 0 < last_making_steps stage
some_making_try making.Make = omega arith
some_making_try making.Sync = omega arith
some_making_try making.Finish = omega arith
some_making_try making.PassedOver = omega arith

some_moving : (stage : MovingStage) → 0 < moving_rank stage
some_moving moving.Take = omega arith
some_moving moving.SyncTarget = omega arith
some_moving moving.SyncSource = omega arith
some_moving moving.Finish = omega arith
some_moving moving.PassedOver = omega arith

some_moving_try : (stage : MovingStage) → 0 < last_moving_steps stage
some_moving_try moving.Take = omega arith
some_moving_try moving.SyncTarget = omega arith
some_moving_try moving.SyncSource = omega arith
some_moving_try moving.Finish = omega arith
some_moving_try moving.PassedOver = omega arith

some_setting : (stage : SettingStage) → 0 < setting_rank stage
some_setting setting.Give = omega arith
some_setting setting.Sync = omega arith
some_setting setting.Done = omega arith

some_setting_try : (stage : SettingStage) → 0 < last_setting_steps stage
some_setting_try setting.Give = omega arith
some_setting_try setting.Sync = omega arith
some_setting_try setting.Done = omega arith

some_removal : (stage : RemovalStage) → 0 < removal_rank stage
some_removal removal.Remove = omega arith
some_removal removal.Sync = omega arith
some_removal removal.Finish = omega arith
some_removal removal.PassedOver = omega arith

some_removal_try : (stage : RemovalStage) → 0 < last_removal_steps stage
some_removal_try removal.Remove = omega arith
some_removal_try removal.Sync = omega arith
some_removal_try removal.Finish = omega arith
some_removal_try removal.PassedOver = omega arith

some_end : (work : Work) → 0 < last_rank work
some_end (Copy c) = omega arith
some_end (Delete d) = omega arith
some_end (Make m) = some_making_try m.stage
some_end (Move m) = some_moving_try m.stage
some_end (SetMode s) = some_setting_try s.stage
some_end (RemoveEmptied r) = some_removal_try r.stage

some_work : (work : Work) → 0 < work_rank work
some_work (Copy c) = omega arith
some_work (Delete d) = omega arith
some_work (Make m) = some_making m.stage
some_work (Move m) = some_moving m.stage
some_work (SetMode s) = some_setting s.stage
some_work (RemoveEmptied r) = some_removal r.stage

-- a live job has steps left
some_steps : (course : Course) (work : Work) → 0 < rank_on course work
some_steps GoesOn work = some_work work
some_steps (InTrouble halt) work = some_end work
some_steps (OwedSyncFailed cause) work = some_end work
some_steps Asking work = some_end work
some_steps (Skips cause) (Copy c) = omega arith
some_steps (Skips cause) (Delete d) = omega arith
some_steps (Skips cause) (Make m) = omega arith
some_steps (Skips cause) (Move m) = omega arith
some_steps (Skips cause) (SetMode s) = omega arith
some_steps (Skips cause) (RemoveEmptied r) = omega arith
some_steps (Ends ending) work = some_end work

-- a job that waits is counted as one that is aborted
pub closed_rank : (course : Course) (work : Work) (dirty : List Route) → rank_at dirty (closed_course course) work ≤ rank_at dirty course work
closed_rank GoesOn work dirty = omega arith
closed_rank (InTrouble halt) (Copy c) dirty = omega arith
closed_rank (InTrouble halt) (Delete d) dirty = omega arith
closed_rank (InTrouble halt) (Make m) dirty = omega arith
closed_rank (InTrouble halt) (Move m) dirty = omega arith
closed_rank (InTrouble halt) (SetMode s) dirty = omega arith
closed_rank (InTrouble halt) (RemoveEmptied r) dirty = omega arith
closed_rank (OwedSyncFailed cause) (Copy c) dirty = omega arith
closed_rank (OwedSyncFailed cause) (Delete d) dirty = omega arith
closed_rank (OwedSyncFailed cause) (Make m) dirty = omega arith
closed_rank (OwedSyncFailed cause) (Move m) dirty = omega arith
closed_rank (OwedSyncFailed cause) (SetMode s) dirty = omega arith
closed_rank (OwedSyncFailed cause) (RemoveEmptied r) dirty = omega arith
closed_rank Asking (Copy c) dirty = omega arith
closed_rank Asking (Delete d) dirty = omega arith
closed_rank Asking (Make m) dirty = omega arith
closed_rank Asking (Move m) dirty = omega arith
closed_rank Asking (SetMode s) dirty = omega arith
closed_rank Asking (RemoveEmptied r) dirty = omega arith
closed_rank (Skips cause) work dirty = omega arith
closed_rank (Ends ending) work dirty = omega arith

-- a job has more steps left than none
pub some_left : (dirty : List Route) (job : Running) → length dirty < rank_at dirty job.course job.work
some_left dirty job = let some = some_steps job.course job.work in omega (arith, some)

-- a step leaves two dirty folders more at most
ends_low : (dirty dirty_after : List Route) (job : Running) → length dirty_after ≤ length dirty + 2 → length dirty_after < rank_at dirty job.course job.work
ends_low dirty dirty_after job few = let some = some_steps job.course job.work in omega (arith, some, few)

rank_left : (closed : Bool) (job stepped : Running) (did : Did) (dirty dirty_after : List Route) → length dirty_after ≤ length dirty + 2 → (ends did ≡ false → rank_with dirty_after (Some stepped) < rank_with dirty (Some job))
    → rank_with dirty_after (if_closed closed (if ends did then None else Some stepped)) < rank_with dirty (Some job)
rank_left closed job stepped did dirty dirty_after few falls = go closed (ends did) falls
  where
    go : (closed ended : Bool) → (ended ≡ false → rank_with dirty_after (Some stepped) < rank_with dirty (Some job)) → rank_with dirty_after (if_closed closed (if ended then None else Some stepped)) < rank_with dirty (Some job)
    go true true h = ends_low dirty dirty_after job few
    go false true h = ends_low dirty dirty_after job few
    go true false h = let less = h refl in let most = closed_rank stepped.course stepped.work dirty_after in omega (arith, less, most)
    go false false h = h refl

-- a change of a deletion adds a folder at most
deletion_more : (d : Deleting) (did : Did) (dirty dirty_after : List Route) (before after : Option CallLog) → DeletionLeaves d did dirty dirty_after before after → length dirty_after ≤ length dirty + 1
deletion_more d (Removed path) dirty dirty_after before after (inl h) = subst (λ xs. length xs ≤ length dirty + 1) (sym h.0) (joined_more (folder_of path) dirty)
deletion_more d (Removed path) dirty dirty_after before after (inr h) =
    subst (λ xs. length xs ≤ length dirty + 1) (sym h.0) (let less = fewer path (joined_folders (folder_of path) dirty) in let more = joined_more (folder_of path) dirty in omega (arith, less, more))
deletion_more d Barrier dirty dirty_after before after (folder, own, left, called) = subst (λ xs. length xs ≤ length dirty + 1) (sym left) (let less = fewer folder dirty in omega (arith, less))
deletion_more d (Ended ending part) dirty dirty_after before after h = let same = ap length h.1 in omega (arith, same)
deletion_more d (Kept path) dirty dirty_after before after h = let same = ap length h in omega (arith, same)
deletion_more d (Troubled trouble) dirty dirty_after before after h = let same = ap length h in omega (arith, same)
deletion_more d (Began part) dirty dirty_after before after h = let same = ap length h in omega (arith, same)
deletion_more d (Chunk bytes) dirty dirty_after before after h = let same = ap length h in omega (arith, same)
deletion_more d (Asked question) dirty dirty_after before after h = let same = ap length h in omega (arith, same)
deletion_more d (Merges transfer pair names) dirty dirty_after before after h = let same = ap length h in omega (arith, same)
deletion_more d (Moved pair) dirty dirty_after before after h = let same = ap length h in omega (arith, same)
deletion_more d (Set path) dirty dirty_after before after h = let same = ap length h in omega (arith, same)
deletion_more d (Placed path) dirty dirty_after before after h = let same = ap length h in omega (arith, same)
deletion_more d (Made made) dirty dirty_after before after h = let same = ap length h in omega (arith, same)
deletion_more d (Skipped path cause) dirty dirty_after before after h = let same = ap length h in omega (arith, same)
deletion_more d (Cleaned part) dirty dirty_after before after h = let same = ap length h in omega (arith, same)

within : (few many : ℕ) → few ≤ many + 1 → few ≤ many + 2
within few many less = omega (arith, less)

-- a step adds two folders at most, with a renaming
work_more : (old new : Work) (did : Did) (dirty dirty_after : List Route) (before after : Option CallLog) → WorkLeaves old did new dirty dirty_after before after → length dirty_after ≤ length dirty + 2
work_more (Copy c) (Copy new) did dirty dirty_after before after h = within (length dirty_after) (length dirty) (subst (λ xs. length xs ≤ length dirty + 1) (sym h.list) (one_more h.was h.now h.folder dirty))
work_more (SetMode s) (SetMode new) did dirty dirty_after before after h = within (length dirty_after) (length dirty) (subst (λ xs. length xs ≤ length dirty + 1) (sym h) (one_more (settings.is_dirty s.stage) (settings.is_dirty new.stage) s.path dirty))
work_more (Make m) (Make new) did dirty dirty_after before after h = within (length dirty_after) (length dirty) (subst (λ xs. length xs ≤ length dirty + 1) (sym h) (one_more (makings.is_dirty m.stage) (makings.is_dirty new.stage) (folder_of m.path) dirty))
work_more (Move m) (Move new) did dirty dirty_after before after h = subst (λ xs. length xs ≤ length dirty + 2) (sym h) (two_more m.stage new.stage m.pair dirty)
work_more (Delete d) (Delete new) did dirty dirty_after before after h = within (length dirty_after) (length dirty) (deletion_more d did dirty dirty_after before after h)
work_more (RemoveEmptied r) (RemoveEmptied new) did dirty dirty_after before after h = within (length dirty_after) (length dirty) (subst (λ xs. length xs ≤ length dirty + 1) (sym h) (one_more (removals.is_dirty r.stage) (removals.is_dirty new.stage) (folder_of r.path) dirty))
work_more old new did dirty dirty_after before after h = absurd h

leaves_more : (course : Course) (old new : Work) (did : Did) (dirty dirty_after : List Route) (before after : Option CallLog) → LeavesDirty course old did new dirty dirty_after before after → length dirty_after ≤ length dirty + 2
leaves_more GoesOn old new did dirty dirty_after before after h = work_more old new did dirty dirty_after before after h
leaves_more (InTrouble halt) old new did dirty dirty_after before after h = absurd h
leaves_more (OwedSyncFailed cause) old new did dirty dirty_after before after h = absurd h
leaves_more Asking old new did dirty dirty_after before after h = absurd h
leaves_more (Skips cause) old new did dirty dirty_after before after h = let same = ap length h in omega (arith, same)
leaves_more (Ends ending) old new did dirty dirty_after before after h = within (length dirty_after) (length dirty) (subst (λ d. length d ≤ length dirty + 1) (sym h.dirty_is) (tried_more did h.refusal h.folder dirty))

-- the sync of what an ended job left dirty leaves the job where it stood, or waiting
settled_falls : (closed : Bool) (job stepped : Running) (did : Did) (made : ℕ) (dirty dirty_after : List Route) (before after : Option CallLog) (f0 f1 : ℕ) → OwedSyncStep (step_made job stepped did made dirty dirty_after before after f0 f1)
    → rank_with dirty_after (if_closed closed (if ends did then None else Some stepped)) < rank_with dirty (Some job)
settled_falls closed job stepped did made dirty dirty_after before after f0 f1 s = by s.synced
  where
    by : SyncsOwed job s.path did stepped dirty dirty_after before after → rank_with dirty_after (if_closed closed (if ends did then None else Some stepped)) < rank_with dirty (Some job)
    by (inl h) =
        let less = one_fewer s.path dirty s.owed in
        let count : length dirty_after ≡ length (without s.path dirty) = ap length h.dirty_is in
        let goes : rank_at dirty job.course job.work ≡ rank_at dirty GoesOn job.work = ap (λ c. rank_at dirty c job.work) s.goes in
        let on : rank_at dirty_after job.course job.work ≡ rank_at dirty_after GoesOn job.work = ap (λ c. rank_at dirty_after c job.work) s.goes in
        let same : rank_at dirty_after stepped.course stepped.work ≡ rank_at dirty_after job.course job.work = ap (λ (j : Running). rank_at dirty_after j.course j.work) h.new_is in
        rank_left closed job stepped did dirty dirty_after (omega (arith, less, count)) (λ going. omega (arith, less, count, goes, on, same))
    by (inr h) =
        let count : length dirty_after ≡ length dirty = ap length h.dirty_is in
        let waits : rank_at dirty_after stepped.course stepped.work ≡ rank_at dirty_after (OwedSyncFailed h.trouble.cause) job.work = ap (λ (j : Running). rank_at dirty_after j.course j.work) h.new_is in
        let goes : rank_at dirty job.course job.work ≡ rank_at dirty GoesOn job.work = ap (λ c. rank_at dirty c job.work) s.goes in
        let low = s.waits in
        rank_left closed job stepped did dirty dirty_after (omega (arith, count)) (λ going. omega (arith, count, waits, goes, low))

pub run_falls : (unclaimed : Route → Type 0) (closed : Bool) (job stepped : Running) (did : Did) (made : ℕ) (dirty dirty_after : List Route) (before after : Option CallLog) (f0 f1 : ℕ)
    → RunStep unclaimed (step_made job stepped did made dirty dirty_after before after f0 f1) → rank_with dirty_after (if_closed closed (if ends did then None else Some stepped)) < rank_with dirty (Some job)
run_falls unclaimed closed job stepped did made dirty dirty_after before after f0 f1 (inl o) =
    rank_left closed job stepped did dirty dirty_after (leaves_more job.course job.work stepped.work did dirty dirty_after before after o.leaves) o.falls
run_falls unclaimed closed job stepped did made dirty dirty_after before after f0 f1 (inr s) = settled_falls closed job stepped did made dirty dirty_after before after f0 f1 s
