-- The order in which a thing is moved: it is renamed, the target's folder is synced, then the folder in
-- which it was, and only then is the move finished. What a step may report where the move stands, and where
-- it stands then; and what a report says of the tree's calls.
use Rattle.std.specs.Prelude.{◌≡◌, ◌⊎◌, ℕ, ◌≤◌, ◌^◌, Bool, true, false, if◌then◌else◌}
use Rattle.std.specs.Prelude.{is_some, List, length, Option, Some, None, Result, Ok, Err}
use Rattle.mc_text.specs.Routes.{Route, parent_of, same_path}
use Rattle.tree_trait.specs.Calls.{Rename, SyncFolder}
use Rattle.tree_trait.specs.Change.{CallLog, current}
use Rattle.tree_trait.specs.Answers.{IsAscending, Performs}
use Rattle.tree_trait.specs.declared.calls.TreeError.{TreeError}
use Rattle.job_reports.specs.declared.job.Pair.{Pair}
use Rattle.job_reports.specs.declared.report.Cause.{Cause}
use Rattle.job_reports.specs.declared.report.Cause.TheVariants.{Memory}
use Rattle.job_reports.specs.declared.report.Ending.{Ending}
use Rattle.job_reports.specs.declared.report.Ending.TheVariants.{Finished}
use Rattle.job_reports.specs.declared.report.Did.{Did}
use Rattle.job_reports.specs.declared.report.Did.TheVariants.{Moved, Kept, Skipped, Barrier}
use Rattle.job_reports.specs.declared.report.Did.TheVariants.{Asked, Merges, Troubled, Ended}
use Rattle.job_reports.specs.declared.report.Transfer.{Transfer}
use Rattle.job_reports.specs.declared.report.Transfer.TheVariants.{ByMove}
use Rattle.job_reports.specs.Paths.{folder_of}
use Rattle.job_reports.specs.Stops.{sync_answer, cause_of, named_path}
use Rattle.job_answers.specs.declared.replies.Decision.TheVariants.{Ask}
use Rattle.job_answers.specs.declared.replies.Replies.{Replies}
use Rattle.job_answers.specs.Skipping.{holds, is_passed_over, kind_in}
use Rattle.copy_tree.specs.Taking.{AreShort}
use Rattle.job_unsynced.specs.Folders.{with_change}
use Rattle.move_job.specs.declared.moving.MovingStage.{MovingStage}
use Rattle.move_job.specs.declared.moving.MovingStage.TheVariants.{Take, SyncTarget, SyncSource}
use Rattle.move_job.specs.declared.moving.MovingStage.TheVariants.{Finish, PassedOver}
use Rattle.move_job.specs.Takings.{IsDecided, IsKept, IsMerged, LooksStop, MayMove}

-- the move of a thing, as it stands: what is moved, and where to, and what is to be done next
pub record Moving : Type 0 where
  pub pair : Pair
  pub stage : MovingStage

-- a move, just begun
abbrev pub begun_move : Pair → Moving
begun_move pair = record { pair = pair; stage = Take }

-- the next call is at a barrier: a sync
abbrev pub at_barrier : MovingStage → Bool
at_barrier Take = false
at_barrier SyncTarget = true
at_barrier SyncSource = true
at_barrier Finish = true
at_barrier PassedOver = true

-- a folder was changed, and not synced yet; the source's is synced last
abbrev pub is_dirty : MovingStage → Bool
is_dirty Take = false
is_dirty SyncTarget = true
is_dirty SyncSource = true
is_dirty Finish = false
is_dirty PassedOver = false

-- the target's folder is still to be synced
abbrev pub owes_target : MovingStage → Bool
owes_target Take = false
owes_target SyncTarget = true
owes_target SyncSource = false
owes_target Finish = false
owes_target PassedOver = false

-- nothing was changed or decided yet
abbrev pub is_fresh : MovingStage → Bool
is_fresh Take = true
is_fresh SyncTarget = false
is_fresh SyncSource = false
is_fresh Finish = false
is_fresh PassedOver = false

-- nothing is left to be done
abbrev pub is_done : MovingStage → Bool
is_done Take = false
is_done SyncTarget = false
is_done SyncSource = false
is_done Finish = true
is_done PassedOver = true

-- a thing that is skipped stays where it is
abbrev pub skipped_stage : MovingStage → MovingStage
skipped_stage Take = PassedOver
skipped_stage SyncTarget = SyncTarget
skipped_stage SyncSource = SyncSource
skipped_stage Finish = Finish
skipped_stage PassedOver = PassedOver

-- a folder that holds both names is synced once
abbrev pub after_target : Pair → MovingStage
after_target pair = if same_path (folder_of pair.target) (folder_of pair.source) then Finish else SyncSource

-- what comes after a sync
abbrev pub after_sync : Pair → MovingStage → MovingStage
after_sync pair Take = Take
after_sync pair SyncTarget = after_target pair
after_sync pair SyncSource = Finish
after_sync pair Finish = Finish
after_sync pair PassedOver = PassedOver

-- the folder that is synced next, where one is
abbrev pub owed_in : Pair → MovingStage → Route
owed_in pair SyncTarget = folder_of pair.target
owed_in pair stage = folder_of pair.source

abbrev pub owed_folder : Moving → Route
owed_folder m = owed_in m.pair m.stage

-- the two folders join the dirty ones with the renaming, and each leaves them with its sync
abbrev pub with_moves : MovingStage → MovingStage → Pair → List Route → List Route
with_moves old new pair dirty =
    with_change (is_dirty old) (is_dirty new) (folder_of pair.source)
    (with_change (owes_target old) (owes_target new) (folder_of pair.target) dirty)

-- A folder is merged with the one at its target: what lies in it, by these names in their order, is moved,
-- and can be told, with its targets. It is no root, and neither of the two is the other.
pub record MayMerge (moved : Pair) (transfer : Transfer) (pair : Pair) (names : List (List ℕ)) : Type 0 where
  pub by_move : transfer ≡ ByMove
  pub its : pair ≡ moved
  pub held : is_some (parent_of pair.source) ≡ true
  pub apart : same_path pair.source pair.target ≡ false
  pub short : AreShort pair names
  pub in_order : IsAscending names
  pub few : length names ≤ 2 ^ 64

-- What a step may report that goes on, and where the move stands then. Once two folders are merged nothing
-- is left to be done: what lies in the source are sources of their own. A trouble is told of whose kind
-- none is to be passed over, or there was no memory.
abbrev pub Tells : Replies → Moving → Did → Moving → Type 0
Tells replies m (Moved pair) new =
    (m.stage ≡ Take) × (pair ≡ m.pair) × (new ≡ record m { stage = SyncTarget })
Tells replies m (Kept path) new =
    (m.stage ≡ Take) × (path ≡ m.pair.target) × (new ≡ record m { stage = PassedOver })
Tells replies m (Skipped path cause) new = (m.stage ≡ Take) × (path ≡ m.pair.source)
    × (holds replies.skips (kind_in cause) ≡ true) × (new ≡ record m { stage = PassedOver })
Tells replies m Barrier new =
    (is_dirty m.stage ≡ true) × (new ≡ record m { stage = after_sync m.pair m.stage })
Tells replies m (Asked question) new = (m.stage ≡ Take) × (new ≡ m)
Tells replies m (Merges transfer pair names) new =
    (m.stage ≡ Take) × MayMerge m.pair transfer pair names × (new ≡ record m { stage = PassedOver })
Tells replies m (Troubled trouble) new =
    (trouble.barrier ≡ at_barrier m.stage) × (is_done m.stage ≡ false)
    × ((is_passed_over replies.skips trouble ≡ false) ⊎ (trouble.cause ≡ Memory)) × (new ≡ m)
Tells replies m (Ended Finished part) new = (is_done m.stage ≡ true) × (part ≡ None) × (new ≡ m)
Tells replies m did new = ⊥

-- What a last step may report: each sync that is owed is tried once, and the job ends as it was ordered.
abbrev pub Winds : Ending → Moving → Did → Moving → Type 0
Winds ending m Barrier new =
    (is_dirty m.stage ≡ true) × (new ≡ record m { stage = after_sync m.pair m.stage })
Winds ending m (Ended how part) new = (is_dirty m.stage ≡ false) × (how ≡ ending) × (part ≡ None) × (new ≡ m)
Winds ending m did new = ⊥

-- the renaming was refused, or it found no memory
pub record RenameStops (m : Moving) (replies : Replies) (cause : Cause) (path : Option Route) (log : CallLog)
    (after : Option CallLog) : Type 0 where
  pub error : TreeError
  pub may : MayMove (current log) m.pair replies
  pub cause_is : cause ≡ cause_of error
  pub path_is : path ≡ named_path error m.pair.target
  pub called : Performs {A = Unit {0}} log (Rename m.pair.source m.pair.target) (Err error) after

-- a sync was refused, or it found no memory
pub record SyncStops (m : Moving) (cause : Cause) (path : Option Route) (log : CallLog)
    (after : Option CallLog) : Type 0 where
  pub error : TreeError
  pub cause_is : cause ≡ cause_of error
  pub path_is : path ≡ named_path error (owed_folder m)
  pub called : Performs {A = Unit {0}} log (SyncFolder (owed_folder m)) (Err error) after

-- the trouble of a step, by where the move stands: before the renaming a look may stop it, too
abbrev pub Stops : Moving → Replies → MovingStage → Cause → Option Route → CallLog → Option CallLog → Type 0
Stops m replies Take cause path log after = (LooksStop (current log) m.pair cause path × (after ≡ Some log))
    ⊎ RenameStops m replies cause path log after
Stops m replies stage cause path log after = SyncStops m cause path log after

-- What a step says of the tree's calls, where this was answered. A renaming was done that may be, and so
-- was a sync; a trouble is the refusal of the next call, or of a look before it; a question, what is kept
-- or merged and an end make no call.
abbrev pub MovingCalls : Replies → Moving → Did → CallLog → Option CallLog → Type 0
MovingCalls replies m (Moved pair) log after = MayMove (current log) m.pair replies
    × Performs {A = Unit {0}} log (Rename m.pair.source m.pair.target) (Ok tt) after
MovingCalls replies m (Kept path) log after = IsKept (current log) m.pair replies × (after ≡ Some log)
MovingCalls replies m (Skipped path cause) log after =
    (named : Option Route) × Stops m replies m.stage cause named log after
MovingCalls replies m Barrier log after =
    Performs {A = Unit {0}} log (SyncFolder (owed_folder m)) (Ok tt) after
MovingCalls replies m (Asked question) log after =
    IsDecided (current log) m.pair replies question Ask × (after ≡ Some log)
MovingCalls replies m (Merges transfer pair names) log after =
    IsMerged (current log) m.pair names × (after ≡ Some log)
MovingCalls replies m (Troubled trouble) log after =
    Stops m replies m.stage trouble.cause trouble.path log after
MovingCalls replies m (Ended ending part) log after = after ≡ Some log
MovingCalls replies m did log after = ⊥

-- What a last step says of the tree's calls: the sync was tried, whatever it answered.
abbrev pub LastMovingCalls : Moving → Did → CallLog → Option CallLog → Type 0
LastMovingCalls m Barrier log after = (answer : Result (Unit {0}) TreeError)
    × Performs {A = Unit {0}} log (SyncFolder (owed_folder m)) answer after
LastMovingCalls m (Ended ending part) log after = after ≡ Some log
LastMovingCalls m did log after = ⊥

-- what a last step tells of the folder: the refusal of its sync, if that was tried in vain
abbrev pub MovingLeaves : Moving → Did → Option TreeError → CallLog → Option CallLog → Type 0
MovingLeaves m Barrier left log after =
    Performs {A = Unit {0}} log (SyncFolder (owed_folder m)) (sync_answer left) after
MovingLeaves m did left log after = left ≡ None
