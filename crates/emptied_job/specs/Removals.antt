-- The order in which a folder is removed that a merge has emptied: it is removed, the folder that held it
-- is synced, and only then is the removal finished. One in which something stayed is kept. What a step may
-- report where the removal stands, and where it stands then; and what a report says of the tree's calls.
use Rattle.std.specs.Prelude.{◌≡◌, ◌⊎◌, Bool, true, false, Option, Some, None, Result, Ok, Err}
use Rattle.mc_text.specs.Routes.{Route, parent_of}
use Rattle.tree_trait.specs.Calls.{RemoveFolder, SyncFolder}
use Rattle.tree_trait.specs.Change.{CallLog}
use Rattle.tree_trait.specs.Answers.{Performs}
use Rattle.tree_trait.specs.declared.calls.TreeError.{TreeError}
use Rattle.tree_trait.specs.declared.calls.TreeError.TheVariants.{NotEmpty}
use Rattle.job_reports.specs.declared.report.Cause.{Cause}
use Rattle.job_reports.specs.declared.report.Cause.TheVariants.{Memory}
use Rattle.job_reports.specs.declared.report.Ending.{Ending}
use Rattle.job_reports.specs.declared.report.Ending.TheVariants.{Finished}
use Rattle.job_reports.specs.declared.report.Did.{Did}
use Rattle.job_reports.specs.declared.report.Did.TheVariants.{Removed, Kept, Skipped}
use Rattle.job_reports.specs.declared.report.Did.TheVariants.{Barrier, Troubled, Ended}
use Rattle.job_reports.specs.Paths.{folder_of}
use Rattle.job_reports.specs.Stops.{sync_answer, cause_of, named_path}
use Rattle.job_answers.specs.declared.replies.Replies.{Replies}
use Rattle.job_answers.specs.Skipping.{holds, is_passed_over, kind_in}
use Rattle.emptied_job.specs.declared.removal.RemovalStage.{RemovalStage}
use Rattle.emptied_job.specs.declared.removal.RemovalStage.TheVariants.{Remove, Sync, Finish, PassedOver}

-- the removal of an emptied folder, as it stands: what is to be done next
pub record Removing : Type 0 where
  pub path : Route
  pub stage : RemovalStage

-- the thing at this path lies in this folder
abbrev pub LiesIn : Route → Route → Type 0
LiesIn path folder = parent_of path ≡ Some folder

-- a removal, just begun
abbrev pub begun_removal : Route → Removing
begun_removal path = record { path = path; stage = Remove }

-- the next call is at a barrier: a sync
abbrev pub at_barrier : RemovalStage → Bool
at_barrier Remove = false
at_barrier Sync = true
at_barrier Finish = true
at_barrier PassedOver = true

-- the folder around has a name less, and no sync has brought that onto the disk
abbrev pub is_dirty : RemovalStage → Bool
is_dirty Remove = false
is_dirty Sync = true
is_dirty Finish = false
is_dirty PassedOver = false

-- nothing was changed or decided yet
abbrev pub is_fresh : RemovalStage → Bool
is_fresh Remove = true
is_fresh Sync = false
is_fresh Finish = false
is_fresh PassedOver = false

-- nothing is left to be done
abbrev pub is_done : RemovalStage → Bool
is_done Remove = false
is_done Sync = false
is_done Finish = true
is_done PassedOver = true

-- a folder that is skipped stays
abbrev pub skipped_stage : RemovalStage → RemovalStage
skipped_stage Remove = PassedOver
skipped_stage Sync = Sync
skipped_stage Finish = Finish
skipped_stage PassedOver = PassedOver

-- what comes after the sync
abbrev pub after_sync : RemovalStage → RemovalStage
after_sync Remove = Remove
after_sync Sync = Finish
after_sync Finish = Finish
after_sync PassedOver = PassedOver

-- What a step may report that goes on, and where the removal stands then. A trouble is told of whose kind
-- none is to be passed over, or there was no memory.
abbrev pub Tells : Replies → Removing → Did → Removing → Type 0
Tells replies r (Removed path) new = (r.stage ≡ Remove) × (path ≡ r.path) × (new ≡ record r { stage = Sync })
Tells replies r (Kept path) new =
    (r.stage ≡ Remove) × (path ≡ r.path) × (new ≡ record r { stage = PassedOver })
Tells replies r (Skipped path cause) new = (r.stage ≡ Remove) × (path ≡ r.path)
    × (holds replies.skips (kind_in cause) ≡ true) × (new ≡ record r { stage = PassedOver })
Tells replies r Barrier new = (r.stage ≡ Sync) × (new ≡ record r { stage = Finish })
Tells replies r (Troubled trouble) new =
    (trouble.barrier ≡ at_barrier r.stage) × (is_done r.stage ≡ false)
    × ((is_passed_over replies.skips trouble ≡ false) ⊎ (trouble.cause ≡ Memory)) × (new ≡ r)
Tells replies r (Ended Finished part) new = (is_done r.stage ≡ true) × (part ≡ None) × (new ≡ r)
Tells replies r did new = ⊥

-- What a last step may report: a sync that is owed is tried once, and the job ends as it was ordered.
abbrev pub Winds : Ending → Removing → Did → Removing → Type 0
Winds ending r Barrier new = (r.stage ≡ Sync) × (new ≡ record r { stage = Finish })
Winds ending r (Ended how part) new = (is_dirty r.stage ≡ false) × (how ≡ ending) × (part ≡ None) × (new ≡ r)
Winds ending r did new = ⊥

-- the removal was refused, or it found no memory; one that was refused since something lies in
-- the folder is no trouble
pub record RemoveStops (r : Removing) (cause : Cause) (path : Option Route) (log : CallLog)
    (after : Option CallLog) : Type 0 where
  pub error : TreeError
  pub trouble : error ≡ NotEmpty → ⊥
  pub cause_is : cause ≡ cause_of error
  pub path_is : path ≡ named_path error r.path
  pub called : Performs {A = Unit {0}} log (RemoveFolder r.path) (Err error) after

-- the sync was refused, or it found no memory
pub record SyncStops (r : Removing) (cause : Cause) (path : Option Route) (log : CallLog)
    (after : Option CallLog) : Type 0 where
  pub error : TreeError
  pub cause_is : cause ≡ cause_of error
  pub path_is : path ≡ named_path error (folder_of r.path)
  pub called : Performs {A = Unit {0}} log (SyncFolder (folder_of r.path)) (Err error) after

-- the trouble of a step, by where the removal stands; before any call there may be no memory for a report
abbrev pub Stops : Removing → RemovalStage → Cause → Option Route → CallLog → Option CallLog → Type 0
Stops r Remove cause path log after =
    ((cause ≡ Memory) × (path ≡ None) × (after ≡ Some log)) ⊎ RemoveStops r cause path log after
Stops r stage cause path log after = SyncStops r cause path log after

-- What a step says of the tree's calls. The folder was removed, or kept, since that was refused: something
-- lies in it. A sync was done; a trouble is the refusal of the next call; an end makes no call.
abbrev pub RemovalCalls : Removing → Did → CallLog → Option CallLog → Type 0
RemovalCalls r (Removed path) log after = Performs {A = Unit {0}} log (RemoveFolder r.path) (Ok tt) after
RemovalCalls r (Kept path) log after = Performs {A = Unit {0}} log (RemoveFolder r.path) (Err NotEmpty) after
RemovalCalls r (Skipped path cause) log after = (named : Option Route) × Stops r r.stage cause named log after
RemovalCalls r Barrier log after = Performs {A = Unit {0}} log (SyncFolder (folder_of r.path)) (Ok tt) after
RemovalCalls r (Troubled trouble) log after = Stops r r.stage trouble.cause trouble.path log after
RemovalCalls r (Ended ending part) log after = after ≡ Some log
RemovalCalls r did log after = ⊥

-- What a last step says of the tree's calls: the sync was tried, whatever it answered.
abbrev pub LastRemovalCalls : Removing → Did → CallLog → Option CallLog → Type 0
LastRemovalCalls r Barrier log after = (answer : Result (Unit {0}) TreeError)
    × Performs {A = Unit {0}} log (SyncFolder (folder_of r.path)) answer after
LastRemovalCalls r (Ended ending part) log after = after ≡ Some log
LastRemovalCalls r did log after = ⊥

-- what a last step tells of the folder: the refusal of its sync, if that was tried in vain
abbrev pub RemovalLeaves : Removing → Did → Option TreeError → CallLog → Option CallLog → Type 0
RemovalLeaves r Barrier left log after =
    Performs {A = Unit {0}} log (SyncFolder (folder_of r.path)) (sync_answer left) after
RemovalLeaves r did left log after = left ≡ None
