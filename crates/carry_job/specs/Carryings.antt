-- Where the carrying of a thing stands, and how it goes on.
use Rattle.std.specs.Prelude.{◌≡◌, ⊤, Bool, true, false, not, Option, Some, None}
use Rattle.mc_text.specs.Routes.{Route, parent_of}
use Rattle.job_reports.specs.Paths.{folder_of}
use Rattle.job_reports.specs.declared.report.Did.{Did}
use Rattle.job_reports.specs.declared.report.Did.TheVariants as did
use Rattle.copy_file.specs.Copying as file
use Rattle.copy_file.specs.Copying.{Copying, Places}
use Rattle.copy_file.specs.declared.stage.FolderState.{FolderState}
use Rattle.copy_file.specs.declared.stage.FolderState.TheVariants.{Synced, Dirty}
use Rattle.copy_file.specs.declared.stage.Stage.{Stage as FileStage}
use Rattle.copy_file.specs.declared.stage.Stage.TheVariants as file_stage
use Rattle.copy_link.specs.LinkCopying as link
use Rattle.copy_link.specs.LinkCopying.{LinkCopying, is_removable}
use Rattle.copy_link.specs.declared.stage.Stage.{Stage as LinkStage}
use Rattle.copy_link.specs.declared.stage.Stage.TheVariants as link_stage
use Rattle.carry_job.specs.declared.stage.CarryStage.{CarryStage}
use Rattle.carry_job.specs.declared.stage.CarryStage.TheVariants.{Take, File, Link, SyncTarget, Remove}
use Rattle.carry_job.specs.declared.stage.CarryStage.TheVariants.{SyncSource, Finish, Settle, PassedOver}
use Rattle.carry_job.specs.declared.stage.CarryStage.TheVariants.{Stays}

-- the carrying of a thing, as it stands: the number of its job, source and target; and what is to be done
-- next
pub record Carrying : Type 0 where
  pub places : Places
  pub stage : CarryStage

abbrev pub carrying : Places → CarryStage → Carrying
carrying places stage = record { places = places; stage = stage }

-- the carrying just begun
abbrev pub begun_carrying : Places → Carrying
begun_carrying places = carrying places (Take Synced)

-- the part of a file's copy stands, and its removal was not tried in vain
abbrev pub has_part : FileStage → Bool
has_part (file_stage.Fill part facts done) = true
has_part (file_stage.Clean part follows) = true
has_part file_stage.Begin = false
has_part (file_stage.Left part) = false
has_part file_stage.Decided = false

-- a copy from this source to this target, whose part stands
pub record IsFileOf (p : Places) (f : Copying) : Type 0 where
  pub job : f.job ≡ p.job
  pub source : f.source ≡ p.source
  pub target : f.target ≡ p.target
  pub part : has_part f.stage ≡ true

pub record IsLinkOf (p : Places) (l : LinkCopying) : Type 0 where
  pub source : l.source ≡ p.source
  pub target : l.target ≡ p.target
  pub part : is_removable l.stage ≡ true

-- what is at work is the copy of the thing
abbrev pub IsOwn : Places → CarryStage → Type 0
IsOwn p (File f) = IsFileOf p f
IsOwn p (Link l) = IsLinkOf p l
IsOwn p (Take folder) = ⊤
IsOwn p SyncTarget = ⊤
IsOwn p Remove = ⊤
IsOwn p SyncSource = ⊤
IsOwn p Finish = ⊤
IsOwn p Settle = ⊤
IsOwn p PassedOver = ⊤
IsOwn p (Stays part) = ⊤

-- and no part is left that could not be removed, so a step can be made
abbrev pub IsGoing : Places → CarryStage → Type 0
IsGoing p (File f) = IsFileOf p f
IsGoing p (Link l) = IsLinkOf p l
IsGoing p (Take folder) = ⊤
IsGoing p SyncTarget = ⊤
IsGoing p Remove = ⊤
IsGoing p SyncSource = ⊤
IsGoing p Finish = ⊤
IsGoing p Settle = ⊤
IsGoing p PassedOver = ⊤
IsGoing p (Stays part) = ⊥

-- neither the source nor the target is the root
pub record IsHeld (p : Places) : Type 0 where
  pub source : parent_of p.source ≡ Some (folder_of p.source)
  pub target : parent_of p.target ≡ Some (folder_of p.target)

-- the part that stands
abbrev pub link_part : LinkCopying → Option Route
link_part l = Some l.part

abbrev pub part_at : CarryStage → Option Route
part_at (File f) = file.part_at f.stage
part_at (Link l) = link_part l
part_at (Stays part) = Some part
part_at (Take folder) = None
part_at SyncTarget = None
part_at Remove = None
part_at SyncSource = None
part_at Finish = None
part_at Settle = None
part_at PassedOver = None

-- the part that could not be removed
abbrev pub left_at : CarryStage → Option Route
left_at (Stays part) = Some part
left_at (Take folder) = None
left_at (File f) = None
left_at (Link l) = None
left_at SyncTarget = None
left_at Remove = None
left_at SyncSource = None
left_at Finish = None
left_at Settle = None
left_at PassedOver = None

-- the next call is at a barrier: the removal of a part, or a sync
abbrev pub at_barrier : CarryStage → Bool
at_barrier (Take folder) = false
at_barrier (File f) = file.at_barrier f.stage
at_barrier (Link l) = link.at_barrier l.stage
at_barrier SyncTarget = true
at_barrier Remove = false
at_barrier SyncSource = true
at_barrier Finish = true
at_barrier Settle = true
at_barrier PassedOver = true
at_barrier (Stays part) = true

-- the target's folder has a change of names that no sync has brought onto the disk
abbrev pub is_target_dirty : CarryStage → Bool
is_target_dirty (Take folder) = file.is_dirty folder
is_target_dirty (File f) = true
is_target_dirty (Link l) = true
is_target_dirty SyncTarget = true
is_target_dirty Settle = true
is_target_dirty Remove = false
is_target_dirty SyncSource = false
is_target_dirty Finish = false
is_target_dirty PassedOver = false
is_target_dirty (Stays part) = false

-- and the source's folder
abbrev pub is_source_dirty : CarryStage → Bool
is_source_dirty SyncSource = true
is_source_dirty (Take folder) = false
is_source_dirty (File f) = false
is_source_dirty (Link l) = false
is_source_dirty SyncTarget = false
is_source_dirty Settle = false
is_source_dirty Remove = false
is_source_dirty Finish = false
is_source_dirty PassedOver = false
is_source_dirty (Stays part) = false

-- the thing is not carried; a part was removed from the target's folder, or none was
abbrev pub passed : FolderState → CarryStage
passed Dirty = Settle
passed Synced = PassedOver

-- a part was removed, so that the copy is begun anew, or the thing is passed over
abbrev pub after_cleaning : FileStage → CarryStage
after_cleaning file_stage.Begin = Take Dirty
after_cleaning stage = Settle

abbrev pub after_link_cleaning : LinkStage → CarryStage
after_link_cleaning link_stage.Again = Take Dirty
after_link_cleaning stage = Settle

-- where the carrying stands after a step of a copy whose part stood
abbrev pub after_file : Did → Copying → CarryStage
after_file (did.Placed path) f = SyncTarget
after_file (did.Cleaned part) f = after_cleaning f.stage
after_file report f = File f

abbrev pub after_link : Did → LinkCopying → CarryStage
after_link (did.Placed path) l = SyncTarget
after_link (did.Cleaned part) l = after_link_cleaning l.stage
after_link report l = Link l

-- where it stands after the part was to be made
abbrev pub after_beginning : Did → Copying → FolderState → CarryStage
after_beginning (did.Began part) f folder = File f
after_beginning report f folder = Take folder

abbrev pub after_link_beginning : Did → LinkCopying → FolderState → CarryStage
after_link_beginning (did.Began part) l folder = Link l
after_link_beginning report l folder = Take folder

-- a copy is at work, whose part stands
abbrev pub has_copy : CarryStage → Bool
has_copy (File f) = true
has_copy (Link l) = true
has_copy (Take folder) = false
has_copy SyncTarget = false
has_copy Remove = false
has_copy SyncSource = false
has_copy Finish = false
has_copy Settle = false
has_copy PassedOver = false
has_copy (Stays part) = false

-- nothing was changed yet
abbrev pub is_fresh : CarryStage → Bool
is_fresh (Take folder) = not (file.is_dirty folder)
is_fresh (File f) = false
is_fresh (Link l) = false
is_fresh SyncTarget = false
is_fresh Remove = false
is_fresh SyncSource = false
is_fresh Finish = false
is_fresh Settle = false
is_fresh PassedOver = false
is_fresh (Stays part) = false

-- A thing that is skipped stays where it is. Where its copy stands already, both stand. (Of a part that
-- stands the copies say it, and at a sync nothing is skipped.)
abbrev pub skipped_stage : CarryStage → CarryStage
skipped_stage (Take folder) = passed folder
skipped_stage Remove = PassedOver
skipped_stage (File f) = File f
skipped_stage (Link l) = Link l
skipped_stage SyncTarget = SyncTarget
skipped_stage SyncSource = SyncSource
skipped_stage Finish = Finish
skipped_stage Settle = Settle
skipped_stage PassedOver = PassedOver
skipped_stage (Stays part) = Stays part

-- A thing whose part stands is copied anew; else the call that was refused is made again, alone.
abbrev pub taken_anew : CarryStage → CarryStage
taken_anew (File f) = File (record f { stage = file.taken_anew f.stage })
taken_anew (Link l) = Link (record l { stage = link.taken_anew l.stage })
taken_anew (Take folder) = Take folder
taken_anew SyncTarget = SyncTarget
taken_anew Remove = Remove
taken_anew SyncSource = SyncSource
taken_anew Finish = Finish
taken_anew Settle = Settle
taken_anew PassedOver = PassedOver
taken_anew (Stays part) = Stays part
