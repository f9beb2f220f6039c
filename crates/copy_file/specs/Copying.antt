-- The order in which a file is copied: what a step may report where the copy stands,
-- and where it stands then.
use Rattle.std.specs.Prelude.{◌≡◌, ℕ, ◌+◌, ◌-◌, ◌^◌, ◌≤◌, ⊤, Bool, true, false, not, Option, Some, None}
use Rattle.mc_text.specs.Routes.{Route}
use Rattle.job_reports.specs.declared.report.Ending.TheVariants.{Finished}
use Rattle.job_reports.specs.declared.report.Did.{Did}
use Rattle.job_reports.specs.declared.report.Did.TheVariants.{Began, Chunk, Placed, Removed, Made}
use Rattle.job_reports.specs.declared.report.Did.TheVariants.{Set, Kept, Skipped, Cleaned, Barrier}
use Rattle.job_reports.specs.declared.report.Did.TheVariants.{Asked, Merges, Moved, Troubled, Ended}
use Rattle.copy_file.specs.declared.stage.SourceFacts.{SourceFacts}
use Rattle.copy_file.specs.declared.stage.Next.{Next}
use Rattle.copy_file.specs.declared.stage.Next.TheVariants as next
use Rattle.copy_file.specs.declared.stage.Stage.{Stage}
use Rattle.copy_file.specs.declared.stage.Stage.TheVariants.{Begin, Fill, Clean, Left, Decided}
use Rattle.copy_file.specs.declared.stage.FolderState.{FolderState}
use Rattle.copy_file.specs.declared.stage.FolderState.TheVariants.{Synced, Dirty}

-- a copy's places: the number of its job, the source and the target
pub record Places : Type 0 where
  pub job : ℕ
  pub source : Route
  pub target : Route

abbrev pub places : ℕ → Route → Route → Places
places job source target = record { job = job; source = source; target = target }

-- the copy of a file, as it stands: its places, what is to be done next, and whether the
-- target's folder is to be synced
pub record Copying : Type 0 where
  pub job : ℕ
  pub source : Route
  pub target : Route
  pub stage : Stage
  pub folder : FolderState

-- the copy of the file at these places
abbrev pub copying : Places → Stage → FolderState → Copying
copying p stage folder =
    record { job = p.job; source = p.source; target = p.target; stage = stage; folder = folder }

abbrev pub places_of : Copying → Places
places_of c = places c.job c.source c.target

-- the copy just begun
abbrev pub begun_copy : ℕ → Route → Route → Copying
begun_copy job source target = copying (places job source target) Begin Synced

-- a part that is filled has no more bytes than its source was said to have, a file holds at most
-- 2^63 of them, and a mode has twelve bits; where a part stands whose removal was not tried in vain,
-- the folder is to be synced
abbrev pub IsSound : Stage → FolderState → Type 0
IsSound (Fill part facts done) folder =
    (done ≤ facts.size) × (facts.size ≤ 2 ^ 63) × (facts.mode ≤ 0o7777) × (folder ≡ Dirty)
IsSound (Clean part follows) folder = folder ≡ Dirty
IsSound Begin folder = ⊤
IsSound (Left part) folder = ⊤
IsSound Decided folder = ⊤

-- the part that stands
abbrev pub part_at : Stage → Option Route
part_at (Fill part facts done) = Some part
part_at (Clean part follows) = Some part
part_at (Left part) = Some part
part_at Begin = None
part_at Decided = None

-- where the copy stands when its part was removed
abbrev pub after_clean : Next → Stage
after_clean next.Begin = Begin
after_clean next.Decided = Decided

-- the next call is at a barrier: the removal of a part, or the sync of a folder
abbrev pub at_barrier : Stage → Bool
at_barrier (Clean part follows) = true
at_barrier Decided = true
at_barrier (Left part) = true
at_barrier Begin = false
at_barrier (Fill part facts done) = false

-- the folder has a change of names that no sync has brought onto the disk
abbrev pub is_dirty : FolderState → Bool
is_dirty Dirty = true
is_dirty Synced = false

-- a copy that has changed nothing yet
abbrev pub is_fresh : Stage → FolderState → Bool
is_fresh Begin folder = not (is_dirty folder)
is_fresh (Fill part facts done) folder = false
is_fresh (Clean part follows) folder = false
is_fresh (Left part) folder = false
is_fresh Decided folder = false

-- at most so many bytes go to the part in one step
abbrev pub chunk_bytes : ℕ
chunk_bytes = 65536

-- What a step may report that goes on, and where the copy stands then. It makes the part, fills it, places
-- it when it is full, syncs the folder, and only then is finished.
abbrev pub Tells : Copying → Did → Copying → Type 0
Tells c (Began part) new =
    (c.stage ≡ Begin)
    × ((facts : SourceFacts) × (new ≡ record c { stage = Fill part facts 0; folder = Dirty }))
Tells c (Chunk count) new =
    (part : Route) × (facts : SourceFacts) × (done : ℕ) × (c.stage ≡ Fill part facts done)
    × (1 ≤ count) × (count ≤ chunk_bytes) × (done + count ≤ facts.size)
    × (new ≡ record c { stage = Fill part facts (done + count) })
Tells c (Placed path) new =
    (part : Route) × (facts : SourceFacts) × (c.stage ≡ Fill part facts facts.size) × (path ≡ c.target)
    × (new ≡ record c { stage = Decided })
Tells c (Cleaned part) new =
    (follows : Next) × (c.stage ≡ Clean part follows) × (new ≡ record c { stage = after_clean follows })
Tells c Barrier new = (c.stage ≡ Decided) × (c.folder ≡ Dirty) × (new ≡ record c { folder = Synced })
Tells c (Troubled trouble) new = (trouble.barrier ≡ at_barrier c.stage) × (new ≡ c)
Tells c (Ended Finished part) new = (c.stage ≡ Decided) × (c.folder ≡ Synced) × (part ≡ None) × (new ≡ c)
Tells c (Ended ending part) new = ⊥
Tells c (Removed path) new = ⊥
Tells c (Made made) new = ⊥
Tells c (Set path) new = ⊥
Tells c (Kept path) new = ⊥
Tells c (Asked question) new = ⊥
Tells c (Merges transfer pair names) new = ⊥
Tells c (Moved pair) new = ⊥
Tells c (Skipped path cause) new = ⊥

-- a file that is skipped is not copied; a part that stands is to be removed
abbrev pub skipped_stage : Stage → Stage
skipped_stage Begin = Decided
skipped_stage (Fill part facts done) = Clean part next.Decided
skipped_stage (Clean part follows) = Clean part next.Decided
skipped_stage (Left part) = Left part
skipped_stage Decided = Decided

-- a copy that is taken anew begins at the first byte, when its part was removed; what was
-- placed or skipped stays so
abbrev pub taken_anew : Stage → Stage
taken_anew Begin = Begin
taken_anew (Fill part facts done) = Clean part next.Begin
taken_anew (Clean part follows) = Clean part follows
taken_anew (Left part) = Left part
taken_anew Decided = Decided

-- the most steps that a copy whose part stands, or that is decided, makes yet, if none is refused
abbrev pub steps_left : Stage → FolderState → ℕ
steps_left Begin folder = 0
steps_left (Fill part facts done) folder = (facts.size - done) + 3
steps_left (Clean part follows) folder = 3
steps_left (Left part) folder = 0
steps_left Decided Dirty = 2
steps_left Decided Synced = 1
