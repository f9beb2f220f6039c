-- The order in which a link is copied: what a step may report where the copy stands,
-- and where it stands then.
use Rattle.std.specs.Prelude.{◌≡◌, ℕ, Bool, true, false}
use Rattle.mc_text.specs.Routes.{Route}
use Rattle.job_reports.specs.declared.report.Did.{Did}
use Rattle.job_reports.specs.declared.report.Did.TheVariants.{Began, Chunk, Placed, Removed, Made}
use Rattle.job_reports.specs.declared.report.Did.TheVariants.{Set, Kept, Skipped, Cleaned, Barrier}
use Rattle.job_reports.specs.declared.report.Did.TheVariants.{Asked, Merges, Moved, Troubled, Ended}
use Rattle.copy_file.specs.declared.stage.FolderState.{FolderState}
use Rattle.copy_file.specs.declared.stage.FolderState.TheVariants.{Synced, Dirty}
use Rattle.copy_link.specs.declared.stage.Next.{Next}
use Rattle.copy_link.specs.declared.stage.Next.TheVariants as next
use Rattle.copy_link.specs.declared.stage.Stage.{Stage}
use Rattle.copy_link.specs.declared.stage.Stage.TheVariants.{Make, Place, Clean, Left, Again, Decided}

-- the paths of a copy: where the link lies, where it is to come, and the part beside that
pub record LinkPlaces : Type 0 where
  pub source : Route
  pub target : Route
  pub part : Route

abbrev pub places : Route → Route → Route → LinkPlaces
places source target part = record { source = source; target = target; part = part }

-- the copy of a link, as it stands: its paths, what is to be done next, and whether the
-- target's folder is to be synced
pub record LinkCopying : Type 0 where
  pub source : Route
  pub target : Route
  pub part : Route
  pub stage : Stage
  pub folder : FolderState

abbrev pub copying : LinkPlaces → Stage → FolderState → LinkCopying
copying p stage folder =
    record { source = p.source; target = p.target; part = p.part; stage = stage; folder = folder }

-- the part stands
abbrev pub has_part : Stage → Bool
has_part Place = true
has_part (Clean follows) = true
has_part Left = true
has_part Make = false
has_part Again = false
has_part Decided = false

-- the part stands, and its removal was not tried in vain
abbrev pub is_removable : Stage → Bool
is_removable Place = true
is_removable (Clean follows) = true
is_removable Left = false
is_removable Make = false
is_removable Again = false
is_removable Decided = false

-- where the copy stands when its part was removed
abbrev pub after_clean : Next → Stage
after_clean next.Again = Again
after_clean next.Decided = Decided

-- the next call is at a barrier: the removal of a part, or the sync of a folder
abbrev pub at_barrier : Stage → Bool
at_barrier (Clean follows) = true
at_barrier Left = true
at_barrier Decided = true
at_barrier Make = false
at_barrier Place = false
at_barrier Again = false

-- the folder has a change of names that no sync has brought onto the disk
abbrev pub is_dirty : FolderState → Bool
is_dirty Dirty = true
is_dirty Synced = false

-- it has a next step: a link that is decided only where the folder is to be synced
abbrev pub is_ready : Stage → FolderState → Bool
is_ready Make folder = true
is_ready Place folder = true
is_ready (Clean follows) folder = true
is_ready Decided folder = is_dirty folder
is_ready Left folder = false
is_ready Again folder = false

-- What a step may report, and where the copy stands then. It makes the part, places it, and syncs the
-- folder; a part that isn't placed is removed.
abbrev pub Tells : LinkCopying → Did → LinkCopying → Type 0
Tells c (Began part) new =
    (c.stage ≡ Make) × (part ≡ c.part) × (new ≡ record c { stage = Place; folder = Dirty })
Tells c (Placed path) new =
    (c.stage ≡ Place) × (path ≡ c.target) × (new ≡ record c { stage = Decided; folder = Dirty })
Tells c (Cleaned part) new =
    (follows : Next) × (c.stage ≡ Clean follows) × (part ≡ c.part)
    × (new ≡ record c { stage = after_clean follows; folder = Dirty })
Tells c Barrier new = (c.stage ≡ Decided) × (is_dirty c.folder ≡ true) × (new ≡ record c { folder = Synced })
Tells c (Troubled trouble) new = (trouble.barrier ≡ at_barrier c.stage) × (new ≡ c)
Tells c (Chunk count) new = ⊥
Tells c (Set path) new = ⊥
Tells c (Removed path) new = ⊥
Tells c (Made made) new = ⊥
Tells c (Kept path) new = ⊥
Tells c (Asked question) new = ⊥
Tells c (Merges transfer pair names) new = ⊥
Tells c (Moved pair) new = ⊥
Tells c (Skipped path cause) new = ⊥
Tells c (Ended ending part) new = ⊥

-- a link that is skipped is not copied; a part that stands is to be removed
abbrev pub skipped_stage : Stage → Stage
skipped_stage Make = Decided
skipped_stage Place = Clean next.Decided
skipped_stage (Clean follows) = Clean next.Decided
skipped_stage Left = Left
skipped_stage Again = Decided
skipped_stage Decided = Decided

-- a link that isn't placed is taken up anew, when its part was removed; what was placed or skipped stays so
abbrev pub taken_anew : Stage → Stage
taken_anew Make = Again
taken_anew Place = Clean next.Again
taken_anew (Clean follows) = Clean follows
taken_anew Left = Left
taken_anew Again = Again
taken_anew Decided = Decided

-- the most steps that the copy makes yet, if none is refused
abbrev pub steps_left : Stage → FolderState → ℕ
steps_left Make folder = 4
steps_left Place folder = 3
steps_left (Clean follows) folder = 2
steps_left Decided Dirty = 1
steps_left Decided Synced = 0
steps_left Left folder = 0
steps_left Again folder = 0
