-- Where the copy of a thing with all that lies in it stands, as a job works it.
use Rattle.std.specs.Prelude.{◌≡◌, ℕ, ◌||◌, Bool, true, false, List, []}
use Rattle.std.specs.Prelude.{◌∷◌, if◌then◌else◌, Option, Some, None}
use Rattle.mc_text.specs.Routes.{Route}
use Rattle.job_reports.specs.declared.job.Pair.{Pair}
use Rattle.job_reports.specs.Paths.{folder_of}
use Rattle.copy_file.specs.Copying as file
use Rattle.copy_folders.specs.declared.stage.Stage.{Stage}
use Rattle.copy_folders.specs.declared.stage.Stage.TheVariants.{Make, Fill, Close, Done}
use Rattle.copy_link.specs.LinkCopying as link
use Rattle.copy_tree.specs.declared.copy.Named.{Named}
use Rattle.copy_tree.specs.declared.item.ItemAtWork.{ItemAtWork}
use Rattle.copy_tree.specs.declared.item.ItemAtWork.TheVariants.{Next, File, Link, Stays}
use Rattle.copy_tree.specs.Ending.{IsWindable}
use Rattle.copy_tree.specs.InPlace.{IsInPlace}
use Rattle.copy_folders.specs.Levels.{Levels, is_around_dirty}
use Rattle.copy_tree.specs.Skipping.{retried_copy}
use Rattle.copy_tree.specs.Standing.{Seen, begun_tree_copy}
use Rattle.copy_tree.specs.TreeCopySteps.{IsWorkable}
use Rattle.copy_tree.specs.WorkedFolder.{IsInWorked}
use Rattle.job_unsynced.specs.Folders.{is_of}

-- what is copied, and where to; and how far the machine is
pub record SubtreeCopying : Type 0 where
  pub top : Pair
  pub at : Seen

-- a thing by its folder and its name
abbrev pub named_of : Route → Named
named_of [] = record { folder = []; name = [] }
named_of (name ∷ folder) = record { folder = folder; name = name }

-- the copy just begun
abbrev pub begun_subtree_copy : ℕ → Pair → SubtreeCopying
begun_subtree_copy job top =
    record { top = top; at = begun_tree_copy job (named_of top.source) (named_of top.target) }

-- What holds of each copy, whatever it has come to: it keeps to its place; what is at work lies in the
-- folder that is worked; and a last step can be made.
pub record IsHeld (top : Pair) (folder : Route) (c : Seen) : Type 0 where
  pub holds : folder ≡ folder_of top.target
  pub in_place : IsInPlace top c
  pub in_worked : IsInWorked c
  pub windable : IsWindable c.item

-- a step can be made: no last one was made yet
abbrev pub IsGoing : SubtreeCopying → Type 0
IsGoing c = IsWorkable c.at.item

-- what was refused is taken anew
abbrev pub retries : SubtreeCopying → SubtreeCopying
retries c = record c { at = retried_copy c.at }

-- a folder in which it may change names
abbrev pub is_own : SubtreeCopying → Route → Bool
is_own c kept = is_of (folder_of c.top.target) c.top.target kept

-- the part that stands
abbrev pub part_of : ItemAtWork → Option Route
part_of Next = None
part_of (File f) = file.part_at f.stage
part_of (Link l) = if link.has_part l.stage then Some l.part else None
part_of (Stays part) = Some part

-- at the end of a folder nothing can be skipped but the mode that it is to be given
abbrev pub barrier_at_end : Stage → Bool
barrier_at_end (Close (Some mode)) = false
barrier_at_end (Close None) = true
barrier_at_end (Fill owed) = true
barrier_at_end (Make mode) = true
barrier_at_end Done = true

abbrev pub barrier_at_name : List (List ℕ) → Stage → Bool
barrier_at_name [] stage = barrier_at_end stage
barrier_at_name (name ∷ names) stage = false

-- A folder that was just made is first brought onto the disk. Then a name that is next can be skipped.
abbrev pub barrier_in : Levels → Bool
barrier_in l = is_around_dirty l.around || barrier_at_name l.inner.names.names l.inner.copy.stage

abbrev pub barrier_at : ItemAtWork → Levels → Bool
barrier_at Next l = barrier_in l
barrier_at (File f) l = file.at_barrier f.stage
barrier_at (Link k) l = link.at_barrier k.stage
barrier_at (Stays part) l = true

-- nothing can be skipped: a part is to be removed, or a folder synced
abbrev pub at_barrier : Seen → Bool
at_barrier c = barrier_at c.item c.levels
