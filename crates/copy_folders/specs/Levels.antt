-- The folders that are open while a tree is copied: of each the names in it that are yet to be met, and the
-- copy of the folder itself.
use Rattle.std.specs.Prelude.{◌≡◌, ℕ, suc, zero, ◌+◌, ◌-◌, Bool, true, false, ◌||◌}
use Rattle.std.specs.Prelude.{List, [], ◌∷◌, map, if◌then◌else◌, Option, Some, None}
use Rattle.mc_text.specs.Routes.{Route}
use Rattle.tree_trait.specs.Change.{CallLog}
use Rattle.copy_folders.specs.declared.stage.FolderDid.{FolderDid}
use Rattle.copy_folders.specs.declared.stage.Stage.{Stage}
use Rattle.copy_folders.specs.declared.stage.Stage.TheVariants.{Make, Fill, Close, Done}
use Rattle.copy_folders.specs.declared.stage.NamesState.{NamesState}
use Rattle.copy_folders.specs.declared.stage.NamesState.TheVariants.{Dirty}
use Rattle.copy_folders.specs.FolderCopying.{FolderCopying, at_barrier, closing, is_dirty}
use Rattle.copy_folders.specs.FolderSteps.{StepsOn, at_sync}
use Rattle.tree_walk.specs.Places.{OpenFolder, Place, noted_folder, without_next}
use Rattle.copy_folders.specs.declared.level.Level.{Level}

-- the folder that is worked, those around it, the nearest first, and how many levels the copy may go down.
-- The outermost is the folder that holds what is copied.
pub record Levels : Type 0 where
  pub inner : Level
  pub around : List Level
  pub left : ℕ

-- the open folders, and for how many more there is room
pub record Stacked : Type 0 where
  pub levels : Levels
  pub spare : ℕ

abbrev pub level : OpenFolder → FolderCopying → Level
level names copy = record { names = names; copy = copy }

-- The names that are yet to be met in a folder that is open, as they are at its target: what is copied, the
-- one name of the outermost, may have another name there.
abbrev pub coming : List ℕ → OpenFolder → List Level → List (List ℕ)
coming top place [] = map (λ (met : List ℕ). top) place.names
coming top place (outer ∷ around) = place.names

-- What is copied is the only name in the outermost folder, and may lie 256 levels below
-- that, and one for itself.
abbrev pub outermost : OpenFolder → FolderCopying → Levels
outermost names copy = record { inner = level names copy; around = []; left = 257 }

-- the same, as the place of a walk over names
abbrev pub walked_place : Levels → Place
walked_place l =
    record { inner = l.inner.names; around = map (λ (o : Level). o.names) l.around; left = l.left }

abbrev pub with_names : OpenFolder → Levels → Levels
with_names names l = record l { inner = level names l.inner.copy }

abbrev pub with_copy : FolderCopying → Levels → Levels
with_copy copy l = record l { inner = level l.inner.names copy }

-- the next name is done with: it was copied, or it was left
abbrev pub passed_levels : Bool → Levels → Levels
passed_levels left l = with_names (noted_folder left (without_next l.inner.names)) l

-- all names that are left are passed over
abbrev pub emptied_levels : Levels → Levels
emptied_levels l = with_names (record { path = l.inner.names.path; names = []; spared = true }) l

-- a name in the target of the folder that is worked was changed
abbrev pub dirtied_levels : Bool → Levels → Levels
dirtied_levels changed l =
    with_copy (if changed then record l.inner.copy { names = Dirty } else l.inner.copy) l

-- its children are decided
abbrev pub levels_closed : Levels → Levels
levels_closed l = with_copy (record l.inner.copy { stage = closing l.inner.copy.stage }) l

-- the copy goes down into the folder that has the next name
abbrev pub entered_levels : OpenFolder → FolderCopying → Levels → Levels
entered_levels names copy l = record {
  inner = level names copy;
  around = level (without_next l.inner.names) l.inner.copy ∷ l.around;
  left = l.left - 1;
}

-- the folder was made, which changed a name in the one around it, and is gone into; else all stays
abbrev pub made_levels : Stage → OpenFolder → FolderCopying → Levels → Levels
made_levels (Fill owed) names copy l = entered_levels names copy (dirtied_levels true l)
made_levels (Make mode) names copy l = l
made_levels (Close owed) names copy l = l
made_levels Done names copy l = l

-- a folder still owes its target something: to be made, to be given its mode, or to be synced
abbrev pub owed_at : Stage → Bool → Bool
owed_at (Make mode) dirty = true
owed_at (Close (Some mode)) dirty = true
owed_at (Close None) dirty = dirty
owed_at (Fill owed) dirty = false
owed_at Done dirty = false

abbrev pub owes : Stage → NamesState → Bool
owes stage names = owed_at stage (is_dirty names)

-- the folder around the one that is worked is dirty: that one was made, and its name isn't on the disk yet
abbrev pub is_around_dirty : List Level → Bool
is_around_dirty [] = false
is_around_dirty (outer ∷ around) = is_dirty outer.copy.names

-- the target of that folder
abbrev pub target_around : List Level → Route
target_around [] = []
target_around (outer ∷ around) = outer.copy.target

-- the next call at the open folders is a sync: of the one around, or of the one that is worked, at its end
abbrev pub is_sync_next : Levels → Bool
is_sync_next l = is_around_dirty l.around || at_barrier l.inner.copy.stage

-- the nearest folder around was synced, or that was refused
pub record NearestSyncs (old new : List Level) (did : FolderDid) (calls : ℕ) (before after : Option CallLog)
    (faults faults_after : ℕ) : Type 0 where
  pub outer : Level
  pub around : List Level
  pub was : old ≡ outer ∷ around
  pub names : NamesState
  pub steps : StepsOn (at_sync outer.copy) (record (at_sync outer.copy) { names = names }) did calls before
      after faults faults_after
  pub stands : new ≡ level outer.names (record outer.copy { names = names }) ∷ around

-- the folder that is worked is done with, and the one around it is worked again
pub record IsLeft (old new : Levels) : Type 0 where
  pub was : old.around ≡ new.inner ∷ new.around
  pub levels : new.left ≡ old.left + 1

-- so many folders that are not dirty are left, one after the other
abbrev pub LeftAll : ℕ → Levels → Levels → Type 0
LeftAll zero old new = new ≡ old
LeftAll (suc n) old new = (mid : Levels) × LeftAll n old mid × (is_dirty mid.inner.copy.names ≡ false)
    × IsLeft mid new

-- the next folder that is dirty, or the outermost, where none is
abbrev pub LeavesClean : Levels → Levels → Bool → Type 0
LeavesClean old new true = ((n : ℕ) × LeftAll n old new) × (is_dirty new.inner.copy.names ≡ true)
LeavesClean old new false =
    ((n : ℕ) × LeftAll n old new) × (is_dirty new.inner.copy.names ≡ false) × (new.around ≡ [])
