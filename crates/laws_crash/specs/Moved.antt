-- What a change leaves of a thing that was moved, a folder with all that lies in it: where it goes through
-- neither path, nor through one on the way to either, or below it, no crash finds less of it than before.
use Rattle.std.specs.Prelude.{◌≡◌, ◌⊎◌, ℕ, List, ◌∷◌, ◌++◌, Option}
use Rattle.mc_text.specs.Routes.{Route}
use Rattle.tree_trait.specs.declared.file_system.FileSystem.{FileSystem}
use Rattle.tree_trait.specs.FileSystem.{find}
use Rattle.tree_trait.specs.Change.{Change, CallLog, current, with_change}
use Rattle.laws_crash.specs.Possible.{IsImage}
use Rattle.laws_crash.specs.Guarded.{IsUnder}

-- the path is one of these two, lies below it, or leads to it
abbrev pub Meets : Route → Route → Type 0
Meets top path = ((rest : Route) × (path ≡ rest ++ top)) ⊎ ((rest : Route) × (top ≡ rest ++ path))

-- the change goes through no such path
abbrev pub SparesPath : CallLog → Change → Route → Type 0
SparesPath log c top = (path : Route) → Meets top path → IsUnder log c path → ⊥

-- In this image the way to the folder is as it is now, and under the name there stand the nodes that lay so:
-- `lay` has the node of the thing itself, and of each path below it.
pub record Lies (log : CallLog) (image : FileSystem) (name : List ℕ) (folder : Route)
    (lay : Route → Option ℕ) : Type 0 where
  pub way : (rest up : Route) → folder ≡ rest ++ up → find image up ≡ find (current log) up
  pub all : (rest : Route) → find image (rest ++ name ∷ folder) ≡ lay rest

-- It stands under the new name now, and in each image under the one or under the other.
pub record IsMoved (log : CallLog) (old : List ℕ) (from : Route) (new : List ℕ) (to : Route)
    (lay : Route → Option ℕ) : Type 0 where
  pub there : (rest : Route) → find (current log) (rest ++ new ∷ to) ≡ lay rest
  pub images : (image : FileSystem) → IsImage log image
      → Lies log image old from lay ⊎ Lies log image new to lay

-- A change that meets neither path keeps it so, also a sync, whatever else waits.
abbrev pub MovedLaw : Type 0
MovedLaw = (log : CallLog) (c : Change) (old : List ℕ) (from : Route) (new : List ℕ) (to : Route)
    (lay : Route → Option ℕ) → SparesPath log c (old ∷ from) → SparesPath log c (new ∷ to)
    → IsMoved log old from new to lay → IsMoved (with_change log c) old from new to lay
