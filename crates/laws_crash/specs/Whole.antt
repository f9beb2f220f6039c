-- A thing that is moved stands whole at its source or at its target.
use Rattle.std.specs.Prelude.{◌≡◌, ◌⊎◌, ℕ, List, ◌∷◌, Option, Some}
use Rattle.mc_text.specs.Routes.{Route}
use Rattle.tree_trait.specs.declared.file_system.FileSystem.{FileSystem}
use Rattle.tree_trait.specs.FileSystem.{find}
use Rattle.tree_trait.specs.Change.{Change, Moves, CallLog, current, with_change}
use Rattle.laws_crash.specs.Possible.{IsImage}
use Rattle.laws_crash.specs.Guarded.{Marks, IsGuarded, IsSettledAt, IsQuiet, IsUnder, IsNaming}

-- in each image the one path leads to this node, or the other to that: where a thing was,
-- and where it is or its copy
abbrev pub IsWhole : CallLog → Route → ℕ → Route → ℕ → Type 0
IsWhole log source i target k = (image : FileSystem) → IsImage log image
    → (find image source ≡ Some i) ⊎ (find image target ≡ Some k)

pub record WholeLaw : Type 0 where
  -- before the work
  pub before : (log : CallLog) (source target : Route) (i k : ℕ) → IsSettledAt log source
      → find (current log) source ≡ Some i → IsWhole log source i target k
  -- a copy whose target is on the disk, whatever is done to the source then
  pub after : (log : CallLog) (source target : Route) (i k : ℕ) → IsSettledAt log target
      → find (current log) target ≡ Some k → IsWhole log source i target k
  -- one renaming, where what was moved and the way to where it goes are on the disk
  pub renamed : (marks : Marks) (log : CallLog) (f g i : ℕ) (old new : List ℕ) (source folder : Route)
      (replaced : Option ℕ) → IsGuarded marks log
      → IsNaming marks log (Moves f old g new i replaced) → IsSettledAt log source
      → find (current log) source ≡ Some i
      → IsSettledAt log folder → find (current log) folder ≡ Some g
      → (IsUnder log (Moves f old g new i replaced) folder → ⊥)
      → IsWhole (with_change log (Moves f old g new i replaced)) source i (new ∷ folder) i
  -- what is done elsewhere
  pub others : (marks : Marks) (log : CallLog) (c : Change) (source target : Route) (i k : ℕ)
      → IsGuarded marks log → IsNaming marks log c
      → (IsUnder log c source → ⊥) → (IsUnder log c target → ⊥) → IsWhole log source i target k
      → IsWhole (with_change log c) source i target k
  -- syncs, and writes to parts
  pub quiet : (marks : Marks) (log : CallLog) (c : Change) (source target : Route) (i k : ℕ)
      → IsQuiet marks log c → IsWhole log source i target k → IsWhole (with_change log c) source i target k
