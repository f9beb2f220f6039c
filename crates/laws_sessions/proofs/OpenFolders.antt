-- What is known of the folders that the copy of a tree has open: each is filled, but for the innermost, which may just have been made. A folder
-- that is filled stands on the disk, and no change waits of a name that is yet to be met in it (`IsFilling` of `laws_sessions`); of one that was just
-- made only the second is known (`IsNew`).
use Rattle.std.specs.Prelude.{ℕ, ⊤, Bool, true, false, List, [], ◌∷◌}
use Rattle.mc_text.specs.Routes.{Route}
use Rattle.tree_trait.specs.Change.{CallLog}
use Rattle.copy_folders.specs.declared.level.Level.{Level}
use Rattle.copy_folders.specs.Levels.{Levels, coming, is_around_dirty, passed_levels}
use Rattle.copy_tree.specs.Standing.{Seen}
use Rattle.laws_sessions.proofs.FilledFolders.{IsFilling, IsNew}

-- the names that are yet to be met in the folder that is worked (`ahead` of `copy_tree`), once the next one is done with
abbrev pub later : Seen → List (List ℕ)
later c = (let p : Levels = passed_levels false c.levels in coming c.name p.inner.names p.around)

-- each folder around is filled
abbrev pub AroundKnow : CallLog → List ℕ → List Level → Type 0
AroundKnow log name [] = ⊤
AroundKnow log name (outer ∷ around) = IsFilling log outer.copy.target (coming name outer.names around) × AroundKnow log name around

-- the innermost is filled or, where the one around it is dirty, was just made
abbrev pub InnerKnows : Bool → CallLog → Route → List (List ℕ) → Type 0
InnerKnows true log up names = IsNew log up names
InnerKnows false log up names = IsFilling log up names

-- What is known of the open folders. What is copied has this name at its target.
pub record LevelsKnow (log : CallLog) (name : List ℕ) (l : Levels) : Type 0 where
  pub inner : InnerKnows (is_around_dirty l.around) log l.inner.copy.target (coming name l.inner.names l.around)
  pub around : AroundKnow log name l.around
