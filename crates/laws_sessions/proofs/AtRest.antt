-- Nothing waits of all that lies at or below a path: no name in it, no mode of it, no folder of it was changed since its sync, and no renaming joins one with another.
use Rattle.std.specs.Prelude.{◌≡◌, ℕ, false, List, ◌∷◌, ◌++◌, Some, None}
use Rattle.mc_text.specs.Routes.{Route}
use Rattle.tree_trait.specs.FileSystem.{find}
use Rattle.tree_trait.specs.Change.{CallLog, current}
use Rattle.laws_crash.specs.Guarded.{Marks}
use Rattle.laws_sessions.specs.Doubt.{is_joint, name_waits}
use Rattle.laws_sessions.proofs.Restless.{is_restless}

pub record RestsBelow (marks : Marks) (log : CallLog) (top : Route) : Type 0 where
  pub names : (name : List ℕ) (rest : Route) → name_waits log (name ∷ rest ++ top) ≡ false
  pub modes : (rest : Route) (i : ℕ) → find (current log) (rest ++ top) ≡ Some i → marks.modes i ≡ None
  pub still : (rest : Route) (i : ℕ) → find (current log) (rest ++ top) ≡ Some i → is_restless i log.changes ≡ false
  pub apart : (rest : Route) (i other : ℕ) → find (current log) (rest ++ top) ≡ Some i → is_joint i other log.changes ≡ false
