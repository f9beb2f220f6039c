-- How the folders that a tree's copy has open lie: each in the one around it, none with a name twice, and none that is still to be made.
use Rattle.std.specs.Prelude.{◌≡◌, ℕ, ⊤, List, [], ◌∷◌}
use Rattle.mc_text.specs.Routes.{Route}
use Rattle.tree_trait.specs.CrashImages.{Among}
use Rattle.copy_folders.specs.declared.stage.Stage.{Stage}
use Rattle.copy_folders.specs.declared.stage.Stage.TheVariants as at
use Rattle.tree_walk.specs.Places.{OpenFolder}
use Rattle.copy_folders.specs.Levels.{coming}
use Rattle.copy_folders.specs.declared.level.Level.{Level}

-- no folder lies at or below one of those around it, which are one level up each
abbrev pub AreNested : Route → List Level → Type 0
AreNested up [] = ⊤
AreNested up (outer ∷ around) = ((k : List ℕ) × (up ≡ k ∷ outer.copy.target)) × AreNested outer.copy.target around

-- no name comes twice
abbrev pub IsOnce : List (List ℕ) → Type 0
IsOnce [] = ⊤
IsOnce (name ∷ names) = (Among names name → ⊥) × IsOnce names

-- of an open folder
pub record IsPlaced (name : List ℕ) (place : OpenFolder) (stage : Stage) (around : List Level) : Type 0 where
  pub once : IsOnce (coming name place around)
  pub made : (mode : ℕ) → stage ≡ at.Make mode → ⊥

-- and of all
abbrev pub AreLaid : List ℕ → Level → List Level → Type 0
AreLaid name inner [] = IsPlaced name inner.names inner.copy.stage []
AreLaid name inner (outer ∷ around) = IsPlaced name inner.names inner.copy.stage (outer ∷ around) × ((k : List ℕ) × (inner.copy.target ≡ k ∷ outer.copy.target)) × AreLaid name outer around
