-- A copy that begins is in its place, and steady.
use Rattle.std.proofs.Common.{◌≡◌, ℕ, refl, ap, inl, inr, List, [], ◌∷◌, arith}
use Rattle.tree_trait.specs.CrashImages.{Among}
use Rattle.copy_tree.specs.declared.copy.Named.{Named}
use Rattle.copy_tree.specs.Beginning.{BeginningLaw}

only : (source : Named) (name : List ℕ) → Among (source.name ∷ []) name → name ∷ source.folder ≡ source.name ∷ source.folder
only source name (inl is) = ap (λ (n : List ℕ). n ∷ source.folder) is
only source name (inr none) = absurd none

pub beginning_law : BeginningLaw
beginning_law job source target = (
  record { name = refl; levels = record { from = refl; to = refl; keeps = refl; only = λ name is. only source name is; one = omega arith }; alone = tt; item = tt },
  record { named = tt; made = refl },
)
