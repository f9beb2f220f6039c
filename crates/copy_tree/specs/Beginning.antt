-- A copy that begins is in its place, and steady.
use Rattle.std.specs.Prelude.{ℕ, ◌∷◌}
use Rattle.job_reports.specs.declared.job.Pair.{Pair}
use Rattle.copy_tree.specs.declared.copy.Named.{Named}
use Rattle.copy_tree.specs.Falling.{IsSteady}
use Rattle.copy_tree.specs.InPlace.{IsInPlace}
use Rattle.copy_tree.specs.Standing.{begun_tree_copy}

-- the paths of what is copied, and of its copy
abbrev pub top_of : Named → Named → Pair
top_of source target = record { source = source.name ∷ source.folder; target = target.name ∷ target.folder }

abbrev pub BeginningLaw : Type 0
BeginningLaw = (job : ℕ) (source target : Named) → IsInPlace (top_of source target)
    (begun_tree_copy job source target) × IsSteady (begun_tree_copy job source target)
