-- Which refusals come of a failure of the tree.
use Rattle.std.specs.Prelude.{Bool, true, false, ◌||◌, List, [], ◌∷◌}
use Rattle.tree_trait.specs.declared.calls.TreeError.{TreeError}
use Rattle.tree_trait.specs.declared.calls.TreeError.TheVariants.{Fault}
use Rattle.resolving.specs.declared.error.ResolveError.{ResolveError}
use Rattle.resolving.specs.declared.error.ResolveError.TheVariants as resolve
use Rattle.session_entries.specs.declared.refusal.PlanError.{PlanError}
use Rattle.session_entries.specs.declared.refusal.PlanError.TheVariants.{Source, Target}
use Rattle.session_entries.specs.declared.refusal.Refusal.{Refusal}
use Rattle.session_entries.specs.declared.refusal.Refusal.TheVariants.{Tree, Read, Resolve}
use Rattle.session_entries.specs.declared.refusal.Refusal.TheVariants.{Plan, Begin, Typed}

-- the tree failed at a look or a reading that was refused
abbrev pub is_fault : TreeError → Bool
is_fault Fault = true
is_fault e = false

-- the tree failed at a folder that was to be read, or on the way to it
abbrev pub is_resolve_fault : ResolveError → Bool
is_resolve_fault resolve.Fault = true
is_resolve_fault e = false

-- the tree failed at the source or the target of a plan, or on the way to it
abbrev pub is_plan_fault : PlanError → Bool
is_plan_fault (Source path e) = is_fault e
is_plan_fault (Target e) = is_resolve_fault e
is_plan_fault error = false

abbrev pub has_fault : List Refusal → Bool
has_fault [] = false
has_fault (Tree path e ∷ more) = is_fault e || has_fault more
has_fault (Read path e ∷ more) = is_fault e || has_fault more
has_fault (Resolve e ∷ more) = is_resolve_fault e || has_fault more
has_fault (Plan error ∷ more) = is_plan_fault error || has_fault more
has_fault (Begin error ∷ more) = has_fault more
has_fault (Typed error ∷ more) = has_fault more
