-- What an answer may be besides that of the definition, and checks that follow one another.
use Rattle.std.specs.Prelude.{◌≡◌, ◌≢◌, ⊤, ℕ, ◌≤◌, Bool, true, false, ◌||◌}
use Rattle.std.specs.Prelude.{List, Option, Some, None, Result, Ok, Err, IfErr}
use Rattle.tree_trait.specs.declared.calls.TreeError.{TreeError}
use Rattle.tree_trait.specs.declared.calls.TreeError.TheVariants as tree
use Rattle.tree_trait.specs.Answers.{HasRisen}
use Rattle.resolving.specs.declared.error.ResolveError.{ResolveError}
use Rattle.resolving.specs.declared.error.ResolveError.TheVariants as resolving
use Rattle.resolving.specs.Errors.{CarriesCause}
use Rattle.mc_text.specs.Routes.{Route}
use Rattle.op_plan.specs.declared.sources.Sources.{Sources}
use Rattle.op_plan.specs.declared.error.PlanError.{PlanError}
use Rattle.op_plan.specs.declared.error.PlanError.TheVariants.{NoSelection, Nested, Source, BadMask}
use Rattle.op_plan.specs.declared.error.PlanError.TheVariants.{Target, TargetThere, SameFile, IntoItself}
use Rattle.op_plan.specs.declared.error.PlanError.TheVariants.{TwoToOne, BadLinkText, Memory}

abbrev pub is_tree_fault : TreeError → Bool
is_tree_fault tree.Fault = true
is_tree_fault e = false

abbrev pub is_walk_fault : ResolveError → Bool
is_walk_fault resolving.Fault = true
is_walk_fault e = false

-- the device failed
abbrev pub is_fault : PlanError → Bool
is_fault (Source path e) = is_tree_fault e
is_fault (Target e) = is_walk_fault e
is_fault e = false

-- no memory was left
abbrev pub is_memory : PlanError → Bool
is_memory Memory = true
is_memory e = false

-- why there is no path for a new thing: what was typed ends in no name, its folder isn't found, or
-- something stands there; or no memory was left
abbrev pub IsPlaceError : PlanError → Type 0
IsPlaceError BadMask = ⊤
IsPlaceError (Target e) = ⊤
IsPlaceError (TargetThere path) = ⊤
IsPlaceError Memory = ⊤
IsPlaceError NoSelection = ⊥
IsPlaceError (Nested one other) = ⊥
IsPlaceError (Source path e) = ⊥
IsPlaceError (SameFile path) = ⊥
IsPlaceError (IntoItself source target) = ⊥
IsPlaceError (TwoToOne one other) = ⊥
IsPlaceError BadLinkText = ⊥

-- an answer is the expected one, unless the device failed or no memory was left
abbrev pub Plans : {A : Type 0} → Result A PlanError → Result A PlanError → Type 0
Plans expected (Ok x) = expected ≡ Ok x
Plans expected (Err e) = (is_fault e || is_memory e) ≡ false → expected ≡ Err e

-- the sources of an answer are the expected ones, unless the device failed or no memory was left
abbrev pub PlansSources : Result (List Route) PlanError → Result Sources PlanError → Type 0
PlansSources expected (Ok left) = expected ≡ Ok left.paths
PlansSources expected (Err e) = (is_fault e || is_memory e) ≡ false → expected ≡ Err e

-- What a refusal says of a path is a cause: no want of memory, which is an error of its own, and in the
-- target's folder no fault, which names no path there.
abbrev pub CarriesPlanCause : PlanError → Type 0
CarriesPlanCause (Source path e) = e ≢ tree.Memory
CarriesPlanCause (Target e) = (CarriesCause e) × (e ≢ resolving.Memory)
CarriesPlanCause e = ⊤

-- the count of faults doesn't fall, a fault is answered only where it has risen, and what a refusal
-- says of a path is a cause
pub record HasPlanCause {A : Type 0} (before after : ℕ) (result : Result A PlanError) : Type 0 where
  pub later : before ≤ after
  pub risen : IfErr result (λ e. is_fault e ≡ true → HasRisen before after)
  pub carried : IfErr result CarriesPlanCause

-- a check, and what comes after it
abbrev pub and_then : {A B : Type 0} → Result A PlanError → (A → Result B PlanError) → Result B PlanError
and_then (Ok x) next = next x
and_then (Err e) next = Err e

-- what there is, or a bad mask
abbrev pub or_bad_mask : {A : Type 0} → Option A → Result A PlanError
or_bad_mask (Some x) = Ok x
or_bad_mask None = Err BadMask

-- nothing is refused, or this
abbrev pub unless : Option PlanError → Result (Unit {0}) PlanError
unless None = Ok tt
unless (Some e) = Err e
