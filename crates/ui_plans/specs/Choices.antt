-- What choosing the things that are selected comes to.
use Rattle.std.specs.Prelude.{◌≡◌, ⊤, ℕ, Bool, true, false, List, [], ◌∷◌}
use Rattle.std.specs.Prelude.{length, map, nat_lt, Option, Some, None}
use Rattle.std.specs.List.{list_any}
use Rattle.mc_text.specs.Routes.{Route, spelled_route}
use Rattle.tree_trait.specs.declared.calls.Meta.{Meta}
use Rattle.tree_trait.specs.FileSystem.{View}
use Rattle.session_entries.specs.declared.refusal.PlanError.TheVariants as plan
use Rattle.session_entries.specs.declared.refusal.Refusal.{Refusal}
use Rattle.session_entries.specs.declared.refusal.Refusal.TheVariants.{Plan, Tree}
use Rattle.panel_state.specs.Panels.{PanelState}
use Rattle.panel_state.specs.Selections.{selection}
use Rattle.ui_plans.specs.declared.choosing.Opens.{Opens}
use Rattle.ui_plans.specs.declared.choosing.Opens.TheVariants as opens
use Rattle.ui_plans.specs.declared.choosing.Choice.{Choice}
use Rattle.ui_plans.specs.declared.choosing.Choice.TheVariants.{NoSelection, TooLong, Things, Refused}
use Rattle.ui_plans.specs.declared.carrying.JobPlan.{JobPlan}
use Rattle.ui_plans.specs.declared.carrying.JobPlan.TheVariants.{Begins, Refuses}
use Rattle.ui_plans.specs.Plans.{HasMode, MayAsk}

-- the things of these names in a folder
abbrev pub paths_in : Route → List (List ℕ) → List Route
paths_in folder = map (λ name. name ∷ folder)

-- a path of more than 4,096 bytes
abbrev pub is_too_long : Route → Bool
is_too_long path = nat_lt 4096 (length (spelled_route path))

abbrev pub are_several : {X : Type 0} → List X → Bool
are_several [] = false
are_several (one ∷ []) = false
are_several (one ∷ other ∷ more) = true

-- what is looked at before a box asks: one thing, and of several the first, where a mode is asked for
abbrev pub looked_at : Opens → List Route → Option Route
looked_at box [] = None
looked_at box (path ∷ []) = Some path
looked_at opens.Delete (path ∷ other ∷ more) = None
looked_at (opens.SourceMask how) (path ∷ other ∷ more) = None
looked_at opens.Mode (path ∷ other ∷ more) = Some path

-- what was looked at has this mode
abbrev pub HasSeenMode : Option View → Option Route → ℕ → Type 0
HasSeenMode tree None mode = ⊤
HasSeenMode tree (Some path) mode = HasMode tree path mode

-- A box may ask of these things: of one, where something stands there; of several, whatever they are.
abbrev pub MayAskOf : Opens → Option View → List Route → ℕ → Type 0
MayAskOf box tree [] mode = ⊥
MayAskOf box tree (path ∷ []) mode = MayAsk tree path true × HasMode tree path mode
MayAskOf box tree (path ∷ other ∷ more) mode = (list_any is_too_long (path ∷ other ∷ more) ≡ false)
    × HasSeenMode tree (looked_at box (path ∷ other ∷ more)) mode

-- of these things: there are none; the path of one is too long; the box may ask of them; or
-- the look at one was refused
abbrev pub IsChoiceOf : Opens → Option View → List Route → Choice → Type 0
IsChoiceOf box tree paths NoSelection = paths ≡ []
IsChoiceOf box tree paths TooLong = list_any is_too_long paths ≡ true
IsChoiceOf box tree paths (Things chosen mode) = MayAskOf box tree paths mode × (chosen.paths ≡ paths)
IsChoiceOf box tree paths (Refused refused e) = looked_at box paths ≡ Some refused

-- of what is selected in a panel
abbrev pub IsChoice : Opens → Option View → PanelState → Choice → Type 0
IsChoice box tree p choice = IsChoiceOf box tree (paths_in p.folder (selection p)) choice

-- what was refused: nothing was selected, a path is too long, or the look at a thing
abbrev pub choice_refusals : Choice → List Refusal
choice_refusals NoSelection = Plan plan.NoSelection ∷ []
choice_refusals TooLong = Plan plan.TooLong ∷ []
choice_refusals (Things chosen mode) = []
choice_refusals (Refused path e) = Tree path e ∷ []

-- one thing, as a look at it told
abbrev pub IsThing : Route → Meta → Choice → Type 0
IsThing path meta (Things chosen mode) = (chosen.paths ≡ path ∷ []) × (mode ≡ meta.mode)
IsThing path meta NoSelection = ⊥
IsThing path meta TooLong = ⊥
IsThing path meta (Refused refused e) = ⊥

-- the first of some things was looked at
abbrev pub first_of : List Route → Option Route
first_of [] = None
first_of (path ∷ paths) = Some path

abbrev pub IsLookAtFirst : Option View → List Route → Choice → Type 0
IsLookAtFirst tree paths (Things chosen mode) =
    HasSeenMode tree (first_of paths) mode × (chosen.paths ≡ paths)
IsLookAtFirst tree paths (Refused refused e) = first_of paths ≡ Some refused
IsLookAtFirst tree paths NoSelection = ⊥
IsLookAtFirst tree paths TooLong = ⊥

-- the paths of things in a folder, where none is too long
abbrev pub ArePathsIn : Route → List (List ℕ) → Option (List Route) → Type 0
ArePathsIn folder names None = list_any is_too_long (paths_in folder names) ≡ true
ArePathsIn folder names (Some paths) =
    (list_any is_too_long (paths_in folder names) ≡ false) × (paths ≡ paths_in folder names)

-- what a plan was refused
abbrev pub plan_refusals : JobPlan → List Refusal
plan_refusals (Begins plan) = []
plan_refusals (Refuses refusal) = refusal ∷ []
