-- What choosing one thing comes to, from the look at it.
use Rattle.std.proofs.Common.{◌≡◌, ◌≤◌, ℕ, true, List, [], ◌∷◌, length, sym, ◌∙◌, ap, subst, Option, IfOk, Result, Ok, Err}
use Rattle.mc_text.specs.declared.error.NoMemory.{NoMemory}
use Rattle.mc_text.specs.Routes.{Route, spelled_route}
use Rattle.tree_trait.specs.declared.calls.TreeError.{TreeError}
use Rattle.tree_trait.specs.declared.calls.Meta.{Meta}
use Rattle.tree_trait.specs.Calls.{Stat}
use Rattle.tree_trait.specs.Change.{CallLog, current}
use Rattle.tree_trait.specs.Answers.{IsMeta, IfKnown, Reads}
use Rattle.ui_plans.specs.declared.choosing.Choice.{Choice}
use Rattle.ui_plans.specs.declared.choosing.Choice.TheVariants.{NoSelection, TooLong, Things, Refused}
use Rattle.ui_plans.specs.declared.choosing.Opens.{Opens}
use Rattle.ui_plans.specs.Choices.{IsChoiceOf, IsThing, paths_in}
use Rattle.ui_plans.specs.Plans.{HasMode, MayAsk}
use Rattle.ui_plans.specs.Reading.{sight}
use Rattle.ui_plans.proofs.Sights.{thing_look}

module _ (box : Opens) (contents : Option CallLog) (folder : Route) where
  is_thing : (name : List ℕ) (path : Route) (meta : Meta) (choice : Choice) → path ≡ name ∷ folder
      → MayAsk (sight contents) (name ∷ folder) true × HasMode (sight contents) (name ∷ folder) meta.mode
      → IsThing path meta choice → IsChoiceOf box (sight contents) (paths_in folder (name ∷ [])) choice
  is_thing name path meta (Things chosen mode) is seen h =
      ((seen.0, subst (HasMode (sight contents) (name ∷ folder)) (sym h.1) seen.1), h.0 ∙ ap (λ (p : Route). p ∷ []) is)
  is_thing name path meta NoSelection is seen h = absurd h
  is_thing name path meta TooLong is seen h = absurd h
  is_thing name path meta (Refused refused e) is seen h = absurd h

  pub one_chosen : (name : List ℕ) (path : Route) (meta : Meta) (result : Result Choice NoMemory) → path ≡ name ∷ folder → length (spelled_route (name ∷ folder)) ≤ 4096
      → IfKnown contents (λ log. Reads log (Stat path) (let r : Result Meta TreeError = Ok meta in r) (IsMeta (current log) path))
      → IfOk result (IsThing path meta) → IfOk result (IsChoiceOf box (sight contents) (paths_in folder (name ∷ [])))
  one_chosen name path meta (Ok choice) is near reads h = is_thing name path meta choice is (thing_look contents (name ∷ folder) path meta is near reads) h
  one_chosen name path meta (Err e) is near reads h = tt
