-- What a look at a tree says of what can be seen of it.
use Rattle.std.proofs.Common.{◌≡◌, ℕ, ◌≤◌, Bool, true, false, ◌&&◌, List, length, refl, sym, ◌∙◌, ap, subst, Option, Some, None, Result, Ok, arith}
use Rattle.std.specs.Prelude.{is_some, nat_le}
use Rattle.std.specs.Option.{option_map}
use Rattle.mc_text.specs.Routes.{Route, spelled_route}
use Rattle.tree_trait.specs.declared.calls.TreeError.{TreeError}
use Rattle.tree_trait.specs.declared.calls.Meta.{Meta}
use Rattle.tree_trait.specs.Calls.{Stat}
use Rattle.tree_trait.specs.FileSystem.{node, value, Value, View, visible_tree}
use Rattle.tree_trait.specs.Change.{CallLog, current}
use Rattle.tree_trait.specs.Answers.{IsMeta, IfKnown, Reads}
use Rattle.tree_trait.proofs.Walking.{stat-found}
use Rattle.ui_plans.specs.Choices.{HasSeenMode, first_of}
use Rattle.ui_plans.specs.Plans.{HasMode, MayAsk}
use Rattle.ui_plans.specs.Reading.{sight}

le_true : (n m : ℕ) → n ≤ m → nat_le n m ≡ true
le_true n m h = grind arith

both_hold : (a b : Bool) → a ≡ true → b ≡ true → true ≡ (a && b)
both_hold true b p q = sym q
both_hold false b p q = sym p

-- something stands where a look was answered, so it may be asked of where its path isn't too long
may_ask : (contents : Option CallLog) (path : Route) (meta : Meta) → length (spelled_route path) ≤ 4096
    → IfKnown contents (λ log. Reads log (Stat path) (let r : Result Meta TreeError = Ok meta in r) (IsMeta (current log) path)) → MayAsk (sight contents) path true
may_ask None path meta near reads = tt
may_ask (Some log) path meta near reads =
    let at = stat-found (current log) path (reads log refl).0 in
    both_hold _ _ (ap (λ o. is_some (option_map (λ i. value (node (current log) i)) o)) at) (le_true _ _ near)

-- a thing has the mode that a look at it tells
has_mode : (contents : Option CallLog) (path : Route) (meta : Meta)
    → IfKnown contents (λ log. Reads log (Stat path) (let r : Result Meta TreeError = Ok meta in r) (IsMeta (current log) path))
    → HasMode (sight contents) path meta.mode
has_mode None path meta reads = tt
has_mode (Some log) path meta reads =
    let r = reads log refl in
    let at = stat-found (current log) path r.0 in
    subst (λ (i : Option ℕ). option_map (λ (v : Value). v.mode) (option_map (λ i. value (node (current log) i)) i) ≡ Some meta.mode) (sym at)
    (ap (λ (mode : ℕ). Some mode) (sym r.1.mode))

-- what a look at a thing says of it
pub thing_look : (contents : Option CallLog) (wanted path : Route) (meta : Meta) → path ≡ wanted → length (spelled_route wanted) ≤ 4096
    → IfKnown contents (λ log. Reads log (Stat path) (let r : Result Meta TreeError = Ok meta in r) (IsMeta (current log) path))
    → MayAsk (sight contents) wanted true × HasMode (sight contents) wanted meta.mode
thing_look contents wanted path meta same close reads =
    let near : length (spelled_route path) ≤ 4096 = subst (λ (q : Route). length (spelled_route q) ≤ 4096) (sym same) close in (
      subst (λ q. MayAsk (sight contents) q true) same (may_ask contents path meta near reads),
      subst (λ q. HasMode (sight contents) q meta.mode) same (has_mode contents path meta reads),
    )

-- the mode of the first of some things, as the look at it tells
pub first_mode : (contents : Option CallLog) (paths : List Route) (path : Route) (meta : Meta) → first_of paths ≡ Some path
    → IfKnown contents (λ log. Reads log (Stat path) (let r : Result Meta TreeError = Ok meta in r) (IsMeta (current log) path))
    → HasSeenMode (sight contents) (first_of paths) meta.mode
first_mode contents paths path meta is reads = subst (λ (o : Option Route). HasSeenMode (sight contents) o meta.mode) (sym is) (has_mode contents path meta reads)
