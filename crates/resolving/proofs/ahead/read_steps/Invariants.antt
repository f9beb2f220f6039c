-- What was read of the text, and what the components that are left add, make up the whole.
use Rattle.std.proofs.Common.{◌≡◌, ◌++◌, length, drop}
use Rattle.std.specs.Prelude.{not, filter}
use Rattle.std.specs.Str.Iter.{split_steps}
use Rattle.std.specs.Str.Pattern.{FindsChar}
use Rattle.std.proofs.lemmas.Iterator.{YieldsList}
use Rattle.mc_text.specs.Routes.{components_of}
use Rattle.resolving.specs.Resolution.{is_passed, steps_of}
use Rattle.resolving.proofs.ahead.read_steps.Given as goal

abbrev pub invariant-loop-component : goal.invariant-loop-component
invariant-loop-component l =
    let left = drop (length l.yielded) (components_of l.text) in
    record {
      can_next : (goal.iterator-loop-component).can_next l.component-iterator;
      is_finite : (goal.iterator-loop-component).is_finite l.component-iterator;
      comes : YieldsList (split_steps FindsChar (λ a b. b ≡ a)) (λ x. x.now) l.component-iterator left;
      steps : l.steps.items ++ filter (λ component. not (is_passed component)) left ≡ steps_of l.text;
    }
