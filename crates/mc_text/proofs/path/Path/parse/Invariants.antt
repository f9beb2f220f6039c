-- What the components that are left add to the names and faults found so far makes up those of the text.
use Rattle.std.proofs.Common.{◌≡◌, ◌≤◌, ◌+◌, ◌++◌, length, drop, reverse}
use Rattle.std.specs.Str.Iter.{split_steps}
use Rattle.std.specs.Str.Pattern.{FindsChar}
use Rattle.std.proofs.lemmas.Iterator.{YieldsList}
use Rattle.mc_text.specs.Routes.{components_of, bad_component, spelled_route}
use Rattle.mc_text.proofs.Components.{bytes_of, names_of}
use Rattle.mc_text.proofs.path.Path.parse.Given as goal

abbrev pub invariant-loop-component : goal.invariant-loop-component
invariant-loop-component l =
    -- the text begins with a slash, so its first component is empty
    let left = drop (length l.yielded + 1) (components_of l.text) in
    record {
      can_next : (goal.iterator-loop-component).can_next l.component-iterator;
      is_finite : (goal.iterator-loop-component).is_finite l.component-iterator;
      comes : YieldsList (split_steps FindsChar (λ a b. b ≡ a)) (λ x. x.now) l.component-iterator left;
      names : l.names.items ++ names_of left ≡ names_of (components_of l.text);
      fault : bad_component l.at left ≡ bad_component 0 (components_of l.text);
      bytes : l.at + bytes_of left ≡ length l.text + 1;
      spelled_bytes : l.spelled_bytes ≡ length (spelled_route (reverse l.names.items));
      within : l.spelled_bytes + 1 ≤ l.at;
    }
