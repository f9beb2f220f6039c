-- Where the components that are left lead from the folder reached is where the whole word leads.
use Rattle.std.proofs.Common.{◌≡◌, drop, length, Some}
use Rattle.std.specs.Prelude.{not, filter}
use Rattle.std.specs.Str.Iter.{split_steps}
use Rattle.std.specs.Str.Pattern.{FindsChar}
use Rattle.std.proofs.lemmas.Iterator.{YieldsList}
use Rattle.mc_text.specs.Routes.{components_of}
use Rattle.main_words.specs.Folders.{below, folder_named, is_passed}
use Rattle.main_words.proofs.folders.folder_named.Given as goal

abbrev pub invariant-loop-component : goal.invariant-loop-component
invariant-loop-component l =
    let left = drop (length l.yielded) (components_of l.word) in
    record {
      can_next : (goal.iterator-loop-component).can_next l.component-iterator;
      is_finite : (goal.iterator-loop-component).is_finite l.component-iterator;
      comes : YieldsList (split_steps FindsChar (λ a b. b ≡ a)) (λ x. x.now) l.component-iterator left;
      leads : below (Some l.folder) (filter (λ component. not (is_passed component)) left) ≡ folder_named l.started l.word;
    }
