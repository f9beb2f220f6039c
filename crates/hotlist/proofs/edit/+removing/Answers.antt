use Rattle.std.proofs.Common.{◌≡◌, ◌<◌, ◌≤◌, ◌+◌, ◌∷◌, [], Option, Some, None, MatchOption, IfNone, IfSome, length, drop, get_or, ap, ◌∙◌, sym, subst, arith}
use Rattle.std.proofs.lemmas.Grind.{common_steps}
use Rattle.std.proofs.lemmas.List.{nil_from_length}
use Rattle.hotlist.specs.HotLists.{HotList, NoMore, before, list_of}
use Rattle.hotlist.specs.Places.{list_without_item, changed_at, from_position, item_at, inside}
use Rattle.hotlist.proofs.PlaceLemmas.{from_position-drop, item_at-here, item_at-below}
use Rattle.hotlist.proofs.EditLemmas.{changed_at-set, changed_at-none, list_of-set, without_position-remove, removed-past, removed-below}
use Rattle.hotlist.proofs.edit.+removing.Goals as goal

by_option : {A P Q : Type 0} {P' Q' : A → Type 0} (r : Option A) → MatchOption r P P' → (P → Q) → ((x : A) → P' x → Q' x) → MatchOption r Q Q'
by_option None found none some = none found
by_option (Some x) found none some = some x found

by_none : {A P Q : Type 0} (r : Option A) → IfNone r P → (P → Q) → IfNone r Q
by_none None found none = none found
by_none (Some x) found none = tt

by_some : {A : Type 0} {P Q : A → Type 0} (r : Option A) → IfSome r P → ((x : A) → P x → Q x) → IfSome r Q
by_some None found some = tt
by_some (Some x) found some = some x found

pub remove_in-returns-then-position-len-clause-removed : goal.remove_in-returns-then-position-len-clause-removed
remove_in-returns-then-position-len-clause-removed t c =
    let items = c.args.items.now.items in
    let place : c.args.place.now ≡ c.in-Some.position.now ∷ c.in-Some.below.now = grind (arith, common_steps, c.in-Some.ensures.cases) in
    ap (λ p. list_without_item p (list_of items)) place ∙ removed-past c.in-Some.position.now c.in-Some.below.now items (grind (arith, common_steps))

pub remove_in-returns-then-is_empty-clause-removed : goal.remove_in-returns-then-is_empty-clause-removed
remove_in-returns-then-is_empty-clause-removed t c =
    let items = c.args.items.now.items in
    let place : c.args.place.now ≡ c.in-Some.position.now ∷ c.in-Some.below.now = grind (arith, common_steps, c.in-Some.ensures.cases) in
    let alone : c.in-Some.below.now ≡ [] = nil_from_length _ (grind (arith, common_steps)) in
    let here : c.in-Some.position.now < length items = grind (arith, common_steps) in
    ap (λ p. list_without_item p (list_of items)) place ∙ ap (λ below. list_without_item (c.in-Some.position.now ∷ below) (list_of items)) alone
    ∙ without_position-remove c.in-Some.position.now items here ∙ ap (λ others. Some (list_of others)) (sym c.remove.ensures.items)

pub remove_in-returns-then-is_empty-clause-item : goal.remove_in-returns-then-is_empty-clause-item
remove_in-returns-then-is_empty-clause-item t c =
    let items = c.args.items.now.items in
    let place : c.args.place.now ≡ c.in-Some.position.now ∷ c.in-Some.below.now = grind (arith, common_steps, c.in-Some.ensures.cases) in
    let alone : c.in-Some.below.now ≡ [] = nil_from_length _ (grind (arith, common_steps)) in
    let here : c.in-Some.position.now < length items = grind (arith, common_steps) in
    let first : drop c.in-Some.position.now items ≡ c.remove.result ∷ drop (c.in-Some.position.now + 1) items = grind (arith, common_steps, c.remove.ensures.value) in
    ap (λ p. item_at p (list_of items)) place ∙ ap (λ below. item_at (c.in-Some.position.now ∷ below) (list_of items)) alone
    ∙ item_at-here c.in-Some.position.now (list_of items) c.remove.result (list_of (drop (c.in-Some.position.now + 1) items))
    (from_position-drop c.in-Some.position.now items ∙ ap list_of first)

pub remove_in-returns-clause-removed : goal.remove_in-returns-clause-removed
remove_in-returns-clause-removed t c =
    let items = c.args.items.now.items in
    let place : c.args.place.now ≡ c.in-Some.position.now ∷ c.in-Some.below.now = grind (arith, common_steps, c.in-Some.ensures.cases) in
    let here : c.in-Some.position.now < length items = grind (arith, common_steps) in
    let more : 0 < length c.in-Some.below.now = grind (arith, common_steps) in
    let whole : list_without_item c.args.place.now (list_of items) ≡ changed_at c.in-Some.position.now (list_without_item c.in-Some.below.now) (list_of items) =
    ap (λ p. list_without_item p (list_of items)) place ∙ removed-below c.in-Some.position.now c.in-Some.below.now (list_of items) more in
    by_option c.remove_below.result c.remove_below.ensures.removed
    (λ none. whole ∙ changed_at-none c.in-Some.position.now (list_without_item c.in-Some.below.now) items c.index_mut.result.now here
    (λ others. ap (λ old. changed_at 0 (list_without_item c.in-Some.below.now) (before old others)) (sym c.index_mut.ensures.value) ∙ none others))
    (λ _ changes. whole ∙ changed_at-set c.in-Some.position.now (list_without_item c.in-Some.below.now) items c.remove_below.new.group c.index_mut.result.now here
    (λ others. ap (λ old. changed_at 0 (list_without_item c.in-Some.below.now) (before old others)) (sym c.index_mut.ensures.value) ∙ changes others))

pub remove_in-returns-clause-same : goal.remove_in-returns-clause-same
remove_in-returns-clause-same t c =
    let items = c.args.items.now.items in
    let here : c.in-Some.position.now < length items = grind (arith, common_steps) in
    by_none c.remove_below.result c.remove_below.ensures.same
    (λ same. list_of-set c.in-Some.position.now items c.remove_below.new.group c.index_mut.result.now here
    (λ others. same others ∙ ap (λ old. before old others) c.index_mut.ensures.value))

pub remove_in-returns-clause-item : goal.remove_in-returns-clause-item
remove_in-returns-clause-item t c =
    let items = c.args.items.now.items in
    let place : c.args.place.now ≡ c.in-Some.position.now ∷ c.in-Some.below.now = grind (arith, common_steps, c.in-Some.ensures.cases) in
    let more : 0 < length c.in-Some.below.now = grind (arith, common_steps) in
    let others = list_of (drop (c.in-Some.position.now + 1) items) in
    let first : drop c.in-Some.position.now items ≡ c.index_mut.result.now ∷ drop (c.in-Some.position.now + 1) items = grind (arith, common_steps, c.index_mut.ensures.value) in
    by_some c.remove_below.result c.remove_below.ensures.item
    (λ item found. ap (λ p. item_at p (list_of items)) place
    ∙ item_at-below c.in-Some.position.now c.in-Some.below.now (list_of items) (inside (before c.index_mut.result.now others)) more
    (ap inside (from_position-drop c.in-Some.position.now items ∙ ap list_of first))
    ∙ found others)
