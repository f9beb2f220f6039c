-- Items whose names differ never tie, so a list of them that is in order is in strict order.
use Rattle.std.proofs.Common.{◌≡◌, ℕ, Bool, true, false, cond, List, [], ◌∷◌, filter, refl, sym, ap, ◌∙◌, subst}
use Rattle.std.specs.List.{AllByRecursion, IsDistinct, dedup, dedup_from}
use Rattle.std.specs.List.Sorted.{IsPermutation, IsSorted, IsStrictlySortedBy}
use Rattle.std.specs.Ordering.{is_eq, eq_by_cmp, ordering_then, ordering_reverse}
use Rattle.std.specs.Cmp.{IsTotalOrder}
use Rattle.std.specs.declared.cmp.Ordering.{Ordering}
use Rattle.std.specs.declared.cmp.Ordering.TheVariants.{Less, Equal, Greater}
use Rattle.std.proofs.lemmas.Cmp.{on_total, nat_list_cmp_total}
use Rattle.std.proofs.lemmas.List.Kept.{IsStrictlySortedBy-dedup, IsStrictlySortedBy-filter}
use Rattle.std.proofs.lemmas.Map.Keys.{IsDistinct-from_sorted, IsDistinct-IsPermutation}
use Rattle.tree_trait.specs.Answers.{name_cmp, AllAfter, IsAscending}
use Rattle.panel_listing.specs.Arranging.{names_of}
use Rattle.panel_listing.specs.Orders.{key_cmp, order_cmp, item_cmp, is_shown, AreArranged}
use Rattle.panel_listing.specs.declared.item.Item.{Item}
use Rattle.panel_listing.specs.declared.wish.Order.{Order}
use Rattle.panel_listing.specs.declared.wish.Wish.{Wish}
use Rattle.panel_listing.proofs.OrderLemmas.{item_total}

-- ---- lists in which no two tie

tie-turned : (o : Ordering) → is_eq (ordering_reverse o) ≡ is_eq o
tie-turned Less = refl
tie-turned Equal = refl
tie-turned Greater = refl

ties-turned : {X : Type 0} {R : X → X → Ordering} → IsTotalOrder R → (x y : X) → eq_by_cmp R x y ≡ eq_by_cmp R y x
ties-turned {X} {R} total x y = ap is_eq (total.antisymm x y) ∙ tie-turned (R y x)

module _ {X : Type 0} (E : X → X → Bool) (turned : (x y : X) → E x y ≡ E y x) where
  undoubled : (k : X) (xs : List X) → IsDistinct E (k ∷ xs) → dedup_from E k xs ≡ k ∷ xs
  unfolding IsDistinct
  undoubled k [] apart = refl
  undoubled k (x ∷ xs) apart =
      ap (λ same. cond same (dedup_from E k xs) (k ∷ dedup_from E x xs)) (turned x k ∙ apart.0.0) ∙ ap (λ more. k ∷ more) (undoubled x xs apart.1)

  dedup-distinct : (xs : List X) → IsDistinct E xs → dedup E xs ≡ xs
  dedup-distinct [] apart = refl
  dedup-distinct (x ∷ xs) apart = undoubled x xs apart

-- a sorted list in which no two tie is in strict order
strict-from_distinct : {X : Type 0} {R : X → X → Ordering} → IsTotalOrder R → (xs : List X) → IsSorted R xs → IsDistinct (eq_by_cmp R) xs → IsStrictlySortedBy R xs
strict-from_distinct {X} {R} total xs sorted apart =
    subst (IsStrictlySortedBy R) (dedup-distinct (eq_by_cmp R) (ties-turned total) xs apart) (IsStrictlySortedBy-dedup total (λ x y. refl) xs sorted)

module _ {X : Type 0} (E F : X → X → Bool) (weaker : (x y : X) → E x y ≡ false → F x y ≡ false) where
  all-weaker : (x : X) (ys : List X) → AllByRecursion (λ y. E x y ≡ false) ys → AllByRecursion (λ y. F x y ≡ false) ys
  all-weaker x [] all = tt
  all-weaker x (y ∷ ys) all = (weaker x y all.0, all-weaker x ys all.1)

  distinct-weaker : (xs : List X) → IsDistinct E xs → IsDistinct F xs
  unfolding IsDistinct
  distinct-weaker [] apart = tt
  distinct-weaker (x ∷ xs) apart = (all-weaker x xs apart.0, distinct-weaker xs apart.1)

-- ---- items by their names

abbrev by_name : Item → Item → Ordering
by_name a b = name_cmp a.name b.name

name_total : IsTotalOrder by_name
name_total = on_total (λ (item : Item). item.name) nat_list_cmp_total

all-after : (item : Item) (items : List Item) → AllAfter item.name (names_of items) → AllByRecursion (λ other. by_name item other ≡ Less) items
all-after item [] all = tt
all-after item (other ∷ items) all = (all.0, all-after item items all.1)

strict-by_name : (items : List Item) → IsAscending (names_of items) → IsStrictlySortedBy by_name items
unfolding IsStrictlySortedBy
strict-by_name [] ascending = tt
strict-by_name (item ∷ items) ascending = (all-after item items ascending.0, strict-by_name items ascending.1)

then-apart : (o p : Ordering) → is_eq p ≡ false → is_eq (ordering_then o p) ≡ false
then-apart Less p apart = refl
then-apart Equal p apart = apart
then-apart Greater p apart = refl

-- two items whose names differ don't tie, whatever is wished for
names-apart : (wish : Wish) (a b : Item) → eq_by_cmp by_name a b ≡ false → eq_by_cmp (item_cmp wish) a b ≡ false
names-apart wish a b apart = then-apart _ (cond wish.reverse (order_cmp wish.order b a) (order_cmp wish.order a b)) (go wish.reverse)
  where
    go : (reverse : Bool) → is_eq (cond reverse (order_cmp wish.order b a) (order_cmp wish.order a b)) ≡ false
    go true = then-apart (key_cmp wish.order b a) (name_cmp b.name a.name) (ties-turned name_total b a ∙ apart)
    go false = then-apart (key_cmp wish.order a b) (name_cmp a.name b.name) apart

-- ---- what is shown

pub arranged-strictly : (wish : Wish) (items shown : List Item) → IsAscending (names_of items) → IsPermutation (filter (is_shown wish) items) shown
    → IsSorted (item_cmp wish) shown → AreArranged wish items shown
arranged-strictly wish items shown ascending kept sorted =
    let chosen = filter (is_shown wish) items in
    let named : IsDistinct (eq_by_cmp by_name) chosen =
    IsDistinct-from_sorted by_name chosen (IsStrictlySortedBy-filter by_name (is_shown wish) items (strict-by_name items ascending)) in
    let moved : IsDistinct (eq_by_cmp by_name) shown = IsDistinct-IsPermutation (eq_by_cmp by_name) (ties-turned name_total) chosen shown kept named in
    let apart : IsDistinct (eq_by_cmp (item_cmp wish)) shown = distinct-weaker (eq_by_cmp by_name) (eq_by_cmp (item_cmp wish)) (names-apart wish) shown moved in
    record {
      kept = kept;
      ordered = strict-from_distinct (item_total wish) shown sorted apart;
    }
