-- Names in strict order are ascending in the sense of a tree's listing.
use Rattle.std.proofs.Common.{◌≡◌, ℕ, List, [], ◌∷◌}
use Rattle.std.specs.List.{AllByRecursion}
use Rattle.std.specs.List.Sorted.{IsStrictlySortedBy}
use Rattle.std.specs.declared.cmp.Ordering.TheVariants.{Less}
use Rattle.tree_trait.specs.Answers.{name_cmp, AllAfter, IsAscending}

AllAfter-from_all : (first : List ℕ) (names : List (List ℕ)) → AllByRecursion (λ name. name_cmp first name ≡ Less) names → AllAfter first names
AllAfter-from_all first [] h = tt
AllAfter-from_all first (name ∷ names) h = (h.0, AllAfter-from_all first names h.1)

pub IsAscending-from_strict : (names : List (List ℕ)) → IsStrictlySortedBy name_cmp names → IsAscending names
unfolding IsStrictlySortedBy
IsAscending-from_strict [] h = tt
IsAscending-from_strict (name ∷ names) h = (AllAfter-from_all name names h.0, IsAscending-from_strict names h.1)
