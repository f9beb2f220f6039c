-- Names with a blank between each two are the first name, and the others each behind a blank.
use Rattle.std.proofs.Common.{◌≡◌, ℕ, List, [], ◌∷◌, ◌++◌, ap}
use Rattle.std.specs.List.{flat_map}
use Rattle.std.proofs.lemmas.List.{append-nil}
use Rattle.percent_macros.specs.Quoting.{name_in_quotes}
use Rattle.percent_macros.specs.Inserted.{joined_names}

pub joined-cons : (first : List ℕ) (others : List (List ℕ)) → name_in_quotes first ++ flat_map (λ name. 32 ∷ name_in_quotes name) others ≡ joined_names (first ∷ others)
joined-cons first [] = append-nil (name_in_quotes first)
joined-cons first (other ∷ others) = ap (λ rest. name_in_quotes first ++ 32 ∷ rest) (joined-cons other others)
