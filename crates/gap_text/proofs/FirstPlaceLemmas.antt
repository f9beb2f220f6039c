-- The first place is the least one where the bytes stand.
use Rattle.std.proofs.Common.{◌≡◌, ℕ, zero, suc, ◌+◌, ◌-◌, ◌<◌, true, nat_eq, List, [], ◌∷◌, Option, Some, None, length, drop, refl, sym, ap, ◌∙◌, arith, length-drop, drop-drop}
use Rattle.std.specs.List.{starts_with}
use Rattle.std.proofs.lemmas.Bool.{false_from_ne_true, cond-true, cond-false, ne_eqb, eq-eqb}
use Rattle.gap_text.specs.Places.{stands_at, place_in, first_place, IsLeastPlace}

place_in-none : (rest bytes : List ℕ) (at : ℕ)
    → ((k : ℕ) → k < length rest → ¬ (starts_with nat_eq (drop k rest) bytes ≡ true)) → place_in rest bytes at ≡ None
unfolding place_in
place_in-none [] bytes at nowhere = refl
place_in-none (x ∷ rest) bytes at nowhere =
    cond-false _ _ _ (false_from_ne_true _ (nowhere 0 (omega arith)))
    ∙ place_in-none rest bytes (at + 1) (λ k below. nowhere (suc k) (omega arith))

place_in-some : (rest bytes : List ℕ) (at k : ℕ) → k < length rest → starts_with nat_eq (drop k rest) bytes ≡ true
    → ((j : ℕ) → j < k → ¬ (starts_with nat_eq (drop j rest) bytes ≡ true)) → place_in rest bytes at ≡ Some (at + k)
unfolding place_in
place_in-some [] bytes at k within stands nowhere = absurd (omega arith)
place_in-some (x ∷ rest) bytes at zero within stands nowhere =
    let here : at ≡ at + 0 = omega arith in
    cond-true _ _ _ stands ∙ ap (λ (n : ℕ). Some n) here
place_in-some (x ∷ rest) bytes at (suc k) within stands nowhere =
    let there : at + 1 + k ≡ at + suc k = omega arith in
    cond-false _ _ _ (false_from_ne_true _ (nowhere 0 (omega arith)))
    ∙ place_in-some rest bytes (at + 1) k (omega arith) stands (λ j below. nowhere (suc j) (omega arith))
    ∙ ap (λ (n : ℕ). Some n) there

-- no bytes have no first place
pub first_place-empty : (text bytes : List ℕ) (from : ℕ) → length bytes ≡ 0 → None ≡ first_place text bytes from
first_place-empty text bytes from empty = sym (cond-true _ _ _ (eq-eqb _ _ empty))

-- the least place is the first one
pub first_place-from_least : (text bytes : List ℕ) (from : ℕ) (place : Option ℕ) → 0 < length bytes
    → IsLeastPlace text bytes from place → place ≡ first_place text bytes from
first_place-from_least text bytes from None some least =
    sym (cond-false _ _ _ (ne_eqb _ _ (λ (none : length bytes ≡ 0). omega arith))
    ∙ place_in-none (drop from text) bytes from (λ k below stands.
    least (from + k) (omega arith) (omega (arith, length-drop from text)) (ap (λ l. starts_with nat_eq l bytes) (sym (drop-drop k from text)) ∙ stands)))
first_place-from_least text bytes from (Some at) some least =
    let place : from + (at - from) ≡ at = omega (arith, least.0) in
    sym (cond-false _ _ _ (ne_eqb _ _ (λ (none : length bytes ≡ 0). omega arith))
    ∙ place_in-some (drop from text) bytes from (at - from) (omega (arith, length-drop from text, least.0, least.1))
    (ap (λ l. starts_with nat_eq l bytes) (drop-drop (at - from) from text) ∙ ap (λ k. stands_at text bytes k) place ∙ least.2)
    (λ j below stands. least.3 (from + j) (omega arith) (omega (arith, least.0)) (ap (λ l. starts_with nat_eq l bytes) (sym (drop-drop j from text)) ∙ stands))
    ∙ ap (λ (n : ℕ). Some n) place)
