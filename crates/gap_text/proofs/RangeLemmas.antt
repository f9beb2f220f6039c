-- A range of a text of two halves is what each half has of it.
use Rattle.std.proofs.Common.{◌≡◌, ℕ, zero, suc, ◌-◌, ◌≤◌, List, [], ◌∷◌, ◌++◌, length, take, drop, refl, ap, ◌∙◌, arith, length-drop, slice_range}

take_over : (n : ℕ) (xs ys : List ℕ) → take n (xs ++ ys) ≡ take n xs ++ take (n - length xs) ys
take_over zero [] ys = refl
take_over (suc n) [] ys = let same : suc n ≡ suc n - 0 = omega arith in ap (λ k. take k ys) same
take_over zero (x ∷ xs) ys = let same : 0 ≡ 0 - length (x ∷ xs) = omega arith in ap (λ k. take k ys) same
take_over (suc n) (x ∷ xs) ys =
    let same : n - length xs ≡ suc n - length (x ∷ xs) = omega arith in
    ap (λ rest. x ∷ rest) (take_over n xs ys) ∙ ap (λ k. (x ∷ take n xs) ++ take k ys) same

drop_over : (n : ℕ) (xs ys : List ℕ) → drop n (xs ++ ys) ≡ drop n xs ++ drop (n - length xs) ys
drop_over zero [] ys = refl
drop_over (suc n) [] ys = let same : suc n ≡ suc n - 0 = omega arith in ap (λ k. drop k ys) same
drop_over zero (x ∷ xs) ys = let same : 0 ≡ 0 - length (x ∷ xs) = omega arith in ap (λ k. (x ∷ xs) ++ drop k ys) same
drop_over (suc n) (x ∷ xs) ys =
    let same : n - length xs ≡ suc n - length (x ∷ xs) = omega arith in
    drop_over n xs ys ∙ ap (λ k. drop n xs ++ drop k ys) same

pub slice_range-append : (from to : ℕ) (front back : List ℕ) → from ≤ to
    → slice_range (front ++ back) from to
    ≡ slice_range front from to ++ slice_range back (from - length front) (to - length front)
slice_range-append from to front back ordered =
    let left : to - from - length (drop from front) ≡ to - length front - (from - length front) =
    omega (arith, length-drop from front) in
    ap (take (to - from)) (drop_over from front back)
    ∙ take_over (to - from) (drop from front) (drop (from - length front) back)
    ∙ ap (λ k. take (to - from) (drop from front) ++ take k (drop (from - length front) back)) left
