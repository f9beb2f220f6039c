-- Keeping one element more of a list.
use Rattle.std.proofs.Common.{◌≡◌, ℕ, ◌+◌, ◌<◌, Bool, true, false, cond, if◌then◌else◌, List, [], ◌∷◌, ◌++◌, length, take, get_or, map, filter, refl, sym, ap, ◌∙◌}
use Rattle.std.proofs.lemmas.List.{take_more, map-append}
use Rattle.std.proofs.lemmas.List.Elements.{filter-append}

-- one element more
pub take_one_more : {A : Type 0} (xs : List A) (i : ℕ) (x : A) → i < length xs → x ≡ get_or xs i x → take (i + 1) xs ≡ take i xs ++ x ∷ []
take_one_more xs i x fits is = take_more xs i x fits ∙ ap (λ y. take i xs ++ y ∷ []) (sym is)

-- what is kept of one element more
pub filter-take_more : {A : Type 0} (p : A → Bool) (xs : List A) (i : ℕ) (x : A) → i < length xs → x ≡ get_or xs i x
    → filter p (take (i + 1) xs) ≡ filter p (take i xs) ++ (if p x then x ∷ [] else [])
filter-take_more p xs i x fits is = ap (filter p) (take_one_more xs i x fits is) ∙ filter-append p (take i xs) (x ∷ [])

-- the same, of what is shown of each
pub map-filter-take_more : {A B : Type 0} (f : A → B) (p : A → Bool) (xs : List A) (i : ℕ) (x : A) → i < length xs → x ≡ get_or xs i x
    → map f (filter p (take (i + 1) xs)) ≡ map f (filter p (take i xs)) ++ (if p x then f x ∷ [] else [])
map-filter-take_more {A = A} {B = B} f p xs i x fits is =
    ap (map f) (filter-take_more p xs i x fits is) ∙ map-append f (filter p (take i xs)) (if p x then x ∷ [] else []) ∙ ap (λ shown. map f (filter p (take i xs)) ++ shown) (go (p x))
  where
    go : (keeps : Bool) → map f (cond keeps (x ∷ []) []) ≡ cond keeps (f x ∷ []) []
    go true = refl
    go false = refl
