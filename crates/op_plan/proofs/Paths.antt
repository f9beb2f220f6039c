-- Where paths lie to one another.
use Rattle.std.proofs.Common.{◌≡◌, Bool, true, false, List, [], ◌∷◌, ◌++◌, ℕ, reverse, refl, sym, ◌∙◌, ap, subst, inl, inr}
use Rattle.std.specs.Prelude.{◌||◌, ◌&&◌}
use Rattle.std.specs.Str.{bytes_eq}
use Rattle.std.proofs.lemmas.Bool.{false≢true, or_cases, or_left, or_right, and_parts, and_from}
use Rattle.std.proofs.lemmas.List.{reverse-append, reverse-reverse}
use Rattle.std.proofs.lemmas.Slice.Eq.{bytes_eq-Decides, slice_eq-Decides}
use Rattle.mc_text.specs.Routes.{Route, same_path, is_prefix}
use Rattle.op_plan.specs.Meeting.{meet}

pub bool_same : (a b : Bool) → (a ≡ true → b ≡ true) → (b ≡ true → a ≡ true) → a ≡ b
bool_same true b to from = sym (to refl)
bool_same false true to from = from refl
bool_same false false to from = refl

pub same-true : (p q : Route) → same_path p q ≡ true → p ≡ q
same-true p q h = (slice_eq-Decides bytes_eq-Decides p q (same_path p q) refl).0 h

pub same-self : (p : Route) → same_path p p ≡ true
same-self p = (slice_eq-Decides bytes_eq-Decides p p (same_path p p) refl).1 refl

pub prefix-way : (p q : Route) → is_prefix p q ≡ true → (rest : Route) × (q ≡ rest ++ p)
prefix-way p [] h = ([], sym (same-true p [] h))
prefix-way p (n ∷ q) h =
    elim (or_cases (same_path p (n ∷ q)) (is_prefix p q) h) [
      | inl here ↦ ([], sym (same-true p (n ∷ q) here))
      | inr above ↦ let w = prefix-way p q above in (n ∷ w.0, ap (λ (r : Route). n ∷ r) w.1)
    ]

prefix-self : (p : Route) → is_prefix p p ≡ true
prefix-self [] = refl
prefix-self (n ∷ p) = or_left (same_path (n ∷ p) (n ∷ p)) (is_prefix (n ∷ p) p) (same-self (n ∷ p))

prefix-append : (p rest : Route) → is_prefix p (rest ++ p) ≡ true
prefix-append p [] = prefix-self p
prefix-append p (n ∷ rest) = or_right (same_path p (n ∷ rest ++ p)) (is_prefix p (rest ++ p)) (prefix-append p rest)

pub prefix-from : (p q rest : Route) → q ≡ rest ++ p → is_prefix p q ≡ true
prefix-from p q rest e = let P : Route → Type 0 = λ r. is_prefix p r ≡ true in subst P (sym e) (prefix-append p rest)

pub meet-self : (p : Route) → meet p p ≡ true
meet-self p = or_left (is_prefix p p) (is_prefix p p) (prefix-self p)

pub meet-turned : (a b : Route) → meet a b ≡ meet b a
meet-turned a b = turn (is_prefix a b) (is_prefix b a)
  where
    turn : (x y : Bool) → (x || y) ≡ (y || x)
    turn true true = refl
    turn true false = refl
    turn false true = refl
    turn false false = refl

-- ---- names from the root on

-- the names of a path begin with those of another
abbrev pub begins : Route → Route → Bool
begins [] ms = true
begins (n ∷ ns) [] = false
begins (n ∷ ns) (m ∷ ms) = bytes_eq n m && begins ns ms

pub same_name : (n m : List ℕ) → bytes_eq n m ≡ true → n ≡ m
same_name n m h = (bytes_eq-Decides n m).0 h

pub same_name-from : (n m : List ℕ) → n ≡ m → bytes_eq n m ≡ true
same_name-from n m h = (bytes_eq-Decides n m).1 h

begins-way : (ns ms : Route) → begins ns ms ≡ true → (rest : Route) × (ms ≡ ns ++ rest)
begins-way [] ms h = (ms, refl)
begins-way (n ∷ ns) [] h = absurd (false≢true h)
begins-way (n ∷ ns) (m ∷ ms) h =
    let parts = and_parts (bytes_eq n m) (begins ns ms) h in
    let w = begins-way ns ms parts.1 in
    let name : m ≡ n = sym (same_name n m parts.0) in
    (w.0, ap (λ (x : List ℕ). x ∷ ms) name ∙ ap (λ (r : Route). n ∷ r) w.1)

begins-append : (ns rest : Route) → begins ns (ns ++ rest) ≡ true
begins-append [] rest = refl
begins-append (n ∷ ns) rest = and_from (bytes_eq n n) (begins ns (ns ++ rest)) (same_name-from n n refl) (begins-append ns rest)

pub prefix-begins : (p q : Route) → is_prefix p q ≡ begins (reverse p) (reverse q)
prefix-begins p q = bool_same (is_prefix p q) (begins (reverse p) (reverse q)) to from
  where
    to : is_prefix p q ≡ true → begins (reverse p) (reverse q) ≡ true
    to h =
        let w = prefix-way p q h in
        let P : Route → Type 0 = λ r. begins (reverse p) r ≡ true in
        subst P (sym (ap reverse w.1 ∙ reverse-append w.0 p)) (begins-append (reverse p) (reverse w.0))

    from : begins (reverse p) (reverse q) ≡ true → is_prefix p q ≡ true
    from h =
        let w = begins-way (reverse p) (reverse q) h in
        prefix-from p q (reverse w.0)
        (sym (reverse-reverse q) ∙ (ap reverse w.1 ∙ (reverse-append (reverse p) w.0 ∙ ap (λ (r : Route). reverse w.0 ++ r) (reverse-reverse p))))
