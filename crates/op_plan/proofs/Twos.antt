-- Two of a list that pass a test: in any order of the list, and the first two.
use Rattle.std.proofs.Common.{◌≡◌, ℕ, ◌+◌, ◌<◌, ◌≤◌, suc, Bool, true, false, cond, List, [], ◌∷◌, ◌++◌, length, map, take, drop, get_or, Some, None, refl, sym, ap, ◌∙◌, subst, inl, inr, append_assoc, arith}
use Rattle.std.specs.Prelude.{◌||◌, not, nat_le, nat_lt, slice_get}
use Rattle.std.specs.List.{list_any, find, position, position_or_len, sum_by}
use Rattle.std.specs.List.Sorted.{IsPermutation}
use Rattle.std.proofs.lemmas.Bool.{false≢true, or_cases, or_parts}
use Rattle.std.proofs.lemmas.Bool.Decides.{nat_tests}
use Rattle.std.proofs.lemmas.List.Sorted.{list_any-IsPermutation, sum_by-IsPermutation}
use Rattle.std.proofs.lemmas.List.Sums.{sum_by-cons}
use Rattle.std.proofs.lemmas.List.Folds.{list_any-append, find_at}
use Rattle.std.proofs.lemmas.List.Quantifiers.{position-Some}
use Rattle.std.proofs.lemmas.List.{take_more, get_or-take, take-append-drop, length-take-le}
use Rattle.std.proofs.Math.Seq.{drop-cons}
use Rattle.std.proofs.lemmas.Option.{slice_get-get_or}
use Rattle.mc_text.specs.Routes.{Route}
use Rattle.op_plan.specs.Meeting.{meet, has_two, first_two}
use Rattle.op_plan.proofs.Paths.{bool_same, meet-self, meet-turned}

-- ---- the order doesn't matter

abbrev one_if : Bool → ℕ
one_if true = 1
one_if false = 0

-- how many of these a path meets
abbrev met_among : Route → List Route → ℕ
met_among a = sum_by (λ b. one_if (meet a b))

met-some : (a : Route) (paths : List Route) → list_any (meet a) paths ≡ true → 1 ≤ met_among a paths
met-some a [] h = absurd (false≢true h)
met-some a (b ∷ paths) h =
    elim (or_cases (meet a b) (list_any (meet a) paths) h) [
      | inl here ↦
          let count : met_among a (b ∷ paths) ≡ 1 + met_among a paths =
          sum_by-cons (λ c. one_if (meet a c)) b paths ∙ ap (λ (x : Bool). one_if x + met_among a paths) here in
          omega (arith, count)
      | inr later ↦
          let more = met-some a paths later in
          let count : met_among a (b ∷ paths) ≡ one_if (meet a b) + met_among a paths = sum_by-cons (λ c. one_if (meet a c)) b paths in
          omega (arith, more, count)
    ]

met-none : (a : Route) (paths : List Route) → list_any (meet a) paths ≡ false → met_among a paths ≡ 0
met-none a [] h = refl
met-none a (b ∷ paths) h =
    let parts = or_parts (meet a b) (list_any (meet a) paths) h in
    sum_by-cons (λ c. one_if (meet a c)) b paths ∙ (ap (λ (x : Bool). one_if x + met_among a paths) parts.0 ∙ ap (λ (n : ℕ). 0 + n) (met-none a paths parts.1))

list_any-same_where : {X : Type 0} (p f g : X → Bool) (xs : List X) → ((x : X) → p x ≡ false → f x ≡ g x) → list_any p xs ≡ false → list_any f xs ≡ list_any g xs
list_any-same_where p f g [] same h = refl
list_any-same_where p f g (x ∷ xs) same h =
    let parts = or_parts (p x) (list_any p xs) h in
    ap (λ (b : Bool). b || list_any f xs) (same x parts.0) ∙ ap (λ (b : Bool). g x || b) (list_any-same_where p f g xs same parts.1)

pub list_any-same : {X : Type 0} (f g : X → Bool) (xs : List X) → ((x : X) → f x ≡ g x) → list_any f xs ≡ list_any g xs
list_any-same f g [] same = refl
list_any-same f g (x ∷ xs) same = ap (λ (b : Bool). b || list_any f xs) (same x) ∙ ap (λ (b : Bool). g x || b) (list_any-same f g xs same)

-- of these paths one meets two, itself among them
abbrev meets_two : List Route → Route → Bool
meets_two paths a = nat_le 2 (met_among a paths)

two-first : (a : Route) (paths : List Route) → meets_two (a ∷ paths) a ≡ list_any (meet a) paths
two-first a paths = bool_same (meets_two (a ∷ paths) a) (list_any (meet a) paths) to from
  where
    count : met_among a (a ∷ paths) ≡ 1 + met_among a paths
    count = sum_by-cons (λ b. one_if (meet a b)) a paths ∙ ap (λ (b : Bool). one_if b + met_among a paths) (meet-self a)

    to : meets_two (a ∷ paths) a ≡ true → list_any (meet a) paths ≡ true
    to h = no_none (list_any (meet a) paths) refl
      where
        no_none : (b : Bool) → list_any (meet a) paths ≡ b → b ≡ true
        no_none true e = refl
        no_none false e =
            let none = met-none a paths e in
            absurd (false≢true (sym (ap (λ (n : ℕ). nat_le 2 n) (count ∙ ap (λ (n : ℕ). 1 + n) none)) ∙ h))

    from : list_any (meet a) paths ≡ true → meets_two (a ∷ paths) a ≡ true
    from h =
        let some = met-some a paths h in
        let two : 2 ≤ met_among a (a ∷ paths) = omega (arith, count, some) in
        grind (arith, nat_tests)

two-later : (a b : Route) (paths : List Route) → meet a b ≡ false → meets_two paths b ≡ meets_two (a ∷ paths) b
two-later a b paths h =
    sym (ap (λ (n : ℕ). nat_le 2 n)
    (sum_by-cons (λ c. one_if (meet b c)) a paths ∙ (ap (λ (x : Bool). one_if x + met_among b paths) (meet-turned b a ∙ h) ∙ zero_more (met_among b paths))))
  where
    zero_more : (n : ℕ) → 0 + n ≡ n
    zero_more n = omega arith

two-any : (paths : List Route) → has_two meet paths ≡ list_any (meets_two paths) paths
two-any [] = refl
two-any (a ∷ paths) =
    bool_or (list_any (meet a) paths) (has_two meet paths) (meets_two (a ∷ paths) a) (list_any (meets_two (a ∷ paths)) paths) (two-first a paths)
    (λ none. two-any paths ∙ list_any-same_where (meet a) (meets_two paths) (meets_two (a ∷ paths)) paths (λ b h. two-later a b paths h) none)
  where
    bool_or : (x y z w : Bool) → z ≡ x → (x ≡ false → y ≡ w) → (x || y) ≡ (z || w)
    bool_or true y z w same rest = ap (λ (b : Bool). b || w) (sym same)
    bool_or false y z w same rest = rest refl ∙ ap (λ (b : Bool). b || w) (sym same)

pub two-permutation : (paths sorted : List Route) → IsPermutation paths sorted → has_two meet paths ≡ has_two meet sorted
two-permutation paths sorted moved =
    two-any paths
    ∙ (list_any-same (meets_two paths) (meets_two sorted) paths
    (λ a. ap (λ (n : ℕ). nat_le 2 n) (sym (sum_by-IsPermutation (λ b. one_if (meet a b)) paths sorted moved)))
    ∙ (list_any-IsPermutation (meets_two sorted) paths sorted moved ∙ sym (two-any sorted)))

-- ---- the first two

any-inside : {X : Type 0} (p : X → Bool) (prefix : List X) (x : X) (back : List X) → list_any p (prefix ++ x ∷ back) ≡ false → p x ≡ false
any-inside p [] x back h = (or_parts (p x) (list_any p back) h).0
any-inside p (y ∷ prefix) x back h = any-inside p prefix x back (or_parts (p y) (list_any p (prefix ++ x ∷ back)) h).1

find-apart : {X : Type 0} (test : X → X → Bool) (before : List X) (x : X) (back : List X) → has_two test (before ++ x ∷ back) ≡ false
    → find (λ y. test y x) before ≡ None
find-apart test [] x back h = refl
find-apart test (y ∷ before) x back h =
    let parts = or_parts (list_any (test y) (before ++ x ∷ back)) (has_two test (before ++ x ∷ back)) h in
    rw (any-inside (test y) before x back parts.0) (find-apart test before x back parts.1)

pub first_two-none : {X : Type 0} (test : X → X → Bool) (before xs : List X) → has_two test (before ++ xs) ≡ false → first_two test before xs ≡ None
first_two-none test before [] h = refl
first_two-none {X} test before (x ∷ xs) h =
    let P : List X → Type 0 = λ l. has_two test l ≡ false in
    rw (find-apart test before x xs h) (first_two-none test (before ++ x ∷ []) xs (subst P (sym (append_assoc before (x ∷ []) xs)) h))

pub first_two-some : {X : Type 0} (test : X → X → Bool) (before middle : List X) (first last : X) (after : List X)
    → has_two test (before ++ middle) ≡ false → find (λ y. test y last) (before ++ middle) ≡ Some first
    → first_two test before (middle ++ last ∷ after) ≡ Some (first, last)
first_two-some {X} test before [] first last after apart found =
    rw (nothing_more before ∙ found) refl
  where
    nothing_more : (l : List X) → find (λ y. test y last) l ≡ find (λ y. test y last) (l ++ [])
    nothing_more [] = refl
    nothing_more (y ∷ l) = ap (λ o. cond (test y last) (Some y) o) (nothing_more l)
first_two-some {X} test before (x ∷ middle) first last after apart found =
    let P : List X → Type 0 = λ l. has_two test l ≡ false in
    let Q : List X → Type 0 = λ l. find (λ y. test y last) l ≡ Some first in
    let joined : (before ++ x ∷ []) ++ middle ≡ before ++ x ∷ middle = append_assoc before (x ∷ []) middle in
    rw (find-apart test before x middle apart) (first_two-some test (before ++ x ∷ []) middle first last after (subst P (sym joined) apart) (subst Q (sym joined) found))

-- ---- the same of what the list's items have

pub any-map : {X Y : Type 0} (p : Y → Bool) (f : X → Y) (xs : List X) → list_any p (map f xs) ≡ list_any (λ x. p (f x)) xs
any-map p f [] = refl
any-map p f (x ∷ xs) = ap (λ (b : Bool). p (f x) || b) (any-map p f xs)

pub two-map : {X Y : Type 0} (test : Y → Y → Bool) (f : X → Y) (xs : List X) → has_two test (map f xs) ≡ has_two (λ a b. test (f a) (f b)) xs
two-map test f [] = refl
two-map test f (x ∷ xs) =
    ap (λ (b : Bool). b || has_two test (map f xs)) (any-map (test (f x)) f xs)
    ∙ ap (λ (b : Bool). list_any (λ y. test (f x) (f y)) xs || b) (two-map test f xs)

-- ---- positions

pub any-position : {X : Type 0} (p : X → Bool) (xs : List X) → list_any p xs ≡ nat_lt (position_or_len p xs) (length xs)
any-position p [] = refl
any-position p (x ∷ xs) = step (p x) (any-position p xs)
  where
    step : (b : Bool) → list_any p xs ≡ nat_lt (position_or_len p xs) (length xs)
        → (b || list_any p xs) ≡ nat_lt (cond (not b) (1 + position_or_len p xs) 0) (length (x ∷ xs))
    step true h = grind (arith, nat_tests)
    step false h = h ∙ grind (arith, nat_tests)

pub position-none : {X : Type 0} (p : X → Bool) (xs : List X) → position p xs ≡ None → list_any p xs ≡ false
position-none {X} p xs h = any-position p xs ∙ none (nat_lt (position_or_len p xs) (length xs)) h
  where
    none : (b : Bool) → cond b (Some (position_or_len p xs)) None ≡ None → b ≡ false
    none true e = cc
    none false e = refl

pub find-position : {X : Type 0} (p : X → Bool) (xs : List X) (i : ℕ) (d : X) → position p xs ≡ Some i → find p xs ≡ Some (get_or xs i d)
find-position {X} p xs i d h =
    find_at p xs ∙ (ap (λ (k : ℕ). slice_get xs k) (at (nat_lt (position_or_len p xs) (length xs)) h) ∙ slice_get-get_or xs i d (position-Some p xs i d h).0)
  where
    at : (b : Bool) → cond b (Some (position_or_len p xs)) None ≡ Some i → position_or_len p xs ≡ i
    at true e = cc
    at false e = cc

two-push : {X : Type 0} (test : X → X → Bool) (xs : List X) (x : X) → has_two test (xs ++ x ∷ []) ≡ (has_two test xs || list_any (λ y. test y x) xs)
two-push test [] x = refl
two-push test (y ∷ xs) x =
    ap (λ (b : Bool). b || has_two test (xs ++ x ∷ [])) (list_any-append (test y) xs (x ∷ []))
    ∙ (ap (λ (b : Bool). (list_any (test y) xs || (test y x || false)) || b) (two-push test xs x)
    ∙ shuffle (list_any (test y) xs) (test y x) (has_two test xs) (list_any (λ z. test z x) xs))
  where
    shuffle : (a b c d : Bool) → ((a || (b || false)) || (c || d)) ≡ ((a || c) || (b || d))
    shuffle true b c d = refl
    shuffle false true true d = refl
    shuffle false true false d = refl
    shuffle false false c d = refl

-- the last one of the shortest prefix in which two pass passes with one before it
pub last-passes : {X : Type 0} (test : X → X → Bool) (xs : List X) (last : ℕ) (x : X) → last < length xs → x ≡ get_or xs last x
    → has_two test (take last xs) ≡ false → has_two test (take (last + 1) xs) ≡ true → list_any (λ y. test y x) (take last xs) ≡ true
last-passes {X} test xs last x within is_x apart meets =
    rest (has_two test (take last xs)) (list_any (λ y. test y x) (take last xs)) apart
    (sym (two-push test (take last xs) x)
    ∙ (ap (λ (z : X). has_two test (take last xs ++ z ∷ [])) is_x ∙ (sym (ap (has_two test) (take_more xs last x within)) ∙ meets)))
  where
    rest : (a b : Bool) → a ≡ false → (a || b) ≡ true → b ≡ true
    rest true b e h = absurd (false≢true (sym e))
    rest false b e h = h

pub two-found : {X : Type 0} (test : X → X → Bool) (xs : List X) (first last : ℕ) (d : X) → last < length xs → has_two test (take last xs) ≡ false
    → position (λ y. test y (get_or xs last d)) (take last xs) ≡ Some first → first_two test [] xs ≡ Some (get_or xs first d, get_or xs last d)
two-found {X} test xs first last d within apart found =
    let y = get_or xs last d in
    let cut : xs ≡ take last xs ++ y ∷ drop (suc last) xs =
    sym (take-append-drop last xs) ∙ ap (λ (l : List X). take last xs ++ l) (drop-cons xs last d within) in
    let before = (position-Some (λ z. test z y) (take last xs) first d found).0 in
    let size : length (take last xs) ≡ last = length-take-le last xs (omega arith) in
    let here : get_or (take last xs) first d ≡ get_or xs first d = get_or-take last xs first d (omega (arith, before, size)) in
    ap (first_two test []) cut
    ∙ (first_two-some test [] (take last xs) (get_or (take last xs) first d) y (drop (suc last) xs) apart (find-position (λ z. test z y) (take last xs) first d found)
    ∙ ap (λ (z : X). Some (z, y)) here)
