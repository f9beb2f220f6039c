-- What is found in lists of which all have something.
use Rattle.std.proofs.Common.{◌≡◌, Bool, true, false, cond, List, [], ◌∷◌, ◌++◌, map, refl, ap, subst, Option, Some, None}
use Rattle.std.specs.Prelude.{⊤}
use Rattle.std.specs.List.{find}
use Rattle.std.specs.Option.{option_map_or}
use Rattle.mc_text.specs.Routes.{Route}
use Rattle.job_reports.specs.declared.job.Pair.{Pair}
use Rattle.op_plan.specs.Checks.{paired_sources}
use Rattle.op_plan.specs.Meeting.{first_across, first_two, or_two, with_first}

-- all of a list have it
abbrev pub Each : {X : Type 0} → (X → Type 0) → List X → Type 0
Each P [] = ⊤
Each P (x ∷ xs) = P x × Each P xs

pub each : {X : Type 0} (P : X → Type 0) → ((x : X) → P x) → (xs : List X) → Each P xs
each P all [] = tt
each P all (x ∷ xs) = (all x, each P all xs)

pub each_of : {X Y : Type 0} (P : Y → Type 0) (f : X → Y) (xs : List X) → Each (λ x. P (f x)) xs → Each P (map f xs)
each_of P f [] h = tt
each_of P f (x ∷ xs) h = (h.0, each_of P f xs h.1)

each_and : {X : Type 0} (P : X → Type 0) (xs ys : List X) → Each P xs → Each P ys → Each P (xs ++ ys)
each_and P [] ys h g = g
each_and P (x ∷ xs) ys h g = (h.0, each_and P xs ys h.1 g)

-- the sources of pairs are those of which they are made
pub each_paired : (P : Route → Type 0) (sources targets : List Route) → Each P sources → Each (λ (pair : Pair). P pair.source) (paired_sources sources targets)
each_paired P [] targets h = tt
each_paired P (source ∷ sources) [] h = tt
each_paired P (source ∷ sources) (target ∷ targets) h = (h.0, each_paired P sources targets h.1)

-- what a search finds passes the test, and is of the list
pub found : {X : Type 0} (P : X → Type 0) (test : X → Bool) (xs : List X) (x : X) → find test xs ≡ Some x → Each P xs → P x × (test x ≡ true)
found {X} P test [] x h all = absurd cc
found {X} P test (y ∷ ys) x h all = by_test (test y) refl h (λ later. found P test ys x later all.1)
  where
    by_test : (b : Bool) → test y ≡ b → cond b (Some y) (find test ys) ≡ Some x → (find test ys ≡ Some x → P x × (test x ≡ true)) → P x × (test x ≡ true)
    by_test true is h later = let same : y ≡ x = cc in (subst P same all.0, subst (λ (z : X). test z ≡ true) same is)
    by_test false is h later = later h

same_pair : {X Y : Type 0} (a c : X) (b d : Y) → (let o : Option (X × Y) = Some (a, b) in o) ≡ Some (c, d) → (a ≡ c) × (b ≡ d)
same_pair {X} {Y} a c b d h =
    (ap (λ (o : Option (X × Y)). option_map_or (λ (p : X × Y). p.0) o a) h, ap (λ (o : Option (X × Y)). option_map_or (λ (p : X × Y). p.1) o b) h)

-- the first two that pass a test
pub two : {X : Type 0} (P : X → Type 0) (test : X → X → Bool) (before xs : List X) (a b : X) → first_two test before xs ≡ Some (a, b) → Each P before → Each P xs
    → (P a × P b) × (test a b ≡ true)
two {X} P test before [] a b h all rest = absurd cc
two {X} P test before (x ∷ xs) a b h all rest =
    by_first (find (λ y. test y x) before) refl h (λ later. two P test (before ++ x ∷ []) xs a b later (each_and P before (x ∷ []) all (rest.0, tt)) rest.1)
  where
    by_first : (o : Option X) → find (λ y. test y x) before ≡ o → or_two o x (first_two test (before ++ x ∷ []) xs) ≡ Some (a, b)
        → (first_two test (before ++ x ∷ []) xs ≡ Some (a, b) → (P a × P b) × (test a b ≡ true)) → (P a × P b) × (test a b ≡ true)
    by_first None is h later = later h
    by_first (Some first) is h later =
        let same = same_pair first a x b h in
        let at = found P (λ y. test y x) before first is all in
        ((subst P same.0 at.0, subst P same.1 rest.0), subst (λ (z : X). test z b ≡ true) same.0 (subst (λ (z : X). test first z ≡ true) same.1 at.1))

-- the first of some that passes a test with one of others
pub across : {X Y : Type 0} (P : X → Type 0) (test : X → Y → Bool) (xs : List X) (ys : List Y) (a : X) (b : Y) → first_across test xs ys ≡ Some (a, b) → Each P xs
    → P a × (test a b ≡ true)
across {X} {Y} P test [] ys a b h all = absurd cc
across {X} {Y} P test (x ∷ xs) ys a b h all = by_first (find (test x) ys) refl h (λ later. across P test xs ys a b later all.1)
  where
    by_first : (o : Option Y) → find (test x) ys ≡ o → with_first x o (first_across test xs ys) ≡ Some (a, b)
        → (first_across test xs ys ≡ Some (a, b) → P a × (test a b ≡ true)) → P a × (test a b ≡ true)
    by_first None is h later = later h
    by_first (Some y) is h later =
        let same = same_pair x a y b h in
        let at = found (λ _. Unit {0}) (test x) ys y is (each (λ _. Unit {0}) (λ _. tt) ys) in
        (subst P same.0 all.0, subst (λ (z : X). test z b ≡ true) same.0 (subst (λ (z : Y). test x z ≡ true) same.1 at.1))
