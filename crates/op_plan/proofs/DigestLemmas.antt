-- Names whose numbers differ are apart, and paths that lie side by side under such names.
use Rattle.std.proofs.Common.{◌≡◌, ℕ, suc, ◌==◌, Bool, true, false, List, [], ◌∷◌, map, refl, sym, ap, ◌∙◌, arith}
use Rattle.std.specs.Prelude.{◌||◌, not}
use Rattle.std.specs.Bool.{OnTrue}
use Rattle.std.specs.List.{All, list_any}
use Rattle.std.specs.Str.{bytes_eq}
use Rattle.std.specs.Ordering.{is_lt, nat_cmp, ordering_then}
use Rattle.std.specs.declared.cmp.Ordering.{Ordering}
use Rattle.std.specs.declared.cmp.Ordering.TheVariants.{Less, Equal, Greater}
use Rattle.std.specs.List.Sorted.{IsPermutation, IsSorted}
use Rattle.std.proofs.lemmas.Bool.{false≢true, or_parts}
use Rattle.std.proofs.lemmas.Bool.Decides.{nat_tests}
use Rattle.std.proofs.lemmas.List.Sorted.{IsPermutation-map}
use Rattle.mc_text.specs.Routes.{Route}
use Rattle.tree_trait.specs.Answers.{name_cmp}
use Rattle.op_plan.specs.Meeting.{meet, has_two}
use Rattle.op_plan.specs.Sorting.{has_neighbours}
use Rattle.op_plan.specs.Digests.{digest, name_of, IsChild, LieApart}
use Rattle.op_plan.proofs.Paths.{bool_same, same_name, same_name-from}
use Rattle.op_plan.proofs.Sorted.{neighbours-map, sorted-map}
use Rattle.op_plan.proofs.Twos.{two-map}
use Rattle.op_plan.proofs.Siblings.{names-twice, neighbours-same, siblings-two, two-same}

-- ---- numbers

abbrev alone : ℕ → List ℕ
alone number = number ∷ []

pub number-same : (a b : ℕ) → a ≡ b → (a == b) ≡ true
number-same a b e = grind (arith, nat_tests)

same-number : (a b : ℕ) → (a == b) ≡ true → a ≡ b
same-number a b h = grind (arith, nat_tests)

alone-same : (a b : ℕ) → bytes_eq (alone a) (alone b) ≡ (a == b)
alone-same a b =
    bool_same (bytes_eq (alone a) (alone b)) (a == b)
    (λ h. let lists : alone a ≡ alone b = same_name (alone a) (alone b) h in let one : a ≡ b = cc in number-same a b one)
    (λ h. same_name-from (alone a) (alone b) (ap alone (same-number a b h)))

alone_lt : (o : Ordering) → is_lt (ordering_then o Equal) ≡ is_lt o
alone_lt Less = refl
alone_lt Equal = refl
alone_lt Greater = refl

-- once numbers are sorted, two neighbours are one where two of them are
pub numbers-twice : (numbers sorted : List ℕ) → IsPermutation numbers sorted → IsSorted nat_cmp sorted
    → has_neighbours (λ a b. a == b) sorted ≡ has_two (λ a b. a == b) numbers
numbers-twice numbers sorted moved up =
    let risen : IsSorted name_cmp (map alone sorted) =
    sorted-map (λ a b. is_lt (name_cmp a b)) alone sorted (λ k d low high. alone_lt _ ∙ up k d low high) in
    sym (neighbours-same (λ a b. bytes_eq (alone a) (alone b)) (λ a b. a == b) sorted alone-same)
    ∙ (neighbours-map bytes_eq alone sorted
    ∙ (names-twice (map alone numbers) (map alone sorted) (IsPermutation-map alone numbers sorted moved) risen
    ∙ (two-map bytes_eq alone numbers ∙ two-same (λ a b. bytes_eq (alone a) (alone b)) (λ a b. a == b) numbers alone-same)))

-- what follows where no two numbers are one
pub unless_twice : (numbers : List ℕ) (twice : Bool) (P : Type 0) → twice ≡ has_two (λ a b. a == b) numbers
    → (has_two (λ a b. a == b) numbers ≡ false → P) → OnTrue (not twice) P
unless_twice numbers true P e so = tt
unless_twice numbers false P e so = so (sym e)

-- ---- names

any-weaker : {X : Type 0} (f g : X → Bool) (xs : List X) → ((x : X) → f x ≡ true → g x ≡ true) → list_any g xs ≡ false → list_any f xs ≡ false
any-weaker f g [] so h = refl
any-weaker {X} f g (x ∷ xs) so h =
    let parts = or_parts (g x) (list_any g xs) h in
    ap (λ (b : Bool). b || list_any f xs) (denied (f x) (g x) (so x) parts.0) ∙ any-weaker f g xs so parts.1
  where
    denied : (a b : Bool) → (a ≡ true → b ≡ true) → b ≡ false → a ≡ false
    denied true b to e = absurd (false≢true (sym e ∙ to refl))
    denied false b to e = refl

two-weaker : {X : Type 0} (f g : X → X → Bool) (xs : List X) → ((x y : X) → f x y ≡ true → g x y ≡ true) → has_two g xs ≡ false → has_two f xs ≡ false
two-weaker f g [] so h = refl
two-weaker f g (x ∷ xs) so h =
    let parts = or_parts (list_any (g x) xs) (has_two g xs) h in
    ap (λ (b : Bool). b || has_two f xs) (any-weaker (f x) (g x) xs (so x) parts.0) ∙ two-weaker f g xs so parts.1

-- where no two numbers are one, no two names are
pub told_apart : (names : List (List ℕ)) → has_two (λ a b. a == b) (map digest names) ≡ false → has_two bytes_eq names ≡ false
told_apart names h =
    two-weaker bytes_eq (λ a b. digest a == digest b) names
    (λ a b same. number-same (digest a) (digest b) (ap digest (same_name a b same)))
    (sym (two-map (λ a b. a == b) digest names) ∙ h)

-- ---- paths

pub children-are : (folder : Route) (paths : List Route) → All (IsChild folder) paths → paths ≡ map (λ name. name ∷ folder) (map name_of paths)
children-are folder [] at = refl
children-are folder (path ∷ paths) at =
    ap (λ (r : Route). r ∷ paths) (at 0 path (omega arith)).path_is
    ∙ ap (λ (l : List Route). (name_of path ∷ folder) ∷ l) (children-are folder paths (λ k d below. at (suc k) d (omega arith)))

digests-are : (paths : List Route) → map digest (map name_of paths) ≡ map (λ path. digest (name_of path)) paths
digests-are [] = refl
digests-are (path ∷ paths) = ap (λ (l : List ℕ). digest (name_of path) ∷ l) (digests-are paths)

pub lie_apart : (folder : Route) (paths : List Route) → All (IsChild folder) paths
    → has_two (λ a b. a == b) (map (λ path. digest (name_of path)) paths) ≡ false → LieApart folder paths
lie_apart folder paths at h = record {
  children = at;
  apart = ap (has_two meet) (children-are folder paths at)
      ∙ (siblings-two folder (map name_of paths) ∙ told_apart (map name_of paths) (ap (has_two (λ a b. a == b)) (digests-are paths) ∙ h));
}
