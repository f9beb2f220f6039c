-- Paths in one folder: two meet where their last names are one.
use Rattle.std.proofs.Common.{◌≡◌, ℕ, Bool, true, false, List, [], ◌∷◌, ◌++◌, ◌+◌, Option, Some, None, Ok, length, map, refl, sym, ap, ◌∙◌, inl, inr, arith}
use Rattle.std.specs.Prelude.{◌||◌, option_map, IfSome}
use Rattle.std.specs.List.{list_any}
use Rattle.std.specs.Str.{bytes_eq}
use Rattle.std.specs.Ordering.{is_lt, ordering_then}
use Rattle.std.specs.declared.cmp.Ordering.{Ordering}
use Rattle.std.specs.declared.cmp.Ordering.TheVariants.{Less, Equal, Greater}
use Rattle.std.specs.List.Sorted.{IsPermutation, IsSorted}
use Rattle.std.proofs.lemmas.Bool.{or_cases, or_left}
use Rattle.std.proofs.lemmas.List.{length-append}
use Rattle.std.proofs.lemmas.List.Sorted.{IsPermutation-map}
use Rattle.mc_text.specs.Routes.{Route, is_prefix, last_of}
use Rattle.tree_trait.specs.Answers.{name_cmp}
use Rattle.job_reports.specs.declared.job.Pair.{Pair}
use Rattle.op_plan.specs.Meeting.{meet, has_two}
use Rattle.op_plan.specs.Sorting.{route_cmp, has_neighbours}
use Rattle.op_plan.proofs.Paths.{bool_same, prefix-way, prefix-from, same_name, same_name-from}
use Rattle.op_plan.proofs.Sorted.{neighbours-sorted, neighbours-map, sorted-map}
use Rattle.op_plan.specs.Checks.{targets_from, none_twice}
use Rattle.op_plan.proofs.CheckLemmas.{twice-none}
use Rattle.op_plan.proofs.Twos.{list_any-same, two-map, two-permutation}

prefix_sibling : (folder : Route) (a b : List ℕ) → is_prefix (a ∷ folder) (b ∷ folder) ≡ true → a ≡ b
prefix_sibling folder a b h = go (prefix-way (a ∷ folder) (b ∷ folder) h).0 (prefix-way (a ∷ folder) (b ∷ folder) h).1
  where
    go : (rest : Route) → b ∷ folder ≡ rest ++ a ∷ folder → a ≡ b
    go [] e = cc
    go (r ∷ rest) e = absurd (let size = length-append (r ∷ rest) (a ∷ folder) in let same = ap length e in omega (arith, size, same))

prefix-siblings : (folder : Route) (a b : List ℕ) → is_prefix (a ∷ folder) (b ∷ folder) ≡ bytes_eq a b
prefix-siblings folder a b =
    bool_same (is_prefix (a ∷ folder) (b ∷ folder)) (bytes_eq a b)
    (λ h. same_name-from a b (prefix_sibling folder a b h))
    (λ h. prefix-from (a ∷ folder) (b ∷ folder) [] (ap (λ (n : List ℕ). n ∷ folder) (sym (same_name a b h))))

meet-siblings : (folder : Route) (a b : List ℕ) → meet (a ∷ folder) (b ∷ folder) ≡ bytes_eq a b
meet-siblings folder a b = bool_same (meet (a ∷ folder) (b ∷ folder)) (bytes_eq a b) to from
  where
    to : meet (a ∷ folder) (b ∷ folder) ≡ true → bytes_eq a b ≡ true
    to h =
        elim (or_cases (is_prefix (a ∷ folder) (b ∷ folder)) (is_prefix (b ∷ folder) (a ∷ folder)) h) [
          | inl here ↦ sym (prefix-siblings folder a b) ∙ here
          | inr turned ↦ same_name-from a b (sym (prefix_sibling folder b a turned))
        ]

    from : bytes_eq a b ≡ true → meet (a ∷ folder) (b ∷ folder) ≡ true
    from h = or_left (is_prefix (a ∷ folder) (b ∷ folder)) (is_prefix (b ∷ folder) (a ∷ folder)) (prefix-siblings folder a b ∙ h)

pub two-same : {X : Type 0} (f g : X → X → Bool) (xs : List X) → ((x y : X) → f x y ≡ g x y) → has_two f xs ≡ has_two g xs
two-same f g [] same = refl
two-same f g (x ∷ xs) same =
    ap (λ (b : Bool). b || has_two f xs) (list_any-same (f x) (g x) xs (same x)) ∙ ap (λ (b : Bool). list_any (g x) xs || b) (two-same f g xs same)

-- in one folder two paths meet where two names are one
pub siblings-two : (folder : Route) (names : List (List ℕ)) → has_two meet (map (λ name. name ∷ folder) names) ≡ has_two bytes_eq names
siblings-two folder names =
    two-map meet (λ name. name ∷ folder) names ∙ two-same (λ a b. meet (a ∷ folder) (b ∷ folder)) bytes_eq names (meet-siblings folder)

abbrev in_root : List ℕ → Route
in_root name = name ∷ []

single_lt : (o : Ordering) → is_lt (ordering_then o Equal) ≡ is_lt o
single_lt Less = refl
single_lt Equal = refl
single_lt Greater = refl

pub neighbours-same : {X : Type 0} (f g : X → X → Bool) (xs : List X) → ((x y : X) → f x y ≡ g x y) → has_neighbours f xs ≡ has_neighbours g xs
neighbours-same f g [] same = refl
neighbours-same f g (a ∷ []) same = refl
neighbours-same f g (a ∷ b ∷ xs) same =
    ap (λ (x : Bool). x || has_neighbours f (b ∷ xs)) (same a b) ∙ ap (λ (x : Bool). g a b || x) (neighbours-same f g (b ∷ xs) same)

-- sorted names, of which two are one where two neighbours are
names_sorted : (names : List (List ℕ)) → IsSorted name_cmp names → has_two bytes_eq names ≡ has_neighbours bytes_eq names
names_sorted names up =
    let risen : IsSorted route_cmp (map in_root names) =
    sorted-map (λ a b. is_lt (route_cmp a b)) in_root names (λ k d low high. single_lt _ ∙ up k d low high) in
    sym (siblings-two [] names)
    ∙ (neighbours-sorted (map in_root names) risen
    ∙ (sym (neighbours-map is_prefix in_root names) ∙ neighbours-same (λ a b. is_prefix (a ∷ []) (b ∷ [])) bytes_eq names (prefix-siblings [])))

-- the order of the names doesn't matter, and once they are sorted two neighbours are one
pub names-twice : (names sorted : List (List ℕ)) → IsPermutation names sorted → IsSorted name_cmp sorted → has_neighbours bytes_eq sorted ≡ has_two bytes_eq names
names-twice names sorted moved up =
    sym (names_sorted sorted up)
    ∙ (sym (siblings-two [] sorted)
    ∙ (sym (two-permutation (map in_root names) (map in_root sorted) (IsPermutation-map in_root names sorted moved)) ∙ siblings-two [] names))

-- a path one name longer than a folder that it begins with
pub child-of : {X : Type 0} (folder path : Route) (text : X → List ℕ) (last : Option X) → is_prefix folder path ≡ true → length path ≡ length folder + 1
    → option_map text last ≡ last_of path → IfSome last (λ name. path ≡ text name ∷ folder)
child-of {X} folder path text last h size e = go (prefix-way folder path h).0 (prefix-way folder path h).1 last e
  where
    go : (rest : Route) → path ≡ rest ++ folder → (last : Option X) → option_map text last ≡ last_of path → IfSome last (λ name. path ≡ text name ∷ folder)
    go rest way None e = tt
    go [] way (Some name) e = absurd (let same = ap length way in omega (arith, same, size))
    go (r ∷ []) way (Some name) e =
        let both : Some (text name) ≡ Some r = e ∙ ap last_of way in
        let is : r ≡ text name = cc in
        way ∙ ap (λ (n : List ℕ). n ∷ folder) is
    go (r ∷ q ∷ rest) way (Some name) e = absurd (let same = ap length way in let more = length-append (r ∷ q ∷ rest) folder in omega (arith, same, more, size))

-- targets in one folder, of which no two are one
pub targets_apart : (names : List (List ℕ)) (pairs : List Pair) → ((folder : Route) × (targets_from pairs ≡ map (λ name. name ∷ folder) names))
    → has_two bytes_eq names ≡ false → has_two meet (targets_from pairs) ≡ false
targets_apart names pairs (folder, e) h = ap (has_two meet) e ∙ (siblings-two folder names ∙ h)

pub none_twice_apart : (names : List (List ℕ)) (pairs : List Pair) → ((folder : Route) × (targets_from pairs ≡ map (λ name. name ∷ folder) names))
    → has_two bytes_eq names ≡ false → none_twice pairs ≡ Ok tt
none_twice_apart names pairs e h = twice-none pairs (targets_apart names pairs e h)
