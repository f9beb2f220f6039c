-- Sorted paths: where two of them meet, two neighbours do.
use Rattle.std.proofs.Common.{◌≡◌, ℕ, ◌+◌, ◌-◌, ◌<◌, ◌≤◌, zero, suc, Bool, true, false, List, [], ◌∷◌, length, map, reverse, get_or, refl, sym, ap, ◌∙◌, inl, inr, subst, ⊎_elim, arith}
use Rattle.std.specs.Prelude.{◌||◌, ◌&&◌, not}
use Rattle.std.specs.List.{list_any}
use Rattle.std.specs.Str.{bytes_eq}
use Rattle.std.specs.Cmp.{IsTotalOrder}
use Rattle.std.specs.Cmp.Lexicographic.{slice_cmp}
use Rattle.std.specs.Ordering.{is_lt, is_eq, ordering_then, ordering_reverse}
use Rattle.std.specs.declared.cmp.Ordering.{Ordering}
use Rattle.std.specs.declared.cmp.Ordering.TheVariants.{Less, Equal, Greater}
use Rattle.std.specs.List.Sorted.{IsSorted, IsSortedBy}
use Rattle.std.proofs.lemmas.List.{get_or_default, get_or-map, length-map}
use Rattle.std.proofs.lemmas.Bool.{cases_lt, false≢true, or_cases, or_left, or_right, and_parts, and_from}
use Rattle.std.proofs.lemmas.Cmp.{nat_list_cmp_total, lists_total, on_total}
use Rattle.std.proofs.lemmas.List.Sorted.{ranks_by, sorted_far}
use Rattle.std.proofs.lemmas.Map.Text.{is_eq-slice_cmp}
use Rattle.mc_text.specs.Routes.{Route, is_prefix}
use Rattle.tree_trait.specs.Answers.{name_cmp}
use Rattle.op_plan.specs.Meeting.{meet, has_two}
use Rattle.op_plan.specs.Sorting.{comes_apart, route_cmp, has_neighbours, neighbours_meet}
use Rattle.op_plan.proofs.Paths.{bool_same, begins, same_name, same_name-from, prefix-begins}

pub route_total : IsTotalOrder route_cmp
route_total = on_total reverse (lists_total nat_list_cmp_total)

-- o says how a name stands to that of the path, and the other way round to one that begins like the path
between : (o low high : Ordering) → is_lt (ordering_then o low) ≡ false → is_lt (ordering_then (ordering_reverse o) high) ≡ false
    → (is_eq o ≡ true) × (is_lt low ≡ false) × (is_lt high ≡ false)
between Less low high h k = absurd (false≢true (sym h))
between Equal low high h k = (refl, h, k)
between Greater low high h k = absurd (false≢true (sym k))

tied : (o rest : Ordering) → is_eq o ≡ true → is_lt (ordering_then o rest) ≡ false → is_lt rest ≡ false
tied Less rest e h = absurd (false≢true e)
tied Equal rest e h = h
tied Greater rest e h = absurd (false≢true e)

-- what stands between a path and one that begins with it begins with it
names_between : (ns zs ms : Route) → begins ns ms ≡ true → is_lt (slice_cmp name_cmp zs ns) ≡ false → is_lt (slice_cmp name_cmp ms zs) ≡ false
    → begins ns zs ≡ true
names_between [] zs ms h low high = refl
names_between (n ∷ ns) zs [] h low high = absurd (false≢true h)
names_between (n ∷ ns) [] (m ∷ ms) h low high = absurd (false≢true (sym low))
names_between (n ∷ ns) (z ∷ zs) (m ∷ ms) h low high =
    let parts = and_parts (bytes_eq n m) (begins ns ms) h in
    let turned : name_cmp m z ≡ ordering_reverse (name_cmp z n) =
    ap (λ (x : List ℕ). name_cmp x z) (sym (same_name n m parts.0)) ∙ nat_list_cmp_total.antisymm n z in
    let P : Ordering → Type 0 = λ o. is_lt (ordering_then o (slice_cmp name_cmp ms zs)) ≡ false in
    let b = between (name_cmp z n) (slice_cmp name_cmp zs ns) (slice_cmp name_cmp ms zs) low (subst P turned high) in
    let name : n ≡ z = sym (same_name z n (sym (is_eq-slice_cmp z n) ∙ b.0)) in
    and_from (bytes_eq n z) (begins ns zs) (same_name-from n z name) (names_between ns zs ms parts.1 b.1 b.2)

-- a path that begins with a later one is that one
names_turned : (zs ns : Route) → begins zs ns ≡ true → is_lt (slice_cmp name_cmp zs ns) ≡ false → begins ns zs ≡ true
names_turned [] [] h low = refl
names_turned [] (n ∷ ns) h low = absurd (false≢true (sym low))
names_turned (z ∷ zs) [] h low = absurd (false≢true h)
names_turned (z ∷ zs) (n ∷ ns) h low =
    let parts = and_parts (bytes_eq z n) (begins zs ns) h in
    let rest = tied (name_cmp z n) (slice_cmp name_cmp zs ns) (is_eq-slice_cmp z n ∙ parts.0) low in
    and_from (bytes_eq n z) (begins ns zs) (same_name-from n z (sym (same_name z n parts.0))) (names_turned zs ns parts.1 rest)

prefix_between : (a b c : Route) → is_prefix a c ≡ true → is_lt (route_cmp b a) ≡ false → is_lt (route_cmp c b) ≡ false → is_prefix a b ≡ true
prefix_between a b c h low high =
    prefix-begins a b ∙ names_between (reverse a) (reverse b) (reverse c) (sym (prefix-begins a c) ∙ h) low high

prefix_turned : (a b : Route) → is_prefix b a ≡ true → is_lt (route_cmp b a) ≡ false → is_prefix a b ≡ true
prefix_turned a b h low = prefix-begins a b ∙ names_turned (reverse b) (reverse a) (sym (prefix-begins b a) ∙ h) low

-- no path comes before a
abbrev NoneBefore : Route → List Route → Type 0
NoneBefore a [] = Unit {0}
NoneBefore a (b ∷ paths) = (is_lt (route_cmp b a) ≡ false) × NoneBefore a paths

abbrev Rises : List Route → Type 0
Rises [] = Unit {0}
Rises (a ∷ paths) = NoneBefore a paths × Rises paths

meets_below : (a b : Route) → meet a b ≡ true → is_lt (route_cmp b a) ≡ false → is_prefix a b ≡ true
meets_below a b h low =
    elim (or_cases (is_prefix a b) (is_prefix b a) h) [ inl below ↦ below | inr above ↦ prefix_turned a b above low ]

meets_later : (a b : Route) (paths : List Route) → NoneBefore a paths → NoneBefore b paths → is_lt (route_cmp b a) ≡ false
    → list_any (meet a) paths ≡ true → is_prefix a b ≡ true
meets_later a b [] ra rb low h = absurd (false≢true h)
meets_later a b (c ∷ paths) ra rb low h =
    elim (or_cases (meet a c) (list_any (meet a) paths) h) [
      | inl here ↦ prefix_between a b c (meets_below a c here ra.0) low rb.0
      | inr later ↦ meets_later a b paths ra.1 rb.1 low later
    ]

first_meets : (a b : Route) (paths : List Route) → NoneBefore a (b ∷ paths) → NoneBefore b paths
    → list_any (meet a) (b ∷ paths) ≡ is_prefix a b
first_meets a b paths ra rb = bool_same (list_any (meet a) (b ∷ paths)) (is_prefix a b) to from
  where
    to : list_any (meet a) (b ∷ paths) ≡ true → is_prefix a b ≡ true
    to h =
        elim (or_cases (meet a b) (list_any (meet a) paths) h) [
          | inl here ↦ meets_below a b here ra.0
          | inr later ↦ meets_later a b paths ra.1 rb ra.0 later
        ]

    from : is_prefix a b ≡ true → list_any (meet a) (b ∷ paths) ≡ true
    from h = or_left (meet a b) (list_any (meet a) paths) (or_left (is_prefix a b) (is_prefix b a) h)

neighbours_all : (paths : List Route) → Rises paths → has_two meet paths ≡ neighbours_meet paths
neighbours_all [] r = refl
neighbours_all (a ∷ []) r = refl
neighbours_all (a ∷ b ∷ paths) r =
    ap (λ (x : Bool). x || has_two meet (b ∷ paths)) (first_meets a b paths r.0 r.1.0)
    ∙ ap (λ (x : Bool). is_prefix a b || x) (neighbours_all (b ∷ paths) r.1)

none_before : (a : Route) (paths : List Route) → ((j : ℕ) (d : Route) → j < length paths → is_lt (route_cmp (get_or paths j d) a) ≡ false) → NoneBefore a paths
none_before a [] h = tt
none_before a (b ∷ paths) h = (h 0 b (omega arith), none_before a paths (λ j d below. h (suc j) d (omega arith)))

rises : (paths : List Route) → ((i j : ℕ) (d : Route) → i ≤ j → j < length paths → is_lt (route_cmp (get_or paths j d) (get_or paths i d)) ≡ false) → Rises paths
rises [] h = tt
rises (a ∷ paths) h =
    (none_before a paths (λ j d below. h 0 (suc j) d (omega arith) (omega arith)), rises paths (λ i j d le below. h (suc i) (suc j) d (omega arith) (omega arith)))

pub neighbours-sorted : (paths : List Route) → IsSorted route_cmp paths → has_two meet paths ≡ neighbours_meet paths
neighbours-sorted paths up =
    neighbours_all paths (rises paths (sorted_far (λ x y. is_lt (route_cmp x y)) (ranks_by route_total (λ (x : Route). x)) paths up))

-- ---- neighbours by their positions

module _ {X : Type 0} (test : X → X → Bool) where
  pub neighbours-none : (xs : List X) → ((k : ℕ) (d : X) → suc k < length xs → test (get_or xs k d) (get_or xs (suc k) d) ≡ false) → has_neighbours test xs ≡ false
  neighbours-none [] h = refl
  neighbours-none (a ∷ []) h = refl
  neighbours-none (a ∷ b ∷ xs) h =
      let first : test a b ≡ false = h 0 a (omega arith) in
      rw first (neighbours-none (b ∷ xs) (λ k d below. h (suc k) d (omega arith)))

  neighbours-some : (xs : List X) (k : ℕ) (d : X) → suc k < length xs → test (get_or xs k d) (get_or xs (suc k) d) ≡ true → has_neighbours test xs ≡ true
  neighbours-some [] k d below h = absurd (omega arith)
  neighbours-some (a ∷ []) k d below h = absurd (omega arith)
  neighbours-some (a ∷ b ∷ xs) zero d below h = or_left (test a b) (has_neighbours test (b ∷ xs)) h
  neighbours-some (a ∷ b ∷ xs) (suc k) d below h = or_right (test a b) (has_neighbours test (b ∷ xs)) (neighbours-some (b ∷ xs) k d (omega arith) h)

  -- the same, where the second of two is read at `at` and the first before it
  pub neighbours-at : (xs : List X) (at : ℕ) (a b : X) → 1 ≤ at → at < length xs → a ≡ get_or xs (at - 1) a → b ≡ get_or xs at b
      → test a b ≡ true → has_neighbours test xs ≡ true
  neighbours-at xs zero a b some below is_a is_b h = absurd (omega arith)
  neighbours-at xs (suc k) a b some below is_a is_b h =
      let before : suc k - 1 ≡ k = omega arith in
      let first : a ≡ get_or xs k a = is_a ∙ ap (λ (i : ℕ). get_or xs i a) before in
      let second : b ≡ get_or xs (suc k) a = is_b ∙ get_or_default xs (suc k) b a below in
      let P : X → Type 0 = λ r. test r (get_or xs (suc k) a) ≡ true in
      let Q : X → Type 0 = λ r. test a r ≡ true in
      neighbours-some xs k a below (subst P first (subst Q second h))

  pub neighbours-step : (xs : List X) (at : ℕ) (a b : X) → 1 ≤ at → at < length xs → a ≡ get_or xs (at - 1) a → b ≡ get_or xs at b
      → test a b ≡ false → ((k : ℕ) (d : X) → k + 1 < at → test (get_or xs k d) (get_or xs (k + 1) d) ≡ false)
      → (k : ℕ) (d : X) → k + 1 < at + 1 → test (get_or xs k d) (get_or xs (k + 1) d) ≡ false
  neighbours-step xs at a b some below is_a is_b h older k d near =
      ⊎_elim
      (λ (earlier : k + 1 < at). older k d earlier)
      (λ (not_earlier : at ≤ k + 1).
      let here : k + 1 ≡ at = omega arith in
      let before : k ≡ at - 1 = omega arith in
      let smaller : at - 1 < length xs = omega arith in
      let first : get_or xs k d ≡ a = ap (λ (i : ℕ). get_or xs i d) before ∙ (get_or_default xs (at - 1) d a smaller ∙ sym is_a) in
      let second : get_or xs (k + 1) d ≡ b = ap (λ (i : ℕ). get_or xs i d) here ∙ (get_or_default xs at d b below ∙ sym is_b) in
      ap (λ (r : X). test r (get_or xs (k + 1) d)) first ∙ (ap (λ (r : X). test a r) second ∙ h))
      (cases_lt (k + 1) at)

  pub neighbours-all : (xs : List X) (end : ℕ) → length xs ≤ end
      → ((k : ℕ) (d : X) → k + 1 < end → test (get_or xs k d) (get_or xs (k + 1) d) ≡ false) → has_neighbours test xs ≡ false
  neighbours-all xs end all h =
      neighbours-none xs (λ k d below.
      let next : k + 1 ≡ suc k = omega arith in
      let P : ℕ → Type 0 = λ i. test (get_or xs k d) (get_or xs i d) ≡ false in
      subst P next (h k d (omega arith)))

-- the same of what the list's items have
pub neighbours-map : {X Y : Type 0} (test : Y → Y → Bool) (f : X → Y) (xs : List X) → has_neighbours (λ a b. test (f a) (f b)) xs ≡ has_neighbours test (map f xs)
neighbours-map test f [] = refl
neighbours-map test f (a ∷ []) = refl
neighbours-map test f (a ∷ b ∷ xs) = ap (λ (x : Bool). test (f a) (f b) || x) (neighbours-map test f (b ∷ xs))

pub sorted-map : {X Y : Type 0} (lt : Y → Y → Bool) (f : X → Y) (xs : List X) → IsSortedBy (λ a b. lt (f a) (f b)) xs → IsSortedBy lt (map f xs)
sorted-map {X} {Y} lt f [] up = λ k d low high. absurd (omega arith)
sorted-map {X} {Y} lt f (x ∷ xs) up = λ k d low high.
    let size : length (map f (x ∷ xs)) ≡ length (x ∷ xs) = length-map (x ∷ xs) f in
    let within : k + 1 < length (x ∷ xs) = omega (arith, size, high) in
    ap (λ (y : Y). lt y (get_or (map f (x ∷ xs)) k d)) (get_or-map f (x ∷ xs) (k + 1) x d within)
    ∙ (ap (λ (y : Y). lt (f (get_or (x ∷ xs) (k + 1) x)) y) (get_or-map f (x ∷ xs) k x d (omega arith)) ∙ up k x low within)

-- ---- paths that come in their order

pub less_turned : (o : Ordering) → is_lt o ≡ true → is_lt (ordering_reverse o) ≡ false
less_turned Less h = refl
less_turned Equal h = absurd (false≢true h)
less_turned Greater h = absurd (false≢true h)

apart_parts : (x y : Bool) → (x && not y) ≡ true → (x ≡ true) × (y ≡ false)
apart_parts true true h = absurd (false≢true h)
apart_parts true false h = (refl, refl)
apart_parts false y h = absurd (false≢true h)

abbrev ComeApart : List Route → Type 0
ComeApart paths = (k : ℕ) (d : Route) → k + 1 < length paths → comes_apart (get_or paths k d) (get_or paths (k + 1) d) ≡ true

-- each comes before the next one and doesn't hold it, so no two meet
pub rising-apart : (paths : List Route) → ComeApart paths → has_two meet paths ≡ false
rising-apart paths apart =
    let up : IsSorted route_cmp paths = λ k d low high.
    let parts = apart_parts _ _ (apart k d (omega (arith, high))) in
    ap is_lt (route_total.antisymm (get_or paths (k + 1) d) (get_or paths k d)) ∙ less_turned (route_cmp (get_or paths k d) (get_or paths (k + 1) d)) parts.0 in
    neighbours-sorted paths up
    ∙ neighbours-all is_prefix paths (length paths) (omega arith) (λ k d below. (apart_parts _ _ (apart k d (omega (arith, below)))).1)
