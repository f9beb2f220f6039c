-- The checks of a plan, from what the code finds.
use Rattle.std.proofs.Common.{◌≡◌, ℕ, ◌+◌, ◌<◌, ◌≤◌, suc, Bool, true, false, cond, List, [], ◌∷◌, length, map, take, drop, get_or, Option, Some, None, Ok, Err, refl, sym, ap, ◌∙◌, subst, arith}
use Rattle.std.specs.Prelude.{◌||◌, not, nat_lt, option_map, slice_get}
use Rattle.std.specs.List.{list_any, find, position, position_or_len, zip}
use Rattle.std.specs.Str.{bytes_eq}
use Rattle.std.proofs.Math.Seq.{drop-cons}
use Rattle.std.proofs.lemmas.Bool.{or_parts}
use Rattle.std.proofs.lemmas.List.{get_or_default, take-map, length-map, get_or-map, drop_all}
use Rattle.std.proofs.lemmas.List.Folds.{list_any_more}
use Rattle.std.proofs.lemmas.Option.{slice_get-get_or}
use Rattle.mc_text.specs.Routes.{Route, same_path}
use Rattle.job_reports.specs.declared.job.Pair.{Pair}
use Rattle.op_plan.specs.declared.error.PlanError.TheVariants.{Nested, SameFile, TwoToOne}
use Rattle.op_plan.specs.Meeting.{meet, has_two, first_across, with_first}
use Rattle.op_plan.specs.Sorting.{AreFirst}
use Rattle.op_plan.specs.Answering.{unless}
use Rattle.op_plan.specs.Checks.{nested_error, none_nested, sources_in, targets_from, pair, paired_sources, none_same, two_to_one, none_twice}
use Rattle.op_plan.proofs.Paths.{bool_same, same_name, same_name-from}
use Rattle.op_plan.proofs.Twos.{first_two-none, two-found, two-map, find-position, position-none}

pub next-drop : {A : Type 0} (xs : List A) (n : ℕ) (x : A) → n < length xs → x ≡ get_or xs n x → drop n xs ≡ x ∷ drop (n + 1) xs
next-drop {A} xs n x within is_x =
    drop-cons xs n x within ∙ (ap (λ (y : A). y ∷ drop (suc n) xs) (sym is_x) ∙ ap (λ (k : ℕ). x ∷ drop k xs) (next n))
  where
    next : (k : ℕ) → suc k ≡ k + 1
    next k = omega arith

pub nested-none : (sources : List Route) → has_two meet sources ≡ false → none_nested sources ≡ Ok tt
nested-none sources h = ap (λ o. unless (option_map nested_error o)) (first_two-none meet [] sources h)

pub nested-some : (sources : List Route) (i j : ℕ) (a b : Route) → AreFirst sources i j → a ≡ get_or sources i a → b ≡ get_or sources j b
    → none_nested sources ≡ Err (Nested a b)
nested-some sources i j a b found is_a is_b =
    let before = found.order in
    let within = found.within in
    let smaller : i < length sources = omega arith in
    let here : position (λ other. meet other (get_or sources j b)) (take j sources) ≡ Some i =
    found.first_is (get_or sources j b) (slice_get-get_or sources j b within) in
    ap (λ o. unless (option_map nested_error o)) (two-found meet sources i j b within found.before here)
    ∙ (ap (λ (r : Route). Err (Nested r (get_or sources j b))) (get_or_default sources i b a smaller ∙ sym is_a)
    ∙ ap (λ (r : Route). Err (Nested a r)) (sym is_b))

-- ---- pairs

pub find-none : {A : Type 0} (p : A → Bool) (xs : List A) → list_any p xs ≡ false → find p xs ≡ None
find-none p [] e = refl
find-none p (x ∷ xs) e = let parts = or_parts (p x) (list_any p xs) e in rw parts.0 (find-none p xs parts.1)

any_find : {A : Type 0} (x : A) (b rest : Bool) (o : Option A) → cond b (Some x) o ≡ None → (o ≡ None → rest ≡ false) → (b || rest) ≡ false
any_find x true rest o h next = cc
any_find x false rest o h next = next h

any-find : {A : Type 0} (p : A → Bool) (xs : List A) → find p xs ≡ None → list_any p xs ≡ false
any-find p [] e = refl
any-find p (x ∷ xs) e = any_find x (p x) (list_any p xs) (find p xs) e (any-find p xs)

find_map : {A B : Type 0} (f : A → B) (x : A) (b : Bool) (mine : Option B) (o : Option A) → mine ≡ option_map f o → cond b (Some (f x)) mine ≡ option_map f (cond b (Some x) o)
find_map f x true mine o h = refl
find_map f x false mine o h = h

find-map : {A B : Type 0} (p : B → Bool) (f : A → B) (xs : List A) → find p (map f xs) ≡ option_map f (find (λ x. p (f x)) xs)
find-map p f [] = refl
find-map p f (x ∷ xs) = find_map f x (p (f x)) (find p (map f xs)) (find (λ x. p (f x)) xs) (find-map p f xs)

pub same-none : (pairs : List Pair) → position (λ (pair : Pair). same_path pair.source pair.target) pairs ≡ None → none_same pairs ≡ Ok tt
same-none pairs h =
    ap (λ o. unless (option_map (λ (pair : Pair). SameFile pair.source) o)) (find-none (λ (pair : Pair). same_path pair.source pair.target) pairs (position-none (λ (pair : Pair). same_path pair.source pair.target) pairs h))

pub same-some : (pairs : List Pair) (at : ℕ) (pair : Pair) → position (λ (pair : Pair). same_path pair.source pair.target) pairs ≡ Some at
    → pair ≡ get_or pairs at pair → none_same pairs ≡ Err (SameFile pair.source)
same-some pairs at pair h is_pair =
    ap (λ o. unless (option_map (λ (pair : Pair). SameFile pair.source) o)) (find-position (λ (pair : Pair). same_path pair.source pair.target) pairs at pair h)
    ∙ ap (λ (x : Pair). Err (SameFile x.source)) (sym is_pair)

pub across-next : (pairs : List Pair) (targets : List Route) (n : ℕ) (pair : Pair) → n < length pairs → pair ≡ get_or pairs n pair
    → list_any (meet pair.source) targets ≡ false
    → first_across meet (sources_in (drop (n + 1) pairs)) targets ≡ first_across meet (sources_in (drop n pairs)) targets
across-next pairs targets n pair within is_pair apart =
    sym (ap (λ (l : List Pair). first_across meet (sources_in l) targets) (next-drop pairs n pair within is_pair)
    ∙ ap (λ o. with_first pair.source o (first_across meet (sources_in (drop (n + 1) pairs)) targets)) (find-none (meet pair.source) targets apart))

pub across-found : (pairs : List Pair) (n at : ℕ) (pair other : Pair) → n < length pairs → pair ≡ get_or pairs n pair
    → position (λ (p : Pair). meet pair.source p.target) pairs ≡ Some at → other ≡ get_or pairs at other
    → first_across meet (sources_in (drop n pairs)) (targets_from pairs) ≡ Some (pair.source, other.target)
across-found pairs n at pair other within is_pair found is_other =
    ap (λ (l : List Pair). first_across meet (sources_in l) (targets_from pairs)) (next-drop pairs n pair within is_pair)
    ∙ ap (λ o. with_first pair.source o (first_across meet (sources_in (drop (n + 1) pairs)) (targets_from pairs)))
    (find-map (meet pair.source) (λ (p : Pair). p.target) pairs
    ∙ (ap (option_map (λ (p : Pair). p.target)) (find-position (λ (p : Pair). meet pair.source p.target) pairs at other found)
    ∙ ap (λ (p : Pair). Some p.target) (sym is_other)))

-- none of the pairs that are left
pub across-end : (pairs : List Pair) (targets : List Route) (n : ℕ) → length pairs ≤ n → first_across meet (sources_in (drop n pairs)) targets ≡ None
across-end pairs targets n all = ap (λ (l : List Pair). first_across meet (sources_in l) targets) (drop_all n pairs all)

across_none : (source : Route) (targets : List Route) (o : Option Route) (later : Option (Route × Route)) (rest : Bool) → find (meet source) targets ≡ o
    → with_first source o later ≡ None → (later ≡ None → rest ≡ false) → (list_any (meet source) targets || rest) ≡ false
across_none source targets None later rest e h next = ap (λ (b : Bool). b || rest) (any-find (meet source) targets e) ∙ next h
across_none source targets (Some target) later rest e h next = cc

-- none crosses where nothing was found
pub across-none : (sources targets : List Route) → first_across meet sources targets ≡ None → list_any (λ source. list_any (meet source) targets) sources ≡ false
across-none [] targets h = refl
across-none (source ∷ sources) targets h =
    across_none source targets (find (meet source) targets) (first_across meet sources targets) (list_any (λ source. list_any (meet source) targets) sources) refl h
    (across-none sources targets)

-- ---- two sources with one target

slice_get-map : (f : Pair → Route) (xs : List Pair) (n : ℕ) (x : Pair) → n < length xs → x ≡ get_or xs n x → slice_get (map f xs) n ≡ Some (f x)
slice_get-map f xs n x within is_x =
    slice_get-get_or (map f xs) n (f x) (omega (arith, length-map xs f)) ∙ ap (λ (r : Route). Some r) (get_or-map f xs n x (f x) within ∙ ap f (sym is_x))

len-map : (p : Route → Bool) (f : Pair → Route) (xs : List Pair) → position_or_len p (map f xs) ≡ position_or_len (λ x. p (f x)) xs
len-map p f [] = refl
len-map p f (x ∷ xs) = ap (λ (n : ℕ). cond (not (p (f x))) (1 + n) 0) (len-map p f xs)

position-map : (p : Route → Bool) (f : Pair → Route) (xs : List Pair) → position p (map f xs) ≡ position (λ x. p (f x)) xs
position-map p f xs =
    ap (λ (n : ℕ). cond (nat_lt n (length (map f xs))) (Some n) None) (len-map p f xs)
    ∙ ap (λ (n : ℕ). cond (nat_lt (position_or_len (λ x. p (f x)) xs) n) (Some (position_or_len (λ x. p (f x)) xs)) None) (length-map xs f)

pub twice-none : (pairs : List Pair) → has_two meet (targets_from pairs) ≡ false → none_twice pairs ≡ Ok tt
twice-none pairs h =
    ap (λ o. unless (option_map two_to_one o))
    (first_two-none (λ (a b : Pair). meet a.target b.target) [] pairs (sym (two-map meet (λ (pair : Pair). pair.target) pairs) ∙ h))

pub twice-some : (pairs : List Pair) (i j : ℕ) (a b : Pair) → AreFirst (targets_from pairs) i j → a ≡ get_or pairs i a → b ≡ get_or pairs j b
    → none_twice pairs ≡ Err (TwoToOne a.source b.source)
twice-some pairs i j a b found is_a is_b =
    let target : Pair → Route = λ (pair : Pair). pair.target in
    let order = found.order in
    let within : j < length pairs = (let w = found.within in omega (arith, w, length-map pairs target)) in
    let smaller : i < length pairs = omega arith in
    let at_j : slice_get (targets_from pairs) j ≡ Some b.target =
    slice_get-map target pairs j b within is_b in
    let here : position (λ (other : Pair). meet other.target b.target) (take j pairs) ≡ Some i =
    sym (position-map (λ other. meet other b.target) target (take j pairs)) ∙ (ap (position (λ other. meet other b.target)) (sym (take-map target j pairs)) ∙ found.first_is b.target at_j) in
    let apart : has_two (λ (x y : Pair). meet x.target y.target) (take j pairs) ≡ false =
    sym (two-map meet target (take j pairs)) ∙ (ap (has_two meet) (sym (take-map target j pairs)) ∙ found.before) in
    let P : Pair → Type 0 = λ (pair : Pair). position (λ (other : Pair). meet other.target pair.target) (take j pairs) ≡ Some i in
    ap (λ o. unless (option_map two_to_one o)) (two-found (λ (x y : Pair). meet x.target y.target) pairs i j b within apart (subst P is_b here))
    ∙ (ap (λ (pair : Pair). Err (TwoToOne pair.source (get_or pairs j b).source)) (get_or_default pairs i b a smaller ∙ sym is_a)
    ∙ ap (λ (pair : Pair). Err (TwoToOne a.source pair.source)) (sym is_b))

-- ---- sources beside their targets

zipped : (sources targets : List Route) → map (λ (p : Route × Route). pair p.0 p.1) (zip sources targets) ≡ paired_sources sources targets
zipped [] targets = refl
zipped (s ∷ sources) [] = refl
zipped (s ∷ sources) (t ∷ targets) = ap (λ (l : List Pair). pair s t ∷ l) (zipped sources targets)

pub paired-zip : (sources targets : List Route) (yielded : List (Route × Route)) → map (λ (p : Route × Route). (p.0, p.1)) yielded ≡ zip sources targets
    → map (λ (p : Route × Route). pair p.0 p.1) yielded ≡ paired_sources sources targets
paired-zip sources targets yielded e = same yielded ∙ (ap (map (λ (p : Route × Route). pair p.0 p.1)) e ∙ zipped sources targets)
  where
    same : (l : List (Route × Route)) → map (λ (p : Route × Route). pair p.0 p.1) l ≡ map (λ (p : Route × Route). pair p.0 p.1) (map (λ (p : Route × Route). (p.0, p.1)) l)
    same [] = refl
    same (p ∷ l) = ap (λ (rest : List Pair). pair p.0 p.1 ∷ rest) (same l)

pub sources-paired : (sources targets : List Route) → length targets ≡ length sources → sources_in (paired_sources sources targets) ≡ sources
sources-paired [] targets h = refl
sources-paired (s ∷ sources) [] h = absurd (omega arith)
sources-paired (s ∷ sources) (t ∷ targets) h = ap (λ (l : List Route). s ∷ l) (sources-paired sources targets (omega arith))

pub targets-paired : (sources targets : List Route) → length targets ≡ length sources → targets_from (paired_sources sources targets) ≡ targets
targets-paired [] [] h = refl
targets-paired [] (t ∷ targets) h = absurd (omega arith)
targets-paired (s ∷ sources) [] h = absurd (omega arith)
targets-paired (s ∷ sources) (t ∷ targets) h = ap (λ (l : List Route). t ∷ l) (targets-paired sources targets (omega arith))

pub any-pushed : (names : List (List ℕ)) (n : ℕ) (x name : List ℕ) → n < length names → x ≡ get_or names n x
    → list_any (bytes_eq name) (take (n + 1) names) ≡ cond (bytes_eq x name) true (list_any (bytes_eq name) (take n names))
any-pushed names n x name within is_x =
    list_any_more (bytes_eq name) names n x within
    ∙ (ap (λ (y : List ℕ). list_any (bytes_eq name) (take n names) || bytes_eq name y) (sym is_x)
    ∙ (ap (λ (b : Bool). list_any (bytes_eq name) (take n names) || b) (bool_same (bytes_eq name x) (bytes_eq x name) (turned name x) (turned x name))
    ∙ either (list_any (bytes_eq name) (take n names)) (bytes_eq x name)))
  where
    turned : (a b : List ℕ) → bytes_eq a b ≡ true → bytes_eq b a ≡ true
    turned a b h = same_name-from b a (sym (same_name a b h))

    either : (a b : Bool) → (a || b) ≡ cond b true a
    either true true = refl
    either true false = refl
    either false true = refl
    either false false = refl
