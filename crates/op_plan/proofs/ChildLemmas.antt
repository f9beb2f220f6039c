-- What a path has to do with a folder's children.
use Rattle.std.proofs.Common.{◌≡◌, ℕ, ◌<◌, ◌≤◌, Bool, true, false, cond, List, [], ◌∷◌, ◌++◌, length, map, reverse, get_or, Option, Some, None, refl, sym, ap, ◌∙◌, inl, inr, arith}
use Rattle.std.specs.Prelude.{◌||◌}
use Rattle.std.specs.Option.{option_map_or}
use Rattle.std.specs.List.{list_any}
use Rattle.std.specs.Str.{bytes_eq}
use Rattle.std.proofs.Math.Seq.{get_or-append_seam}
use Rattle.std.proofs.lemmas.Bool.{false≢true, both_ways, or_cases, or_parts, or_left, or_right, false_from_ne_true}
use Rattle.std.proofs.lemmas.List.{length-append, length-reverse, get_or_append_left, reverse-append}
use Rattle.mc_text.specs.Routes.{Route, same_path, is_prefix}
use Rattle.mc_text.proofs.Prefixes.{same_path-lengths}
use Rattle.op_plan.specs.Meeting.{meet}
use Rattle.op_plan.specs.Checks.{child_above}
use Rattle.op_plan.proofs.Paths.{same-true, same-self, same_name-from, prefix-way, prefix-from}
use Rattle.op_plan.proofs.Twos.{any-map}

rev-cons : (n : List ℕ) (holder : Route) → reverse (n ∷ holder) ≡ reverse holder ++ n ∷ []
rev-cons n holder = reverse-append (n ∷ []) holder

-- a path that lies deeper than the folder
deeper : (folder holder : Route) → is_prefix folder holder ≡ true → same_path folder holder ≡ false → length folder < length holder
deeper folder holder h differs = go (prefix-way folder holder h).0 (prefix-way folder holder h).1
  where
    go : (rest : Route) → holder ≡ rest ++ folder → length folder < length holder
    go [] e = absurd (both_ways (same_path folder holder) differs (ap (same_path folder) e ∙ same-self folder))
    go (r ∷ rest) e = let size = length-append (r ∷ rest) folder in let same = ap length e in omega (arith, size, same)

child_step : (folder holder : Route) (n d : List ℕ) (b : Bool) → same_path folder holder ≡ b → is_prefix folder (n ∷ holder) ≡ true → length folder < length (n ∷ holder)
    → (is_prefix folder holder ≡ true → length folder < length holder → child_above folder holder ≡ Some (get_or (reverse holder) (length folder) d))
    → cond b (Some n) (child_above folder holder) ≡ Some (get_or (reverse (n ∷ holder)) (length folder) d)
child_step folder holder n d true e h below next =
    let size : length folder ≡ length (reverse holder) = ap length (same-true folder holder e) ∙ sym (length-reverse holder) in
    sym (ap (λ (l : Route). Some (get_or l (length folder) d)) (rev-cons n holder)
    ∙ (ap (λ (i : ℕ). Some (get_or (reverse holder ++ n ∷ []) i d)) size ∙ ap (λ (x : List ℕ). Some x) (get_or-append_seam (reverse holder) n [] d)))
child_step folder holder n d false e h below next =
    let inside : is_prefix folder holder ≡ true =
    (elim (or_cases (same_path folder (n ∷ holder)) (is_prefix folder holder) h) [
      | inl here ↦ absurd (let same = ap length (same-true folder (n ∷ holder) here) in omega (arith, same))
      | inr above ↦ above
    ]) in
    let lower = deeper folder holder inside e in
    let fits : length folder < length (reverse holder) = omega (arith, lower, length-reverse holder) in
    next inside lower
    ∙ ap (λ (x : List ℕ). Some x) (sym (get_or_append_left (reverse holder) (n ∷ []) d (length folder) fits) ∙ ap (λ (l : Route). get_or l (length folder) d) (sym (rev-cons n holder)))

pub child-at : (folder path : Route) (d : List ℕ) → is_prefix folder path ≡ true → length folder < length path
    → child_above folder path ≡ Some (get_or (reverse path) (length folder) d)
child-at folder [] d h below = absurd (omega arith)
child-at folder (n ∷ holder) d h below = child_step folder holder n d (same_path folder holder) refl h below (child-at folder holder d)

pub child-outside : (folder path : Route) → is_prefix folder path ≡ false → child_above folder path ≡ None
child-outside folder [] h = refl
child-outside folder (n ∷ holder) h =
    let parts = or_parts (same_path folder (n ∷ holder)) (is_prefix folder holder) h in
    let differs : same_path folder holder ≡ false =
    false_from_ne_true (same_path folder holder) (λ same. both_ways (is_prefix folder holder) parts.1 (prefix-from folder holder [] (sym (same-true folder holder same)))) in
    rw differs (child-outside folder holder parts.1)

pub child-short : (folder path : Route) → length path ≤ length folder → child_above folder path ≡ None
child-short folder [] h = refl
child-short folder (n ∷ holder) h =
    let differs : same_path folder holder ≡ false = same_path-lengths folder holder (λ same. omega (arith, same)) in
    rw differs (child-short folder holder (omega arith))

child-way : (folder : Route) (name : List ℕ) (rest : Route) → child_above folder (rest ++ name ∷ folder) ≡ Some name
child-way folder name [] = rw (same-self folder) refl
child-way folder name (r ∷ rest) =
    let differs : same_path folder (rest ++ name ∷ folder) ≡ false =
    same_path-lengths folder (rest ++ name ∷ folder) (λ same. let size = length-append rest (name ∷ folder) in omega (arith, same, size)) in
    rw differs (child-way folder name rest)

-- a path that meets one of these children is the folder, holds it, or is or lies in a child with such a name
meets_one : (folder path : Route) (names some : List (List ℕ)) → ((n : List ℕ) → list_any (bytes_eq n) some ≡ true → list_any (bytes_eq n) names ≡ true)
    → list_any (λ name. meet path (name ∷ folder)) some ≡ true
    → (is_prefix path folder || option_map_or (λ name. list_any (bytes_eq name) names) (child_above folder path) false) ≡ true
meets_one folder path names [] among h = absurd (false≢true h)
meets_one folder path names (name ∷ some) among h =
    elim (or_cases (meet path (name ∷ folder)) (list_any (λ name. meet path (name ∷ folder)) some) h) [
      | inl here ↦
          elim (or_cases (is_prefix path (name ∷ folder)) (is_prefix (name ∷ folder) path) here) [
            | inl above ↦
                elim (or_cases (same_path path (name ∷ folder)) (is_prefix path folder) above) [
                  | inl same ↦ inside [] (same-true path (name ∷ folder) same)
                  | inr holds ↦ or_left (is_prefix path folder) (option_map_or (λ name. list_any (bytes_eq name) names) (child_above folder path) false) holds
                ]
            | inr below ↦ let w = prefix-way (name ∷ folder) path below in inside w.0 w.1
          ]
      | inr later ↦ meets_one folder path names some (λ n k. among n (or_right (bytes_eq n name) (list_any (bytes_eq n) some) k)) later
    ]
  where
    inside : (rest : Route) → path ≡ rest ++ name ∷ folder
        → (is_prefix path folder || option_map_or (λ name. list_any (bytes_eq name) names) (child_above folder path) false) ≡ true
    inside rest e =
        or_right (is_prefix path folder) (option_map_or (λ name. list_any (bytes_eq name) names) (child_above folder path) false)
        (ap (λ o. option_map_or (λ name. list_any (bytes_eq name) names) o false) (ap (child_above folder) e ∙ child-way folder name rest)
        ∙ among name (or_left (bytes_eq name name) (list_any (bytes_eq name) some) (same_name-from name name refl)))

pub across-apart : (folder path : Route) (names : List (List ℕ)) (holds : List ℕ → Bool) → ((n : List ℕ) → holds n ≡ list_any (bytes_eq n) names)
    → (is_prefix path folder || option_map_or holds (child_above folder path) false) ≡ false
    → list_any (meet path) (map (λ name. name ∷ folder) names) ≡ false
across-apart folder path names holds same h =
    any-map (meet path) (λ name. name ∷ folder) names
    ∙ false_from_ne_true (list_any (λ name. meet path (name ∷ folder)) names)
    (λ some. both_ways (is_prefix path folder || option_map_or (λ name. list_any (bytes_eq name) names) (child_above folder path) false)
    (ap (λ (b : Bool). is_prefix path folder || b) (sym (held (child_above folder path))) ∙ h) (meets_one folder path names names (λ n k. k) some))
  where
    held : (o : Option (List ℕ)) → option_map_or holds o false ≡ option_map_or (λ name. list_any (bytes_eq name) names) o false
    held None = refl
    held (Some name) = same name
