-- The last of the names that a pattern finds, beside the last of all names.
use Rattle.std.proofs.Common.{◌≡◌, ℕ, zero, suc, ◌-◌, Bool, true, false, cond, List, [], ◌∷◌, ◌++◌, length, take, filter, refl, sym, ap, subst, ◌∙◌, arith, length-append}
use Rattle.std.specs.Prelude.{Option, Some, None}
use Rattle.std.specs.List.{slice_get}
use Rattle.std.specs.Option.{option_map_or}
use Rattle.std.specs.Str.{bytes_eq}
use Rattle.std.proofs.Math.Seq.{take-append_seam}
use Rattle.std.proofs.lemmas.Bool.{true≢false}
use Rattle.std.proofs.lemmas.List.{append-nil}
use Rattle.std.proofs.lemmas.List.Elements.{filter-append}
use Rattle.std.proofs.lemmas.Slice.Eq.{bytes_eq-Decides}

get_last : (front : List (List ℕ)) (last : List ℕ) → slice_get (front ++ last ∷ []) (length front) ≡ Some last
get_last [] last = refl
get_last (name ∷ front) last = get_last front last

one_less : (front : List (List ℕ)) (last : List ℕ) → length (front ++ last ∷ []) - 1 ≡ length front
one_less front last = omega (arith, length-append front (last ∷ []))

module _ (finds : List ℕ → Bool) where
  -- what was found is found
  is_found_there : (names : List (List ℕ)) (at : ℕ) (one : List ℕ) → slice_get (filter finds names) at ≡ Some one → finds one ≡ true
  is_found_there [] at one h = cc
  is_found_there (name ∷ names) at one h = go (finds name) refl at h (is_found_there names)
    where
      go : (b : Bool) → finds name ≡ b → (at : ℕ) → slice_get (cond b (name ∷ filter finds names) (filter finds names)) at ≡ Some one
          → ((at : ℕ) (one : List ℕ) → slice_get (filter finds names) at ≡ Some one → finds one ≡ true) → finds one ≡ true
      go true is zero h later = let same : name ≡ one = cc in subst (λ n. finds n ≡ true) same is
      go true is (suc at) h later = later at one h
      go false is at h later = later at one h

module _ (finds : List ℕ → Bool) (name : List ℕ) where
  -- whether the name is the last of these
  abbrev pub last_is : List (List ℕ) → Bool
  last_is names = option_map_or (λ last. bytes_eq last name) (slice_get names (length names - 1)) false

  kept : (before : List (List ℕ)) (b : Bool) → finds name ≡ b → filter finds (before ++ name ∷ []) ≡ filter finds before ++ cond b (name ∷ []) []
  kept before b is = filter-append finds before (name ∷ []) ∙ ap (λ x. filter finds before ++ cond x (name ∷ []) []) is

  last_of : (front : List (List ℕ)) → last_is (front ++ name ∷ []) ≡ true
  last_of front =
      ap (λ o. option_map_or (λ last. bytes_eq last name) o false) (ap (slice_get (front ++ name ∷ [])) (one_less front name) ∙ get_last front name)
      ∙ (bytes_eq-Decides name name).1 refl

  not_last : (before : List (List ℕ)) → finds name ≡ false → last_is (filter finds before) ≡ false
  not_last before hidden = go (slice_get (filter finds before) (length (filter finds before) - 1)) refl
    where
      differs : (last : List ℕ) (b : Bool) → bytes_eq last name ≡ b → finds last ≡ true → b ≡ false
      differs last true is shown = absurd (true≢false (sym (subst (λ n. finds n ≡ true) ((bytes_eq-Decides last name).0 is) shown) ∙ hidden))
      differs last false is shown = refl

      go : (o : Option (List ℕ)) → slice_get (filter finds before) (length (filter finds before) - 1) ≡ o
          → option_map_or (λ last. bytes_eq last name) o false ≡ false
      go None is = refl
      go (Some last) is = differs last (bytes_eq last name) refl (is_found_there finds before (length (filter finds before) - 1) last is)

  pub last-found : (found before : List (List ℕ)) → found ≡ filter finds (before ++ name ∷ []) → last_is found ≡ finds name
  last-found found before is = go (finds name) refl
    where
      go : (b : Bool) → finds name ≡ b → last_is found ≡ b
      go true shown = ap last_is (is ∙ kept before true shown) ∙ last_of (filter finds before)
      go false hidden = ap last_is (is ∙ (kept before false hidden ∙ append-nil (filter finds before))) ∙ not_last before hidden

  pub found-taken : (found before : List (List ℕ)) → found ≡ filter finds (before ++ name ∷ []) → finds name ≡ true → take (length found - 1) found ≡ filter finds before
  found-taken found before is shown =
      let whole : found ≡ filter finds before ++ name ∷ [] = is ∙ kept before true shown in
      ap (λ l. take (length l - 1) l) whole
      ∙ (ap (λ n. take n (filter finds before ++ name ∷ [])) (one_less (filter finds before) name) ∙ take-append_seam (filter finds before) (name ∷ []))

  pub found-left : (found before : List (List ℕ)) → found ≡ filter finds (before ++ name ∷ []) → finds name ≡ false → found ≡ filter finds before
  found-left found before is hidden = is ∙ (kept before false hidden ∙ append-nil (filter finds before))
