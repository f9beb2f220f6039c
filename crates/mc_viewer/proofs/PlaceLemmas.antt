-- Where a text first stands, piece by piece.
use Rattle.std.proofs.Common.{◌≡◌, ℕ, zero, suc, ◌+◌, ◌-◌, ◌<◌, ◌≤◌, List, [], ◌∷◌, length, take, drop, Some, None, refl, sym, ap, subst, ◌∙◌, arith, length-take, drop-drop}
use Rattle.std.specs.Option.{option_map_or}
use Rattle.std.proofs.lemmas.Bool.{cond-true, cond-false, false_from_ne_true, ne_eqb, eq-eqb}
use Rattle.std.proofs.lemmas.List.{take-take, drop-take, drop_all}
use Rattle.std.proofs.lemmas.Slice.Eq.{bytes_eq-Decides}
use Rattle.memchr.specs.Find.{OccursAt, FindsNeedle}
use Rattle.memchr.proofs.lemmas.MatchLemmas.{OccursAt-part, OccursAt-from_part}
use Rattle.text_search.specs.declared.sought.Sought.TheVariants.{At, Nowhere}
use Rattle.mc_viewer.specs.Searches.{first_place, text_sought}

module _ (text : List ℕ) (some : 1 ≤ length text) where
  -- the text stands at a place
  abbrev Stands : ℕ → List ℕ → Type 0
  Stands at bytes = (at + length text ≤ length bytes) × (take (length text) (drop at bytes) ≡ text)

  fits : (bytes : List ℕ) → take (length text) bytes ≡ text → length text ≤ length bytes
  fits bytes is = omega (arith, length-take (length text) bytes, ap length is)

  place-none : (at : ℕ) → first_place text at [] ≡ None
  unfolding first_place
  place-none at = refl

  place-here : (at byte : ℕ) (rest : List ℕ) → take (length text) (byte ∷ rest) ≡ text → first_place text at (byte ∷ rest) ≡ Some at
  unfolding first_place
  place-here at byte rest is = cond-true _ _ _ ((bytes_eq-Decides (take (length text) (byte ∷ rest)) text).1 is)

  place-later : (at byte : ℕ) (rest : List ℕ) → (take (length text) (byte ∷ rest) ≡ text → ⊥) → first_place text at (byte ∷ rest) ≡ first_place text (at + 1) rest
  unfolding first_place
  place-later at byte rest differs =
      cond-false _ _ _ (false_from_ne_true _ (λ is. differs ((bytes_eq-Decides (take (length text) (byte ∷ rest)) text).0 is)))

  first-at : (place at : ℕ) (rest : List ℕ) → Stands place rest → ((j : ℕ) → j < place → Stands j rest → ⊥) → first_place text at rest ≡ Some (at + place)
  first-at place at [] stands before = absurd (omega (arith, stands.0, some))
  first-at zero at (byte ∷ rest) stands before =
      let e : at ≡ at + 0 = omega arith in
      place-here at byte rest stands.1 ∙ ap Some e
  first-at (suc place) at (byte ∷ rest) stands before =
      let e : at + 1 + place ≡ at + suc place = omega arith in
      place-later at byte rest (λ is. before 0 (omega arith) (omega (arith, fits (byte ∷ rest) is), is))
      ∙ first-at place (at + 1) rest (omega (arith, stands.0), stands.1) (λ j low there. before (suc j) (omega arith) (omega (arith, there.0), there.1))
      ∙ ap Some e

  none-up_to : (count at : ℕ) (rest : List ℕ) → ((j : ℕ) → j < count → Stands j rest → ⊥) → first_place text at rest ≡ first_place text (at + count) (drop count rest)
  none-up_to zero at [] none = place-none at ∙ sym (place-none (at + 0))
  none-up_to zero at (byte ∷ rest) none = let e : at ≡ at + 0 = omega arith in ap (λ k. first_place text k (byte ∷ rest)) e
  none-up_to (suc count) at [] none = place-none at ∙ sym (place-none (at + suc count))
  none-up_to (suc count) at (byte ∷ rest) none =
      let e : at + 1 + count ≡ at + suc count = omega arith in
      place-later at byte rest (λ is. none 0 (omega arith) (omega (arith, fits (byte ∷ rest) is), is))
      ∙ none-up_to count (at + 1) rest (λ j low there. none (suc j) (omega arith) (omega (arith, there.0), there.1))
      ∙ ap (λ k. first_place text k (drop count rest)) e

  -- a piece shows a place whole
  piece-part : (n j : ℕ) (rest : List ℕ) → j + length text ≤ n → take (length text) (drop j (take n rest)) ≡ take (length text) (drop j rest)
  piece-part n j rest short =
      let e : n ≡ j + (n - j) = omega arith in
      ap (λ k. take (length text) (drop j (take k rest))) e
      ∙ ap (take (length text)) (drop-take j (n - j) rest)
      ∙ take-take (length text) (n - j) (drop j rest) (omega arith)

  in-piece : (n j : ℕ) (rest : List ℕ) → j + length text ≤ n → Stands j rest → OccursAt (take n rest) text j
  in-piece n j rest short stands =
      OccursAt-from_part (take n rest) text j (omega (arith, length-take n rest, stands.0)) (piece-part n j rest short ∙ stands.1)

  out-of_piece : (n j : ℕ) (rest : List ℕ) → OccursAt (take n rest) text j → Stands j rest
  out-of_piece n j rest occurs = (
    omega (arith, length-take n rest, occurs.fits),
    sym (piece-part n j rest (omega (arith, length-take n rest, occurs.fits))) ∙ OccursAt-part (take n rest) text j occurs,
  )

  sought-some : (at : ℕ) (rest : List ℕ) → text_sought text at rest ≡ option_map_or At (first_place text at rest) Nowhere
  sought-some at rest = cond-false _ _ _ (ne_eqb (length text) 0 (λ none. omega (arith, none, some)))

  pub sought-end : (at size : ℕ) (bytes : List ℕ) → length bytes ≤ size → size ≤ at → text_sought text at (drop at bytes) ≡ Nowhere
  sought-end at size bytes size_is past =
      ap (text_sought text at) (drop_all at bytes (omega arith)) ∙ sought-some at [] ∙ ap (λ o. option_map_or At o Nowhere) (place-none at)

  -- a piece of a file, and what it says
  module _ (bytes piece : List ℕ) (at n : ℕ) (is : piece ≡ take n (drop at bytes)) where
    pub sought-found : (place : ℕ) → FindsNeedle piece text 0 (Some place) → text_sought text at (drop at bytes) ≡ At (at + place)
    sought-found place finds =
        let found : FindsNeedle (take n (drop at bytes)) text 0 (Some place) = subst (λ l. FindsNeedle l text 0 (Some place)) is finds in
        let room : place + length text ≤ n = omega (arith, length-take n (drop at bytes), found.1.fits) in
        sought-some at (drop at bytes)
        ∙ ap (λ o. option_map_or At o Nowhere)
        (first-at place at (drop at bytes) (out-of_piece n place (drop at bytes) found.1)
        (λ j low there. found.0.before j (omega arith) low (in-piece n j (drop at bytes) (omega arith) there)))

    pub sought-further : (count : ℕ) → count + length text ≤ n → FindsNeedle piece text 0 None
        → text_sought text at (drop at bytes) ≡ text_sought text (at + count) (drop (at + count) bytes)
    sought-further count wide finds =
        let nowhere : FindsNeedle (take n (drop at bytes)) text 0 None = subst (λ l. FindsNeedle l text 0 None) is finds in
        sought-some at (drop at bytes)
        ∙ ap (λ o. option_map_or At o Nowhere)
        (none-up_to count at (drop at bytes) (λ j low there.
        let occurs = in-piece n j (drop at bytes) (omega arith) there in
        nowhere j (omega arith) (omega (arith, occurs.fits)) occurs))
        ∙ ap (λ l. option_map_or At (first_place text (at + count) l) Nowhere) (drop-drop count at bytes)
        ∙ sym (sought-some (at + count) (drop (at + count) bytes))

-- an empty text is nowhere
pub sought-empty : (text : List ℕ) (at : ℕ) (rest : List ℕ) → length text ≡ 0 → text_sought text at rest ≡ Nowhere
sought-empty text at rest none = cond-true _ _ _ (eq-eqb (length text) 0 none)
