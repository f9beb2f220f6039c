-- What a row shows, unit by unit, and that it sees no further than four bytes for each of its columns.
use Rattle.std.proofs.Common.{◌≡◌, ℕ, zero, suc, ◌+◌, ◌-◌, ◌*◌, ◌<◌, ◌≤◌, ◌⊎◌, inl, inr, List, [], ◌∷◌, ◌++◌, length, take, drop, get_or, replicate, refl, sym, ap, ◌∙◌, arith, ⊎_elim, length-take, drop-drop}
use Rattle.std.proofs.lemmas.Bool.{cases_lt, cond-true, cond-false, eq-eqb, ne_eqb}
use Rattle.std.proofs.lemmas.List.{take-take, drop_all}
use Rattle.std.proofs.Math.Seq.{drop-cons}
use Rattle.mc_viewer.specs.declared.layout.Shape.{Shape}
use Rattle.mc_viewer.specs.declared.layout.Shape.TheVariants.{Wrapped, Unwrapped, Hex}
use Rattle.text_units.specs.Units.{unit_columns, columns_in_sight, piece_in_sight}
use Rattle.mc_viewer.specs.Units.{unit_length, first_unit}
use Rattle.mc_viewer.specs.Rows.{wrapped_length}
use Rattle.text_units.specs.HexRows.{hex_row}
use Rattle.mc_viewer.specs.Pages.{line_in_sight, row_text}
use Rattle.mc_viewer.specs.Windows.{window_of}
use Rattle.text_units.proofs.UnitLemmas.{columns_some}
use Rattle.mc_viewer.proofs.UnitLemmas.{unit_local, unit_some, unit_short}
use Rattle.mc_viewer.proofs.LineLemmas.{is_ten}
use Rattle.mc_viewer.proofs.LocalLemmas.{first_unit-local, wrapped-local}
use Rattle.mc_viewer.proofs.LineTextLemmas.{wrapped-within}

module _ (left right : ℕ) where
  sight-skip : (column skip : ℕ) (bytes : List ℕ) → line_in_sight left right column skip bytes ≡ line_in_sight left right column 0 (drop skip bytes)
  unfolding line_in_sight
  sight-skip column zero bytes = refl
  sight-skip column (suc skip) [] = refl
  sight-skip column (suc skip) (byte ∷ rest) = sight-skip column skip rest

  sight-newline : (column byte : ℕ) (rest : List ℕ) → byte ≡ 10 → line_in_sight left right column 0 (byte ∷ rest) ≡ []
  unfolding line_in_sight
  sight-newline column byte rest is = cond-true _ _ _ (eq-eqb _ _ is)

  sight-unit : (column byte : ℕ) (rest : List ℕ) → (byte ≡ 10 → ⊥)
      → line_in_sight left right column 0 (byte ∷ rest)
      ≡ piece_in_sight left right column (first_unit (byte ∷ rest))
      ++ line_in_sight left right (column + unit_columns column (first_unit (byte ∷ rest))) (unit_length (byte ∷ rest) - 1) rest
  unfolding line_in_sight
  sight-unit column byte rest differs = cond-false _ _ _ (ne_eqb _ _ differs)

  pub sight-newline_at : (column at : ℕ) (bytes : List ℕ) → at < length bytes → get_or bytes at 0 ≡ 10 → line_in_sight left right column 0 (drop at bytes) ≡ []
  sight-newline_at column at bytes inside is =
      ap (line_in_sight left right column 0) (drop-cons bytes at 0 inside) ∙ sight-newline column (get_or bytes at 0) (drop (suc at) bytes) is

  pub sight-end : (column at : ℕ) (bytes : List ℕ) → length bytes ≤ at → line_in_sight left right column 0 (drop at bytes) ≡ []
  unfolding line_in_sight
  sight-end column at bytes past = ap (line_in_sight left right column 0) (drop_all at bytes past)

  pub sight-behind : (column at count next : ℕ) (bytes : List ℕ) → at < length bytes → (get_or bytes at 0 ≡ 10 → ⊥)
      → count ≡ unit_length (drop at bytes) → 1 ≤ count → next ≡ column + unit_columns column (first_unit (drop at bytes))
      → line_in_sight left right column 0 (drop at bytes)
      ≡ piece_in_sight left right column (first_unit (drop at bytes)) ++ line_in_sight left right next 0 (drop (at + count) bytes)
  sight-behind column at count next bytes inside differs is some next_is =
      let rest = drop (suc at) bytes in
      let byte = get_or bytes at 0 in
      let split : drop at bytes ≡ byte ∷ rest = drop-cons bytes at 0 inside in
      let length_is : count ≡ unit_length (byte ∷ rest) = is ∙ ap unit_length split in
      let there : next ≡ column + unit_columns column (first_unit (byte ∷ rest)) = next_is ∙ ap (λ l. column + unit_columns column (first_unit l)) split in
      let place : suc at + (count - 1) ≡ at + count = omega arith in
      ap (line_in_sight left right column 0) split ∙ sight-unit column byte rest differs
      ∙ ap (λ l. piece_in_sight left right column (first_unit l) ++ line_in_sight left right (column + unit_columns column (first_unit (byte ∷ rest))) (unit_length (byte ∷ rest) - 1) rest) (sym split)
      ∙ ap (λ n. piece_in_sight left right column (first_unit (drop at bytes)) ++ line_in_sight left right n (unit_length (byte ∷ rest) - 1) rest) (sym there)
      ∙ ap (λ n. piece_in_sight left right column (first_unit (drop at bytes)) ++ line_in_sight left right next (n - 1) rest) (sym length_is)
      ∙ ap (λ l. piece_in_sight left right column (first_unit (drop at bytes)) ++ l)
      (sight-skip next (count - 1) rest ∙ ap (line_in_sight left right next 0) (drop-drop (count - 1) (suc at) bytes ∙ ap (λ n. drop n bytes) place))

  -- behind the last column nothing is in sight
  piece-past : (column : ℕ) (unit : List ℕ) → right ≤ column → piece_in_sight left right column unit ≡ []
  unfolding piece_in_sight
  piece-past column unit past =
      let columns = unit_columns column unit in
      let some : 1 ≤ columns = columns_some column unit in
      let none : columns_in_sight left right column columns ≡ 0 = omega arith in
      cond-false _ _ _ (ne_eqb _ _ (λ (same : columns_in_sight left right column columns ≡ columns). omega arith)) ∙ ap (λ n. replicate n 32) none

  sight-past : (column skip : ℕ) (bytes : List ℕ) → right ≤ column → line_in_sight left right column skip bytes ≡ []
  unfolding line_in_sight
  sight-past column skip [] past = refl
  sight-past column (suc skip) (byte ∷ rest) past = sight-past column skip rest past
  sight-past column zero (byte ∷ rest) past =
      ⊎_elim (λ (is : byte ≡ 10). sight-newline column byte rest is)
      (λ (differs : byte ≡ 10 → ⊥).
      let next = column + unit_columns column (first_unit (byte ∷ rest)) in
      sight-unit column byte rest differs
      ∙ ap (λ p. p ++ line_in_sight left right next (unit_length (byte ∷ rest) - 1) rest) (piece-past column (first_unit (byte ∷ rest)) past)
      ∙ sight-past next (unit_length (byte ∷ rest) - 1) rest (omega arith)) (is_ten byte)

  sight-local : (column skip n : ℕ) (bytes : List ℕ) → skip + 4 * (right - column) + 5 ≤ n
      → line_in_sight left right column skip (take n bytes) ≡ line_in_sight left right column skip bytes
  unfolding line_in_sight
  sight-local column skip zero bytes enough = absurd (omega arith)
  sight-local column skip (suc n) [] enough = refl
  sight-local column (suc skip) (suc n) (byte ∷ rest) enough = sight-local column skip n rest (omega arith)
  sight-local column zero (suc n) (byte ∷ rest) enough =
      ⊎_elim (λ (past : right ≤ column). sight-past column 0 (byte ∷ take n rest) past ∙ sym (sight-past column 0 (byte ∷ rest) past))
      (λ (inside : column < right).
      ⊎_elim (λ (is : byte ≡ 10). sight-newline column byte (take n rest) is ∙ sym (sight-newline column byte rest is))
      (λ (differs : byte ≡ 10 → ⊥).
      let few = byte ∷ take n rest in
      let all = byte ∷ rest in
      let same : first_unit few ≡ first_unit all = first_unit-local (suc n) all (omega arith) in
      let same_length : unit_length few ≡ unit_length all = unit_local (suc n) all (omega arith) in
      let next = column + unit_columns column (first_unit all) in
      let wider : 1 ≤ unit_columns column (first_unit all) = columns_some column (first_unit all) in
      let one : 1 ≤ unit_length all = unit_some all in
      let four : unit_length all ≤ 4 = unit_short all in
      sight-unit column byte (take n rest) differs
      ∙ ap (λ u. piece_in_sight left right column u ++ line_in_sight left right (column + unit_columns column u) (unit_length few - 1) (take n rest)) same
      ∙ ap (λ u. piece_in_sight left right column (first_unit all) ++ line_in_sight left right next (u - 1) (take n rest)) same_length
      ∙ ap (λ l. piece_in_sight left right column (first_unit all) ++ l) (sight-local next (unit_length all - 1) n rest (omega arith))
      ∙ sym (sight-unit column byte rest differs)) (is_ten byte))
      (swapped (cases_lt column right))
    where
      swapped : (column < right) ⊎ (right ≤ column) → (right ≤ column) ⊎ (column < right)
      swapped (inl a) = inr a
      swapped (inr b) = inl b

-- what a row shows rests on the first bytes of it
pub row_text-window : (shape : Shape) (columns left offset : ℕ) (bytes : List ℕ) → 1 ≤ columns
    → row_text shape columns left offset (take (window_of shape columns left) bytes) ≡ row_text shape columns left offset bytes
unfolding row_text
row_text-window Wrapped columns left offset bytes wide =
    let n = 4 * columns + 9 in
    let same : wrapped_length columns 0 0 (take n bytes) ≡ wrapped_length columns 0 0 bytes = wrapped-local columns 0 0 n bytes wide (omega arith) in
    let short : wrapped_length columns 0 0 bytes ≤ n = omega (arith, wrapped-within columns (take n bytes), length-take n bytes, same) in
    ap (λ m. line_in_sight 0 columns 0 0 (take m (take n bytes))) same
    ∙ ap (line_in_sight 0 columns 0 0) (take-take (wrapped_length columns 0 0 bytes) n bytes short)
row_text-window Unwrapped columns left offset bytes wide = sight-local left (left + columns) 0 0 (4 * (left + columns) + 9) bytes (omega arith)
row_text-window Hex columns left offset bytes wide =
    ap (hex_row columns offset) (take-take 16 16 bytes (omega arith))
