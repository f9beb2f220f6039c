-- The length of a row, unit by unit.
use Rattle.std.proofs.Common.{◌≡◌, ℕ, zero, suc, ◌+◌, ◌-◌, ◌<◌, ◌≤◌, true, false, List, [], ◌∷◌, length, drop, get_or, sym, ap, ◌∙◌, arith, ⊎_elim, subst, length-drop, drop-drop}
use Rattle.std.specs.Prelude.{nat_le, ◌||◌, ◌==◌}
use Rattle.std.proofs.lemmas.Bool.{cases_lt, cond-true, cond-false, eq-eqb, ne_eqb}
use Rattle.std.proofs.lemmas.Bool.Decides.{nat_tests}
use Rattle.std.proofs.lemmas.List.{drop_all}
use Rattle.std.proofs.Math.Seq.{drop-cons}
use Rattle.text_units.specs.Units.{unit_columns}
use Rattle.mc_viewer.specs.Units.{unit_length, first_unit}
use Rattle.mc_viewer.specs.Rows.{wrapped_length}

-- bytes of a unit that was taken belong to the row
pub wrapped-skip : (columns column skip : ℕ) (bytes : List ℕ) → skip ≤ length bytes
    → wrapped_length columns column skip bytes ≡ skip + wrapped_length columns column 0 (drop skip bytes)
unfolding wrapped_length
wrapped-skip columns column zero bytes within = omega arith
wrapped-skip columns column (suc skip) [] within = absurd (omega arith)
wrapped-skip columns column (suc skip) (byte ∷ rest) within =
    let further = wrapped-skip columns column skip rest (omega arith) in
    let e : suc (skip + wrapped_length columns column 0 (drop skip rest)) ≡ suc skip + wrapped_length columns column 0 (drop skip rest) = omega arith in
    ap suc further ∙ e

module _ (columns column : ℕ) (byte : ℕ) (rest : List ℕ) where
  -- a newline ends the row
  pub wrapped-newline : byte ≡ 10 → wrapped_length columns column 0 (byte ∷ rest) ≡ 1
  unfolding wrapped_length
  wrapped-newline is = cond-true _ _ _ (eq-eqb _ _ is)

  -- a unit that has no room isn't taken
  pub wrapped-full : (byte ≡ 10 → ⊥) → 0 < column → columns < column + unit_columns column (first_unit (byte ∷ rest))
      → wrapped_length columns column 0 (byte ∷ rest) ≡ 0
  unfolding wrapped_length
  wrapped-full differs some full =
      let test : (column == 0 || nat_le (column + unit_columns column (first_unit (byte ∷ rest))) columns) ≡ false = grind (arith, nat_tests) in
      cond-false _ _ _ (ne_eqb _ _ differs) ∙ cond-false _ _ _ test

  -- a unit that has room is taken
  pub wrapped-taken : (byte ≡ 10 → ⊥) → (0 < column → column + unit_columns column (first_unit (byte ∷ rest)) ≤ columns)
      → wrapped_length columns column 0 (byte ∷ rest)
      ≡ suc (wrapped_length columns (column + unit_columns column (first_unit (byte ∷ rest))) (unit_length (byte ∷ rest) - 1) rest)
  unfolding wrapped_length
  wrapped-taken differs room =
      let test : (column == 0 || nat_le (column + unit_columns column (first_unit (byte ∷ rest))) columns) ≡ true =
      ⊎_elim (λ (some : 0 < column). let fits = room some in grind (arith, nat_tests)) (λ (first : column ≤ 0). let e : column ≡ 0 = omega arith in grind (arith, nat_tests)) (cases_lt 0 column) in
      cond-false _ _ _ (ne_eqb _ _ differs) ∙ cond-true _ _ _ test

-- what is left of a row behind a unit
pub wrapped-behind : (columns column at length_is next : ℕ) (bytes : List ℕ) → at < length bytes → (get_or bytes at 0 ≡ 10 → ⊥)
    → length_is ≡ unit_length (drop at bytes) → 1 ≤ length_is → at + length_is ≤ length bytes
    → next ≡ column + unit_columns column (first_unit (drop at bytes)) → (0 < column → next ≤ columns)
    → at + wrapped_length columns column 0 (drop at bytes) ≡ (at + length_is) + wrapped_length columns next 0 (drop (at + length_is) bytes)
wrapped-behind columns column at n next bytes inside differs is some within next_is room =
    let rest = drop (suc at) bytes in
    let byte = get_or bytes at 0 in
    let split : drop at bytes ≡ byte ∷ rest = drop-cons bytes at 0 inside in
    let len : n ≡ unit_length (byte ∷ rest) = is ∙ ap unit_length split in
    let there : next ≡ column + unit_columns column (first_unit (byte ∷ rest)) = next_is ∙ ap (λ l. column + unit_columns column (first_unit l)) split in
    let short : n - 1 ≤ length rest = omega (arith, length-drop (suc at) bytes) in
    let taken = wrapped-taken columns column byte rest differs (λ h. subst (λ m. m ≤ columns) there (room h)) in
    let skipped : wrapped_length columns next (n - 1) rest ≡ (n - 1) + wrapped_length columns next 0 (drop (n - 1) rest) = wrapped-skip columns next (n - 1) rest short in
    let place : suc at + (n - 1) ≡ at + n = omega arith in
    let dropped : drop (n - 1) rest ≡ drop (at + n) bytes = drop-drop (n - 1) (suc at) bytes ∙ ap (λ m. drop m bytes) place in
    let one : wrapped_length columns column 0 (drop at bytes) ≡ suc (wrapped_length columns next (n - 1) rest) =
    ap (wrapped_length columns column 0) split ∙ taken
    ∙ ap (λ m. suc (wrapped_length columns m (unit_length (byte ∷ rest) - 1) rest)) (sym there)
    ∙ ap (λ m. suc (wrapped_length columns next (m - 1) rest)) (sym len) in
    let two : wrapped_length columns next 0 (drop (n - 1) rest) ≡ wrapped_length columns next 0 (drop (at + n) bytes) = ap (wrapped_length columns next 0) dropped in
    omega (arith, one, two, skipped)

-- where the bytes end, so does the row
pub wrapped-end : (columns column at : ℕ) (bytes : List ℕ) → length bytes ≤ at → wrapped_length columns column 0 (drop at bytes) ≡ 0
unfolding wrapped_length
wrapped-end columns column at bytes past = ap (wrapped_length columns column 0) (drop_all at bytes past)

pub wrapped-newline_at : (columns column at : ℕ) (bytes : List ℕ) → at < length bytes → get_or bytes at 0 ≡ 10
    → wrapped_length columns column 0 (drop at bytes) ≡ 1
wrapped-newline_at columns column at bytes inside is =
    ap (wrapped_length columns column 0) (drop-cons bytes at 0 inside) ∙ wrapped-newline columns column (get_or bytes at 0) (drop (suc at) bytes) is

pub wrapped-full_at : (columns column at : ℕ) (bytes : List ℕ) → at < length bytes → (get_or bytes at 0 ≡ 10 → ⊥) → 0 < column
    → columns < column + unit_columns column (first_unit (drop at bytes)) → wrapped_length columns column 0 (drop at bytes) ≡ 0
wrapped-full_at columns column at bytes inside differs some full =
    let split = drop-cons bytes at 0 inside in
    ap (wrapped_length columns column 0) split
    ∙ wrapped-full columns column (get_or bytes at 0) (drop (suc at) bytes) differs some
    (subst (λ l. columns < column + unit_columns column (first_unit l)) split full)
