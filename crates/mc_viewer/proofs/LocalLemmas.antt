-- A row sees no further than four bytes for each of its columns, and a few more.
use Rattle.std.proofs.Common.{◌≡◌, ℕ, zero, suc, ◌+◌, ◌-◌, ◌*◌, ◌<◌, ◌≤◌, ◌⊎◌, inl, inr, List, [], ◌∷◌, take, refl, sym, ap, ◌∙◌, arith, ⊎_elim, subst}
use Rattle.std.proofs.lemmas.Bool.{cases_lt}
use Rattle.std.proofs.lemmas.List.{take-take}
use Rattle.text_units.specs.Units.{unit_columns}
use Rattle.mc_viewer.specs.Units.{unit_length, first_unit}
use Rattle.mc_viewer.specs.Rows.{wrapped_length}
use Rattle.text_units.proofs.UnitLemmas.{columns_some}
use Rattle.mc_viewer.proofs.UnitLemmas.{unit_local, unit_some, unit_short}
use Rattle.mc_viewer.proofs.LineLemmas.{is_ten}
use Rattle.mc_viewer.proofs.RowLemmas.{wrapped-newline, wrapped-full, wrapped-taken}

pub first_unit-local : (n : ℕ) (bytes : List ℕ) → 4 ≤ n → first_unit (take n bytes) ≡ first_unit bytes
first_unit-local n bytes enough =
    ap (λ u. take u (take n bytes)) (unit_local n bytes enough)
    ∙ take-take (unit_length bytes) n bytes (omega (arith, unit_short bytes))

-- a unit is taken, or there is no room for it
room_or_full : (columns column next : ℕ) → ((0 < column) × (columns < next)) ⊎ (0 < column → next ≤ columns)
room_or_full columns column next =
    ⊎_elim (λ (some : 0 < column). ⊎_elim (λ (over : columns < next). inl (some, over)) (λ (fits : next ≤ columns). inr (λ _. fits)) (cases_lt columns next))
    (λ (first : column ≤ 0). inr (λ (some : 0 < column). absurd (omega arith))) (cases_lt 0 column)

pub wrapped-local : (columns column skip n : ℕ) (bytes : List ℕ) → 1 ≤ columns → skip + 4 * (columns - column) + 5 ≤ n
    → wrapped_length columns column skip (take n bytes) ≡ wrapped_length columns column skip bytes
unfolding wrapped_length
wrapped-local columns column skip zero bytes wide enough = absurd (omega arith)
wrapped-local columns column skip (suc n) [] wide enough = refl
wrapped-local columns column (suc skip) (suc n) (byte ∷ rest) wide enough =
    ap suc (wrapped-local columns column skip n rest wide (omega arith))
wrapped-local columns column zero (suc n) (byte ∷ rest) wide enough =
    let few = byte ∷ take n rest in
    let all = byte ∷ rest in
    let same : first_unit few ≡ first_unit all = first_unit-local (suc n) all (omega arith) in
    let same_length : unit_length few ≡ unit_length all = unit_local (suc n) all (omega arith) in
    let next = column + unit_columns column (first_unit all) in
    let next_is : column + unit_columns column (first_unit few) ≡ next = ap (λ u. column + unit_columns column u) same in
    ⊎_elim (λ (is : byte ≡ 10). wrapped-newline columns column byte (take n rest) is ∙ sym (wrapped-newline columns column byte rest is))
    (λ (differs : byte ≡ 10 → ⊥).
    ⊎_elim (λ (full : (0 < column) × (columns < next)).
    wrapped-full columns column byte (take n rest) differs full.0 (subst (λ m. columns < m) (sym next_is) full.1)
    ∙ sym (wrapped-full columns column byte rest differs full.0 full.1))
    (λ (room : 0 < column → next ≤ columns).
    let wider : 1 ≤ unit_columns column (first_unit all) = columns_some column (first_unit all) in
    let one : 1 ≤ unit_length all = unit_some all in
    let four : unit_length all ≤ 4 = unit_short all in
    let left : (unit_length all - 1) + 4 * (columns - next) + 5 ≤ n =
    ⊎_elim (λ (some : 0 < column). let fits = room some in omega arith) (λ (first : column ≤ 0). omega arith) (cases_lt 0 column) in
    wrapped-taken columns column byte (take n rest) differs (λ some. subst (λ m. m ≤ columns) (sym next_is) (room some))
    ∙ ap (λ m. suc (wrapped_length columns m (unit_length few - 1) (take n rest))) next_is
    ∙ ap (λ u. suc (wrapped_length columns next (u - 1) (take n rest))) same_length
    ∙ ap suc (wrapped-local columns next (unit_length all - 1) n rest wide left)
    ∙ sym (wrapped-taken columns column byte rest differs room))
    (room_or_full columns column next))
    (is_ten byte)
