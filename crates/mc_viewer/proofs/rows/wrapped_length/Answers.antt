-- Unit by unit.
use Rattle.std.proofs.Common.{◌≡◌, ◌+◌, ◌<◌, ◌≤◌, length, take, drop, arith, ap, sym, ◌∙◌, ⊎_elim, length-drop}
use Rattle.text_units.specs.Units.{unit_columns}
use Rattle.mc_viewer.specs.Units.{unit_length, first_unit}
use Rattle.mc_viewer.proofs.RowLemmas.{wrapped-behind, wrapped-end, wrapped-newline_at, wrapped-full_at}
use Rattle.mc_viewer.proofs.rows.wrapped_length.Goals as goal

pub loop-at-preserved : goal.loop-at-preserved
loop-at-preserved c =
    let bytes = c.args.bytes.now in
    let at = c.loop-at.at in
    let column = c.loop-at.column in
    let count = c.unit_length-length.result in
    let rest_is = c.rest_from-rest.ensures in
    let count_is : count ≡ unit_length (drop at bytes) = c.unit_length-length.ensures.value ∙ ap unit_length rest_is in
    let front_is : c.front.result.now ≡ first_unit (drop at bytes) = c.front.ensures ∙ ap (take count) rest_is ∙ ap (λ n. take n (drop at bytes)) count_is in
    let next_is : column + c.unit_columns.result ≡ column + unit_columns column (first_unit (drop at bytes)) =
    ap (λ n. column + n) (c.unit_columns.ensures.value ∙ ap (unit_columns column) front_is) in
    let within : at + count ≤ length bytes = omega (arith, c.unit_length-length.ensures.within, ap length rest_is, length-drop at bytes, c.loop-at-test.true) in
    let room = λ (some : 0 < column). ⊎_elim (λ both. both.1) (λ none. absurd (omega arith)) c.else-column-gt0.either in
    record {
      within = within;
      narrow = ⊎_elim (λ both. omega (arith, both.1)) (λ none. omega (arith, none, c.unit_columns.ensures.bound)) c.else-column-gt0.either;
      row = sym (wrapped-behind c.args.columns column at count (column + c.unit_columns.result) bytes c.loop-at-test.true c.if-bytes-at-eq10.false
          count_is c.unit_length-length.ensures.some within next_is room) ∙ c.loop-at.invariant.row;
    }

pub returns-then-bytes-at-eq10-clause-value : goal.returns-then-bytes-at-eq10-clause-value
returns-then-bytes-at-eq10-clause-value c =
    ap (λ n. c.loop-at.at + n) (sym (wrapped-newline_at c.args.columns c.loop-at.column c.loop-at.at c.args.bytes.now c.loop-at-test.true c.if-bytes-at-eq10.true))
    ∙ c.loop-at.invariant.row

pub returns-then-next-columns-clause-value : goal.returns-then-next-columns-clause-value
returns-then-next-columns-clause-value c =
    let bytes = c.args.bytes.now in
    let at = c.loop-at.at in
    let column = c.loop-at.column in
    let count = c.unit_length-length.result in
    let rest_is = c.rest_from-rest.ensures in
    let count_is : count ≡ unit_length (drop at bytes) = c.unit_length-length.ensures.value ∙ ap unit_length rest_is in
    let front_is : c.front.result.now ≡ first_unit (drop at bytes) = c.front.ensures ∙ ap (take count) rest_is ∙ ap (λ n. take n (drop at bytes)) count_is in
    let units_is : c.unit_columns.result ≡ unit_columns column (first_unit (drop at bytes)) = c.unit_columns.ensures.value ∙ ap (unit_columns column) front_is in
    let full = wrapped-full_at c.args.columns column at bytes c.loop-at-test.true c.if-bytes-at-eq10.false c.if-column-gt0.true (omega (arith, units_is, c.if-next-columns.true)) in
    omega (arith, full, c.loop-at.invariant.row)

pub returns-clause-value : goal.returns-clause-value
returns-clause-value c =
    let ended = wrapped-end c.args.columns c.loop-at.column c.loop-at.at c.args.bytes.now c.loop-at-test.false in
    omega (arith, ended, c.loop-at.invariant.row)
