-- Unit by unit.
use Rattle.std.proofs.Common.{◌≡◌, ◌+◌, ◌≤◌, List, ℕ, ◌++◌, length, take, drop, string_bytes, arith, ap, sym, ◌∙◌, append_assoc, length-drop}
use Rattle.std.proofs.lemmas.List.{append-nil}
use Rattle.text_units.specs.Units.{unit_columns, piece_in_sight}
use Rattle.mc_viewer.specs.Units.{unit_length, first_unit}
use Rattle.mc_viewer.specs.Pages.{line_in_sight}
use Rattle.mc_viewer.proofs.SightLemmas.{sight-behind, sight-newline_at, sight-end}
use Rattle.mc_viewer.proofs.text.line_in_sight.Goals as goal

pub loop-at-preserved : goal.loop-at-preserved
loop-at-preserved c =
    let bytes = c.args.bytes.now in
    let at = c.loop-at.at in
    let column = c.loop-at.column in
    let left = c.args.left in
    let right = c.args.right in
    let row = string_bytes c.loop-at.row in
    let count = c.unit_length-length.result in
    let rest_is = c.rest_from-rest.ensures in
    let count_is : count ≡ unit_length (drop at bytes) = c.unit_length-length.ensures.value ∙ ap unit_length rest_is in
    let front_is : c.front-unit.result.now ≡ first_unit (drop at bytes) = c.front-unit.ensures ∙ ap (take count) rest_is ∙ ap (λ n. take n (drop at bytes)) count_is in
    let next = column + c.unit_columns-column.result in
    let next_is : next ≡ column + unit_columns column (first_unit (drop at bytes)) =
    ap (λ n. column + n) (c.unit_columns-column.ensures.value ∙ ap (unit_columns column) front_is) in
    let within : at + count ≤ length bytes = omega (arith, c.unit_length-length.ensures.within, ap length rest_is, length-drop at bytes, c.loop-at-test.true) in
    let more = line_in_sight left right next 0 (drop (at + count) bytes) in
    record {
      within = within;
      narrow = omega (arith, c.unit_columns-column.ensures.bound, c.unit_length-length.ensures.some, c.loop-at.invariant.narrow);
      seen =
          ap (λ (s : List ℕ). s ++ more) (c.in_ok-push_piece.ensures ∙ ap (λ u. row ++ piece_in_sight left right column u) front_is)
          ∙ append_assoc row (piece_in_sight left right column (first_unit (drop at bytes))) more
          ∙ ap (λ l. row ++ l) (sym (sight-behind left right column at count next bytes c.loop-at-test.true c.if-bytes-at-eq10.false count_is c.unit_length-length.ensures.some next_is))
          ∙ c.loop-at.invariant.seen;
    }

pub returns-then-bytes-at-eq10 : goal.returns-then-bytes-at-eq10
returns-then-bytes-at-eq10 c =
    sym (append-nil (string_bytes c.loop-at.row))
    ∙ ap (λ l. string_bytes c.loop-at.row ++ l) (sym (sight-newline_at c.args.left c.args.right c.loop-at.column c.loop-at.at c.args.bytes.now c.loop-at-test.true c.if-bytes-at-eq10.true))
    ∙ c.loop-at.invariant.seen

pub returns : goal.returns
returns c =
    sym (append-nil (string_bytes c.loop-at.row))
    ∙ ap (λ l. string_bytes c.loop-at.row ++ l) (sym (sight-end c.args.left c.args.right c.loop-at.column c.loop-at.at c.args.bytes.now c.loop-at-test.false))
    ∙ c.loop-at.invariant.seen
