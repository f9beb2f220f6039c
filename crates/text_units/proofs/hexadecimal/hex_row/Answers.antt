-- Column by column.
use Rattle.std.proofs.Common.{◌≡◌, ℕ, List, [], ◌∷◌, suc, ◌+◌, ◌-◌, ◌++◌, min, length, string_bytes, ap, sym, ◌∙◌, arith, append_assoc}
use Rattle.std.proofs.lemmas.List.{append-nil}
use Rattle.text_units.specs.HexRows.{offset_digits, hex_column, hex_columns}
use Rattle.text_units.proofs.ColumnLemmas.{hex-further, hex-none}
use Rattle.text_units.proofs.hexadecimal.hex_row.Goals as goal

pub loop-column-preserved : goal.loop-column-preserved
loop-column-preserved c =
    let offset = c.args.offset in
    let bytes = c.args.bytes.now in
    let column = c.loop-column.column in
    let row = string_bytes c.loop-column.row in
    let width = min c.args.columns (offset_digits offset + 52 + length bytes) in
    let width_is : c.min-column-end.result ≡ width = omega (arith, c.offset_digits.ensures.value, c.min-column-end.ensures) in
    let left = width - (column + 1) in
    let one_more : width - column ≡ suc left = omega (arith, width_is, c.loop-column-test.true) in
    let rest = hex_columns offset bytes (column + 1) left in
    ap (λ (s : List ℕ). s ++ rest)
    (c.in_ok-push.ensures.bytes
    ∙ ap (λ (e : List ℕ). row ++ e) (c.in_ok-push.ensures.ascii c.hex_column.ensures.ascii ∙ ap (λ (b : ℕ). b ∷ []) c.hex_column.ensures.value))
    ∙ append_assoc row (hex_column offset bytes column ∷ []) rest
    ∙ ap (λ (l : List ℕ). row ++ l) (sym (hex-further offset bytes column left (width - column) one_more))
    ∙ c.loop-column.invariant

pub returns : goal.returns
returns c =
    let offset = c.args.offset in
    let bytes = c.args.bytes.now in
    let column = c.loop-column.column in
    let row = string_bytes c.loop-column.row in
    let width = min c.args.columns (offset_digits offset + 52 + length bytes) in
    let width_is : c.min-column-end.result ≡ width = omega (arith, c.offset_digits.ensures.value, c.min-column-end.ensures) in
    sym (append-nil row)
    ∙ ap (λ (l : List ℕ). row ++ l) (sym (hex-none offset bytes column (width - column) (omega (arith, width_is, c.loop-column-test.false))))
    ∙ c.loop-column.invariant
