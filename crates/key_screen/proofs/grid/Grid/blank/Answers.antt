use Rattle.std.proofs.Common.{◌≡◌, ◌*◌, arith, ap, sym, ◌∙◌, length, replicate, subst, lit<}
use Rattle.std.proofs.lemmas.List.{length-replicate}
use Rattle.key_screen.specs.Cells.{blank_cell}
use Rattle.key_screen.specs.Layout.{IsLaidOut}
use Rattle.key_screen.proofs.RowLemmas.{blanks-laid_out}
use Rattle.key_screen.proofs.grid.Grid.blank.Goals as goal

pub invariant_of-result : goal.invariant_of-result
invariant_of-result c =
    let count : c.from.result * c.from-2.result ≡ c.args.lines * c.args.columns = cc in
    let size : length c.in_ok-cells.cells.items ≡ c.args.lines * c.args.columns = ap length c.in_ok-cells.ensures ∙ length-replicate _ blank_cell ∙ count in
    (size, c.ranges.lines.fits, c.ranges.columns.fits, rw c.in_ok-cells.ensures (blanks-laid_out c.args.columns (c.from.result * c.from-2.result)))
