use Rattle.std.proofs.Common.{◌≡◌, ◌≤◌, ◌+◌, ◌*◌, min, arith, ap, sym, ◌∙◌, length, replicate, subst}
use Rattle.std.proofs.lemmas.List.{length-replicate}
use Rattle.key_screen.specs.Cells.{blank_cell}
use Rattle.key_screen.specs.Layout.{IsRowEnd}
use Rattle.key_screen.proofs.RowLemmas.{blanks-laid_out, blank_room}
use Rattle.key_screen.proofs.terminal.Terminal.blank.Goals as goal

pub invariant_of-result : goal.invariant_of-result
invariant_of-result c =
    let count : c.from.result * c.from-2.result ≡ c.args.lines * c.args.columns = cc in
    let size : length c.in-Ok.cells.items ≡ c.args.lines * c.args.columns = ap length c.in-Ok.ensures ∙ length-replicate _ blank_cell ∙ count in
    let room : c.min.result ≡ min c.args.columns (c.args.lines * c.args.columns) = c.min.ensures ∙ ap (λ n. min n (c.from.result * c.from-2.result)) c.from-in-Ok.ensures ∙ ap (min c.args.columns) count in (
      size,
      omega arith,
      omega arith,
      subst (λ n. IsRowEnd c.args.columns (0 + n)) (sym room) (blank_room c.args.lines c.args.columns),
      rw c.in-Ok.ensures (blanks-laid_out c.args.columns (c.from.result * c.from-2.result)),
    )
