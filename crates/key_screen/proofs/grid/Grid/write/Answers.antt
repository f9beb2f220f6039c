-- what is written stays in its row
use Rattle.std.proofs.Common.{◌≡◌, ◌≤◌, ◌+◌, ◌-◌, ◌*◌, arith, ap, sym, ◌∙◌, length, map, true, subst}
use Rattle.unicode_segmentation.specs.Grapheme.{graphemes}
use Rattle.key_screen.specs.DrawnText.{drawn_glyph, put_glyphs}
use Rattle.key_screen.specs.Layout.{IsLaidOut}
use Rattle.key_screen.proofs.DrawnGlyphs.{drawn_glyphs-drawn}
use Rattle.key_screen.proofs.RowLemmas.{given_back, text-laid_out, either_laid_out}
use Rattle.key_screen.proofs.grid.Grid.write.Goals as goal

pub invariant_of-self : goal.invariant_of-self
invariant_of-self c =
    let columns = c.self.inside.columns in
    let old = c.deref_mut.result.now in
    let lines_are : c.self.inside.lines ≡ c.args.self.now.lines = ap (λ g. g.lines) c.self.view_is in
    let columns_are : columns ≡ c.args.self.now.columns = ap (λ g. g.columns) c.self.view_is in
    let size : length old ≡ c.self.inside.lines * columns = ap length c.deref_mut.ensures.value ∙ c.self.invariant.0 in
    let before : IsLaidOut columns old = subst (IsLaidOut columns) (sym c.deref_mut.ensures.value) c.self.invariant.3 in
    let at = c.from-3.result * c.from-4.result + c.from-5.result in
    let room = c.from.result - c.from-2.result in
    let place : at ≡ (c.args.row - 1) * columns + (c.args.column - 1) =
    ap (λ n. n * c.from-4.result + c.from-5.result) c.from-3.ensures ∙ ap (λ n. (c.args.row - 1) * n + c.from-5.result) c.from-4.ensures
    ∙ ap (λ n. (c.args.row - 1) * columns + n) c.from-5.ensures in
    let width : room ≡ columns - (c.args.column - 1) = ap (λ n. n - c.from-2.result) c.from.ensures ∙ ap (λ n. columns - n) c.from-2.ensures in
    let done : IsLaidOut columns (put_glyphs old at room (map drawn_glyph (graphemes true c.args.text.now)) c.args.attr) =
    text-laid_out c.self.inside.lines columns c.args.row c.args.column at room old (map drawn_glyph (graphemes true c.args.text.now)) c.args.attr
    c.requires.from_row (omega arith) c.requires.from_column (omega arith) place width size (drawn_glyphs-drawn (graphemes true c.args.text.now)) before in
    let laid : IsLaidOut columns c.write_cells.new.cells =
    either_laid_out columns c.write_cells.result c.write_cells.new.cells old _ c.write_cells.ensures.done c.write_cells.ensures.refused done before in
    let len : length c.write_cells.new.cells ≡ length old = c.write_cells.auto.cells in
    rw (given_back c.self.inside.cells.len c.write_cells.new.cells c.self.inside.cells.items (len ∙ c.deref_mut.ensures.len))
    (len ∙ size, c.self.invariant.1, c.self.invariant.2, laid)
