-- The block and the point leave the page's size.
use Rattle.std.proofs.Common.{◌≡◌, ◌∙◌, ap, [], get_or}
use Rattle.key_screen.specs.Grids.{CellGrid}
use Rattle.ui_editor.specs.EditorFrames.{with_block, with_point}
use Rattle.ui_editor.proofs.TextSizes.{text_is_sized}
use Rattle.ui_editor.proofs.frame.paint_text.Goals as goal

pub returns-clause-size : goal.returns-clause-size
returns-clause-size c =
    let rows = c.as_slice-3.result.now in
    let marked = c.as_slice-2.result.now in
    let row = c.in_ok-view.view.row in
    let column = c.in_ok-view.view.column in
    let page = c.in_ok-grid.grid in
    let sized = text_is_sized c.args.lines c.args.columns row column (get_or rows row []) c.as_slice.result.now marked page
    (record { lines_are = c.in_ok-grid.ensures.size.0; columns_are = c.in_ok-grid.ensures.size.1 }) in
    let is : c.write_point.new.grid ≡ with_point row column (get_or rows row []) (with_block 0 c.as_slice.result.now marked page) =
    c.in_ok-write_point.ensures ∙ ap (λ (grid : CellGrid). with_point row column (get_or rows row []) grid) c.in_ok-write_block.ensures in
    (ap (λ (grid : CellGrid). grid.lines) is ∙ sized.lines_are, ap (λ (grid : CellGrid). grid.columns) is ∙ sized.columns_are)
