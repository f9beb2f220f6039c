-- A box leaves the size as it was.
use Rattle.std.proofs.Common.{◌∙◌, ap}
use Rattle.key_screen.specs.Grids.{CellGrid}
use Rattle.ui_viewer.proofs.BoxSizes.{box_columns_same, box_lines_same}
use Rattle.ui_editor.proofs.frame.paint_lines.Goals as goal

pub returns-clause-size : goal.returns-clause-size
returns-clause-size c = (
  ap (λ (grid : CellGrid). grid.lines) c.in_ok-paint_box.ensures ∙ box_lines_same c.args.grid.now c.deref.result.now,
  ap (λ (grid : CellGrid). grid.columns) c.in_ok-paint_box.ensures ∙ box_columns_same c.args.grid.now c.deref.result.now,
)
