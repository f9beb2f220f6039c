-- The line is a box, and a box leaves the size as it was.
use Rattle.std.proofs.Common.{◌∙◌, ap}
use Rattle.key_screen.specs.Grids.{CellGrid}
use Rattle.ui_viewer.proofs.BoxSizes.{input_columns_same, input_lines_same}
use Rattle.ui_editor.proofs.frame.paint_line.Goals as goal

pub returns-clause-size : goal.returns-clause-size
returns-clause-size c = (
  ap (λ (grid : CellGrid). grid.lines) c.in_ok-paint.ensures ∙ input_lines_same c.args.grid.now c.args.line.now,
  ap (λ (grid : CellGrid). grid.columns) c.in_ok-paint.ensures ∙ input_columns_same c.args.grid.now c.args.line.now,
)
