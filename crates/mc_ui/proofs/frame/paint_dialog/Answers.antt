-- A box leaves the size as it was.
use Rattle.std.proofs.Common.{◌∙◌, ap}
use Rattle.key_screen.specs.Grids.{CellGrid}
use Rattle.mc_ui.specs.Boxes.{seen_box}
use Rattle.mc_ui.proofs.FrameSizes.{over_columns_same, over_lines_same}
use Rattle.mc_ui.proofs.frame.paint_dialog.Goals as goal

pub returns-clause-size : goal.returns-clause-size
returns-clause-size c = (
  ap (λ (grid : CellGrid). grid.lines) c.in_ok-paint_box_of.ensures ∙ over_lines_same (seen_box c.args.dialog.now) c.args.rows.now c.args.grid.now,
  ap (λ (grid : CellGrid). grid.columns) c.in_ok-paint_box_of.ensures ∙ over_columns_same (seen_box c.args.dialog.now) c.args.rows.now c.args.grid.now,
)
