use Rattle.std.proofs.Common.{◌≡◌}
use Rattle.screen_frame.specs.Pieces.{painted_grid}
use Rattle.screen_frame.specs.Panes.{item_rows}
use Rattle.screen_frame.proofs.pane.write_items.Given as goal

abbrev pub invariant-loop-place : goal.invariant-loop-place
invariant-loop-place l =
    l.grid ≡ painted_grid l.fn.grid (item_rows l.stand.column l.stand.inside l.height l.pane l.place)
