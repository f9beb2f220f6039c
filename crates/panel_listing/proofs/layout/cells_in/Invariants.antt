-- The cells so far, before those of what is left.
use Rattle.std.proofs.Common.{◌≡◌, ◌+◌, ◌++◌, length}
use Rattle.panel_listing.specs.Layouts.{open_ones, cells_from}
use Rattle.panel_listing.proofs.layout.cells_in.Given as goal

abbrev pub invariant-loop-column : goal.invariant-loop-column
invariant-loop-column l = record {
  cells_are : l.cells.items ++ cells_from l.left l.count l.place l.rest ≡ cells_from l.left l.count 0 l.columns;
  places : l.place + open_ones l.rest ≡ l.count;
}

abbrev pub decreases-loop-column : goal.decreases-loop-column
decreases-loop-column l = length l.rest
