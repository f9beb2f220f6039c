-- The count so far, and that of what is left.
use Rattle.std.proofs.Common.{◌≡◌, ◌+◌, ◌≤◌, length}
use Rattle.panel_listing.specs.Layouts.{open_ones}
use Rattle.panel_listing.proofs.layout.open_ones.Given as goal

abbrev pub invariant-loop-column : goal.invariant-loop-column
invariant-loop-column l = record {
  count_is : l.count + open_ones l.rest ≡ open_ones l.columns;
  few : l.count + length l.rest ≤ length l.columns;
}

abbrev pub decreases-loop-column : goal.decreases-loop-column
decreases-loop-column l = length l.rest
