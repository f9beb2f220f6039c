-- What is left, less what the columns that are left take.
use Rattle.std.proofs.Common.{◌≡◌, ◌-◌, length}
use Rattle.panel_listing.specs.Layouts.{taken_columns}
use Rattle.panel_listing.proofs.layout.left_by.Given as goal

abbrev pub invariant-loop-column : goal.invariant-loop-column
invariant-loop-column l = l.left - taken_columns l.rest ≡ l.row - taken_columns l.columns

abbrev pub decreases-loop-column : goal.decreases-loop-column
decreases-loop-column l = length l.rest
