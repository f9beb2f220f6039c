-- The rows so far.
use Rattle.std.proofs.Common.{◌≡◌, map, take, drop}
use Rattle.panel_listing.specs.Listings.{rows_in}
use Rattle.panel_listing.specs.RowTexts.{row_text}
use Rattle.panel_listing.proofs.painting.rows.Given as goal

abbrev pub invariant-loop-row : goal.invariant-loop-row
invariant-loop-row l =
    l.rows ≡ map (row_text l.window l.tags l.cells.items) (take l.row (drop l.window.first (rows_in l.listing)))
