-- No row so far has the name.
use Rattle.std.proofs.Common.{◌≡◌, ℕ, ◌<◌, false, None, slice_index_or}
use Rattle.panel_listing.specs.Listings.{rows_in}
use Rattle.panel_state.specs.Panels.{is_named}
use Rattle.panel_state.proofs.searching.row_named.Given as goal

abbrev pub invariant-loop-row : goal.invariant-loop-row
invariant-loop-row l = (k : ℕ) → k < l.row → is_named l.name (slice_index_or (rows_in l.listing) k None) ≡ false
