-- The wanted ones of the rows so far.
use Rattle.std.proofs.Common.{◌≡◌, map, take}
use Rattle.panel_listing.specs.Listings.{rows_in}
use Rattle.panel_state.specs.Wanted.{is_wanted}
use Rattle.panel_state.proofs.RowLemmas.{items_wanted}
use Rattle.panel_state.proofs.wanted.wanted_items.Given as goal

abbrev pub invariant-loop-row : goal.invariant-loop-row
invariant-loop-row l = map (λ item. item.now) l.items.items ≡ items_wanted (is_wanted l.wanted l.tags) (take l.row (rows_in l.listing))
