-- The first row that passes, or none.
use Rattle.std.proofs.Common.{◌≡◌, ◌<◌, true, None, slice_index_or, length, ap, sym, ◌∙◌, arith}
use Rattle.panel_listing.specs.Listings.{rows_in}
use Rattle.panel_state.specs.Panels.{is_named}
use Rattle.panel_state.proofs.RowLemmas.{position-here, position-nowhere}
use Rattle.panel_state.proofs.searching.row_named.Goals as goal

pub returns-then-is_named-clause-row : goal.returns-then-is_named-clause-row
returns-then-is_named-clause-row c =
    let rows = rows_in c.args.listing.now in
    let passes = is_named c.args.name.now in
    let below : c.loop-row.row < length rows = omega (arith, c.loop-row-test.true, c.len-row-end.ensures) in
    let here : passes (slice_index_or rows c.loop-row.row None) ≡ true = ap passes (sym c.item.ensures) ∙ sym c.if-is_named.ensures in
    sym (position-here passes rows c.loop-row.row None below c.loop-row.invariant here)

pub returns-clause-row : goal.returns-clause-row
returns-clause-row c =
    let rows = rows_in c.args.listing.now in
    sym (position-nowhere (is_named c.args.name.now) rows None (λ k below.
    c.loop-row.invariant k (omega (arith, below, c.loop-row-test.false, c.len-row-end.ensures))))
