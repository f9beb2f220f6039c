-- One row more, and all rows.
use Rattle.std.proofs.Common.{◌<◌, ◌≤◌, ◌++◌, Option, List, take, length, ap, ◌∙◌, arith}
use Rattle.std.specs.Prelude.{option_copied}
use Rattle.panel_listing.specs.Listings.{rows_in}
use Rattle.panel_listing.specs.declared.item.Item.{Item}
use Rattle.panel_state.specs.Wanted.{is_wanted, more_wanted}
use Rattle.panel_state.proofs.RowLemmas.{items_wanted, items_wanted-more, items_wanted-whole}
use Rattle.panel_state.proofs.wanted.wanted_items.Goals as goal

pub loop-row-preserved : goal.loop-row-preserved
loop-row-preserved c =
    let wants = is_wanted c.args.wanted c.args.tags.now in
    let rows = rows_in c.args.listing.now in
    let below : c.loop-row.row < length rows = omega (arith, c.loop-row-test.true, c.len-row-end.ensures) in
    c.in_ok-push_wanted.ensures
    ∙ ap (λ (front : List Item). front ++ more_wanted wants (option_copied c.item.result)) c.loop-row.invariant
    ∙ ap (λ (item : Option Item). items_wanted wants (take c.loop-row.row rows) ++ more_wanted wants item) c.item.ensures
    ∙ items_wanted-more wants rows c.loop-row.row below

pub returns : goal.returns
returns c =
    let past : length (rows_in c.args.listing.now) ≤ c.loop-row.row = omega (arith, c.loop-row-test.false, c.len-row-end.ensures) in
    c.loop-row.invariant ∙ items_wanted-whole (is_wanted c.args.wanted c.args.tags.now) c.args.listing.now c.loop-row.row past
