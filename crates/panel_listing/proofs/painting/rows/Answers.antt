-- One row more of the window.
use Rattle.std.proofs.Common.{◌≡◌, ◌∙◌, ◌+◌, ◌<◌, ◌++◌, ◌∷◌, [], None, List, ℕ, ap, drop, length, slice_index_or, arith}
use Rattle.std.specs.Prelude.{option_copied}
use Rattle.std.proofs.lemmas.List.{length-drop}
use Rattle.panel_listing.specs.Listings.{rows_in}
use Rattle.panel_listing.specs.RowTexts.{row_text}
use Rattle.panel_listing.specs.declared.layout.Cell.{Cell}
use Rattle.panel_listing.proofs.RowLemmas.{rows-more}
use Rattle.panel_listing.proofs.painting.rows.Goals as goal

pub loop-row-preserved : goal.loop-row-preserved
loop-row-preserved c =
    let listed = rows_in c.args.listing.now in
    let first = c.args.window.first in
    let row = c.loop-row.row in
    let told = row_text c.args.window c.args.tags.now c.in_ok-cells.cells.items in
    let below : row < length (drop first listed) =
    omega (arith, c.loop-row-test.true, c.min-row-end.ensures, c.saturating_sub-there.ensures, c.len.ensures, length-drop first listed) in
    let text_is : c.in_ok-row_text.field-0 ≡ told (slice_index_or listed (first + row) None) =
    c.in_ok-row_text.ensures
    ∙ ap (λ (cells : List Cell). row_text c.args.window c.args.tags.now cells (option_copied c.item-item.result)) c.as_slice.ensures.value
    ∙ ap told c.item-item.ensures in
    c.in_ok-push.ensures.done ∙ ap (λ (text : List ℕ). c.loop-row.rows ++ text ∷ []) text_is
    ∙ rows-more told listed first row None c.loop-row.rows below c.loop-row.invariant
