-- The cells so far, before those that are left.
use Rattle.std.proofs.Common.{◌≡◌, ◌++◌, length}
use Rattle.std.specs.Prelude.{string_bytes, option_copied}
use Rattle.panel_listing.specs.RowTexts.{cells_text}
use Rattle.panel_listing.proofs.painting.cells_text.Given as goal

abbrev pub invariant-loop-cell : goal.invariant-loop-cell
invariant-loop-cell l =
    string_bytes l.line ++ cells_text l.now l.tagged (option_copied l.item) l.rest ≡ cells_text l.now l.tagged (option_copied l.item) l.cells

abbrev pub decreases-loop-cell : goal.decreases-loop-cell
decreases-loop-cell l = length l.rest
