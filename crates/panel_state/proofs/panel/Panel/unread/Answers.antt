-- A panel that shows nothing is steady.
use Rattle.std.proofs.Common.{subst, sym}
use Rattle.panel_listing.specs.Listings.{Listed}
use Rattle.panel_state.specs.Panels.{IsSteady}
use Rattle.panel_state.proofs.ReadingLemmas.{nothing_steady}
use Rattle.panel_state.proofs.panel.Panel.unread.Goals as goal

pub invariant_of-result : goal.invariant_of-result
invariant_of-result c = subst (λ (l : Listed). IsSteady c.first_wish.result l 0 0) (sym c.nothing.ensures) (nothing_steady c.first_wish.result)
