-- The names so far.
use Rattle.std.proofs.Common.{◌≡◌, take}
use Rattle.panel_listing.specs.Arranging.{names_of}
use Rattle.panel_listing.proofs.arranging.names_of.Given as goal

abbrev pub invariant-loop-item : goal.invariant-loop-item
invariant-loop-item l = l.names ≡ names_of (take l.item-index l.items)
