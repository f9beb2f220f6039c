-- What was found so far, where no dot is left.
use Rattle.std.proofs.Common.{◌≡◌, [], length}
use Rattle.std.specs.Prelude.{unwrap_or}
use Rattle.panel_listing.specs.Orders.{behind_last_dot}
use Rattle.panel_listing.proofs.wish.behind_last_dot.Given as goal

abbrev pub invariant-loop-byte : goal.invariant-loop-byte
invariant-loop-byte l = unwrap_or (behind_last_dot l.rest) l.found ≡ unwrap_or (behind_last_dot l.text) []

abbrev pub decreases-loop-byte : goal.decreases-loop-byte
decreases-loop-byte l = length l.rest
