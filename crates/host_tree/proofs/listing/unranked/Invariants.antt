-- The names that were yielded so far.
use Rattle.std.proofs.Common.{◌≡◌}
use Rattle.host_tree.proofs.listing.unranked.Given as goal

abbrev pub invariant-loop-name : goal.invariant-loop-name
invariant-loop-name l = l.names.items ≡ l.yielded
