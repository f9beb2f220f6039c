use Rattle.std.proofs.Common.{length}
use Rattle.tree_rules.proofs.walking.+reach.Given as goal

abbrev pub decreases-reach : goal.decreases-reach
decreases-reach l = length l.names.now
