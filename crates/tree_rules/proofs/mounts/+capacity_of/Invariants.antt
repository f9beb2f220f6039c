use Rattle.std.proofs.Common.{length}
use Rattle.tree_rules.proofs.mounts.+capacity_of.Given as goal

abbrev pub decreases-capacity_of : goal.decreases-capacity_of
decreases-capacity_of l = length l.mounts.now
