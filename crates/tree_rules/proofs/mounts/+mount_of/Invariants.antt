use Rattle.std.proofs.Common.{length}
use Rattle.tree_rules.proofs.mounts.+mount_of.Given as goal

abbrev pub decreases-mount_of : goal.decreases-mount_of
decreases-mount_of l = length l.names.now
