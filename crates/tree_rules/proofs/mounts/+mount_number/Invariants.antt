use Rattle.std.proofs.Common.{length}
use Rattle.tree_rules.proofs.mounts.+mount_number.Given as goal

abbrev pub decreases-mount_number : goal.decreases-mount_number
decreases-mount_number l = length l.mounts.now
