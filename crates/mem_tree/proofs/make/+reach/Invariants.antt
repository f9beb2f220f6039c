use Rattle.std.proofs.Common.{length}
use Rattle.mem_tree.proofs.make.+reach.Given as goal

abbrev pub decreases-reach : goal.decreases-reach
decreases-reach l = length l.names.now
