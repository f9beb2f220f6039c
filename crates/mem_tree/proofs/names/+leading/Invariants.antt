use Rattle.std.proofs.Common.{length}
use Rattle.mem_tree.proofs.names.+leading.Given as goal

abbrev pub decreases-leading : goal.decreases-leading
decreases-leading l = length l.edits.now
