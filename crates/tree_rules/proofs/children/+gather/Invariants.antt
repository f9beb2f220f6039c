use Rattle.std.proofs.Common.{length}
use Rattle.tree_rules.proofs.children.+gather.Given as goal

abbrev pub decreases-gather : goal.decreases-gather
decreases-gather l = length l.edits.now
