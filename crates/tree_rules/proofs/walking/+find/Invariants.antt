use Rattle.std.proofs.Common.{length}
use Rattle.tree_rules.proofs.walking.+find.Given as goal

abbrev pub decreases-find : goal.decreases-find
decreases-find l = length l.names.now
