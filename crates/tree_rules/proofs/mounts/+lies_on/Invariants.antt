use Rattle.tree_rules.proofs.mounts.+lies_on.Given as goal

abbrev pub decreases-lies_on : goal.decreases-lies_on
decreases-lies_on l = l.height
