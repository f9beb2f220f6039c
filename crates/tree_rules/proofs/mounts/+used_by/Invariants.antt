use Rattle.tree_rules.proofs.mounts.+used_by.Given as goal

abbrev pub decreases-used_by : goal.decreases-used_by
decreases-used_by l = l.count
