use Rattle.copy_tree.proofs.Fallings.{falling_law}
use Rattle.copy_tree.proofs.laws.each_decision_leaves_fewer_things.Goals as goal

pub returns : goal.returns
returns c = falling_law
