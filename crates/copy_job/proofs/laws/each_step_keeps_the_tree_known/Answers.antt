use Rattle.copy_job.proofs.StillTelling.{known_law}
use Rattle.copy_job.proofs.laws.each_step_keeps_the_tree_known.Goals as goal

pub returns : goal.returns
returns c = known_law
