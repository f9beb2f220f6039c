use Rattle.copy_job.proofs.Waits.{trouble_law}
use Rattle.copy_job.proofs.laws.what_a_trouble_leaves.Goals as goal

pub returns : goal.returns
returns c = trouble_law
