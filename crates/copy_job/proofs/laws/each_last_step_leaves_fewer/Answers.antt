use Rattle.copy_job.proofs.LastOnes.{last_rank_law}
use Rattle.copy_job.proofs.laws.each_last_step_leaves_fewer.Goals as goal

pub returns : goal.returns
returns c = last_rank_law
