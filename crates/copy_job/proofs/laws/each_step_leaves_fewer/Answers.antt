use Rattle.copy_job.proofs.Ranked.{rank_law}
use Rattle.copy_job.proofs.laws.each_step_leaves_fewer.Goals as goal

pub returns : goal.returns
returns c = rank_law
