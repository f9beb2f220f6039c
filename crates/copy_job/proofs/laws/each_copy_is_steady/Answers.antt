use Rattle.copy_job.proofs.Answered.{steady_law}
use Rattle.copy_job.proofs.laws.each_copy_is_steady.Goals as goal

pub returns : goal.returns
returns c = steady_law
