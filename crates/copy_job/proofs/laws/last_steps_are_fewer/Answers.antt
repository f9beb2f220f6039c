use Rattle.copy_job.proofs.Answered.{waiting_law}
use Rattle.copy_job.proofs.laws.last_steps_are_fewer.Goals as goal

pub returns : goal.returns
returns c = waiting_law
