use Rattle.carry_job.proofs.Ordered.{order_law}
use Rattle.carry_job.proofs.laws.what_comes_before_a_removal.Goals as goal

pub returns : goal.returns
returns c = order_law
