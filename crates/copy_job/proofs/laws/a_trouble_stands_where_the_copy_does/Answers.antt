use Rattle.copy_job.proofs.Barred.{barrier_law}
use Rattle.copy_job.proofs.laws.a_trouble_stands_where_the_copy_does.Goals as goal

pub returns : goal.returns
returns c = barrier_law
