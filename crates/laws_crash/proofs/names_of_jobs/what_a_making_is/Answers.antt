use Rattle.laws_crash.proofs.Making.{making_law}
use Rattle.laws_crash.proofs.names_of_jobs.what_a_making_is.Goals as goal

pub returns : goal.returns
returns c = making_law
