use Rattle.laws_crash.proofs.Removing.{removal_law}
use Rattle.laws_crash.proofs.names_of_jobs.what_a_removal_is.Goals as goal

pub returns : goal.returns
returns c = removal_law
