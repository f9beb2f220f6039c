use Rattle.laws_crash.proofs.Placing.{placing_law}
use Rattle.laws_crash.proofs.names_of_jobs.what_a_placing_is.Goals as goal

pub returns : goal.returns
returns c = placing_law
