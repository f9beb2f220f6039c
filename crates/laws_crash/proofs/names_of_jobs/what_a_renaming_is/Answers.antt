use Rattle.laws_crash.proofs.Moving.{moving_law}
use Rattle.laws_crash.proofs.names_of_jobs.what_a_renaming_is.Goals as goal

pub returns : goal.returns
returns c = moving_law
