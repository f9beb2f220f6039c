use Rattle.laws_crash.proofs.Unworked.{unworked_law}
use Rattle.laws_crash.proofs.names_of_jobs.what_is_known_below_a_path.Goals as goal

pub returns : goal.returns
returns c = unworked_law
