use Rattle.laws_crash.proofs.Others.{names_of_moved_law}
use Rattle.laws_crash.proofs.names_of_jobs.what_names_a_moved_thing_has.Goals as goal

pub returns : goal.returns
returns c = names_of_moved_law
