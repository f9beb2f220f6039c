use Rattle.laws_crash.proofs.Guarding.{naming_law}
use Rattle.laws_crash.proofs.possible_paths.what_a_change_of_names_keeps.Goals as goal

pub returns : goal.returns
returns c = naming_law
