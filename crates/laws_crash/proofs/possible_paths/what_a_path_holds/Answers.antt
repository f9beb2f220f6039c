use Rattle.laws_crash.proofs.Guarding.{guard_law}
use Rattle.laws_crash.proofs.possible_paths.what_a_path_holds.Goals as goal

pub returns : goal.returns
returns c = guard_law
