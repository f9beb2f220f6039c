use Rattle.laws_crash.proofs.Guarding.{quiet_law}
use Rattle.laws_crash.proofs.possible_paths.what_a_quiet_step_keeps.Goals as goal

pub returns : goal.returns
returns c = quiet_law
