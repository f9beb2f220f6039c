use Rattle.laws_crash.proofs.Guarding.{settle_law}
use Rattle.laws_crash.proofs.possible_paths.where_work_is_over.Goals as goal

pub returns : goal.returns
returns c = settle_law
