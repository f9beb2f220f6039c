use Rattle.laws_carry.proofs.Carried.{carried_law}
use Rattle.laws_carry.proofs.what_is_carried_stays_whole.Goals as goal

pub returns : goal.returns
returns c = carried_law
