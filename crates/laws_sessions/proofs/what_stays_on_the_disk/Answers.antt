use Rattle.laws_sessions.proofs.ModesStay.{stays_law}
use Rattle.laws_sessions.proofs.what_stays_on_the_disk.Goals as goal

pub returns : goal.returns
returns c = stays_law
