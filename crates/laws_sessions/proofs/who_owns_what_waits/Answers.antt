use Rattle.laws_sessions.proofs.Owners.{owners_law}
use Rattle.laws_sessions.proofs.who_owns_what_waits.Goals as goal

pub returns : goal.returns
returns c = owners_law
