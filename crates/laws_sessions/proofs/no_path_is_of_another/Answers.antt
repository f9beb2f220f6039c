use Rattle.laws_sessions.proofs.OneLive.{one_live_law}
use Rattle.laws_sessions.proofs.no_path_is_of_another.Goals as goal

pub returns : goal.returns
returns c = one_live_law
