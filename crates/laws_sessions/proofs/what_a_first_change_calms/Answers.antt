use Rattle.laws_sessions.proofs.Calmed.{calm_law}
use Rattle.laws_sessions.proofs.what_a_first_change_calms.Goals as goal

pub returns : goal.returns
returns c = calm_law
