use Rattle.laws_sessions.proofs.Owing.{step_law}
use Rattle.laws_sessions.proofs.what_a_step_of_a_run_tells.Goals as goal

pub returns : goal.returns
returns c = step_law
