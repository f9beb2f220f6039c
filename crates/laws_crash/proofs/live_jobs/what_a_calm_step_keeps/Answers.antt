use Rattle.laws_crash.proofs.Tables.{calm_law}
use Rattle.laws_crash.proofs.live_jobs.what_a_calm_step_keeps.Goals as goal

pub returns : goal.returns
returns c = calm_law
