use Rattle.laws_sessions.proofs.FinishedOwn.{finished_law}
use Rattle.laws_sessions.proofs.what_a_finished_job_leaves.Goals as goal

pub returns : goal.returns
returns c = finished_law
