use Rattle.laws_crash.proofs.Tables.{step_law}
use Rattle.laws_crash.proofs.live_jobs.what_a_step_of_a_job_keeps.Goals as goal

pub returns : goal.returns
returns c = step_law
