use Rattle.laws_crash.proofs.Tables.{mode_step_law}
use Rattle.laws_crash.proofs.live_jobs.what_a_mode_of_a_job_keeps.Goals as goal

pub returns : goal.returns
returns c = mode_step_law
