use Rattle.laws_crash.proofs.Tables.{begin_law}
use Rattle.laws_crash.proofs.live_jobs.where_a_job_may_begin.Goals as goal

pub returns : goal.returns
returns c = begin_law
