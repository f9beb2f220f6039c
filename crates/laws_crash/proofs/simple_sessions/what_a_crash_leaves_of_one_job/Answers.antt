use Rattle.laws_crash.proofs.Simpler.{plain_law}
use Rattle.laws_crash.proofs.simple_sessions.what_a_crash_leaves_of_one_job.Goals as goal

pub returns : goal.returns
returns c = plain_law
