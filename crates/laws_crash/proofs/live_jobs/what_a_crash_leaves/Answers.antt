use Rattle.laws_crash.proofs.Tables.{safe_law}
use Rattle.laws_crash.proofs.live_jobs.what_a_crash_leaves.Goals as goal

pub returns : goal.returns
returns c = safe_law
