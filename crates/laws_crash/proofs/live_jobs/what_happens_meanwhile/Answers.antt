use Rattle.laws_crash.proofs.Between.{meanwhile_law}
use Rattle.laws_crash.proofs.live_jobs.what_happens_meanwhile.Goals as goal

pub returns : goal.returns
returns c = meanwhile_law
