use Rattle.laws_crash.proofs.Others.{others_law}
use Rattle.laws_crash.proofs.live_jobs.what_stays_while_others_work.Goals as goal

pub returns : goal.returns
returns c = others_law
