use Rattle.laws_crash.proofs.Others.{opening_law}
use Rattle.laws_crash.proofs.live_jobs.what_holds_at_an_opening.Goals as goal

pub returns : goal.returns
returns c = opening_law
