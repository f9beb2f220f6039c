use Rattle.laws_crash.proofs.Between.{gone_law}
use Rattle.laws_crash.proofs.quiet_calls.what_is_gone.Goals as goal

pub returns : goal.returns
returns c = gone_law
