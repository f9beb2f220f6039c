use Rattle.laws_crash.proofs.Syncing.{below_law}
use Rattle.laws_crash.proofs.quiet_calls.what_is_settled_below.Goals as goal

pub returns : goal.returns
returns c = below_law
