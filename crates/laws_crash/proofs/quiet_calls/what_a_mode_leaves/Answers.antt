use Rattle.laws_crash.proofs.ModeLaws.{modes_law}
use Rattle.laws_crash.proofs.quiet_calls.what_a_mode_leaves.Goals as goal

pub returns : goal.returns
returns c = modes_law
