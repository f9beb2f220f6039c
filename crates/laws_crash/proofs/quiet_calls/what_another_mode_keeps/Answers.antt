use Rattle.laws_crash.proofs.Syncing.{mode_law}
use Rattle.laws_crash.proofs.quiet_calls.what_another_mode_keeps.Goals as goal

pub returns : goal.returns
returns c = mode_law
