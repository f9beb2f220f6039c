use Rattle.laws_crash.proofs.Syncing.{unaltered_law}
use Rattle.laws_crash.proofs.quiet_calls.what_is_not_altered.Goals as goal

pub returns : goal.returns
returns c = unaltered_law
