use Rattle.laws_crash.proofs.Syncing.{write_law}
use Rattle.laws_crash.proofs.quiet_calls.what_a_write_keeps.Goals as goal

pub returns : goal.returns
returns c = write_law
