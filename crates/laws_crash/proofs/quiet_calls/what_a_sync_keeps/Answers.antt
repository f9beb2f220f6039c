use Rattle.laws_crash.proofs.Syncing.{sync_law}
use Rattle.laws_crash.proofs.quiet_calls.what_a_sync_keeps.Goals as goal

pub returns : goal.returns
returns c = sync_law
