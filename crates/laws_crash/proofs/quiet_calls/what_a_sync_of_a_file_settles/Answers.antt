use Rattle.laws_crash.proofs.Syncing.{firm_law}
use Rattle.laws_crash.proofs.quiet_calls.what_a_sync_of_a_file_settles.Goals as goal

pub returns : goal.returns
returns c = firm_law
