use Rattle.laws_crash.proofs.Syncing.{synced_law}
use Rattle.laws_crash.proofs.quiet_calls.what_a_sync_of_a_folder_settles.Goals as goal

pub returns : goal.returns
returns c = synced_law
