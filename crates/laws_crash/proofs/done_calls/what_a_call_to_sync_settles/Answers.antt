use Rattle.laws_crash.proofs.Calling.{folder_synced_law}
use Rattle.laws_crash.proofs.done_calls.what_a_call_to_sync_settles.Goals as goal

pub returns : goal.returns
returns c = folder_synced_law
