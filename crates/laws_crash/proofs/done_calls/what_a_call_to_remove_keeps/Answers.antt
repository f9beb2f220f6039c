use Rattle.laws_crash.proofs.Calling.{removed_law}
use Rattle.laws_crash.proofs.done_calls.what_a_call_to_remove_keeps.Goals as goal

pub returns : goal.returns
returns c = removed_law
