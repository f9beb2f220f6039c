use Rattle.laws_crash.proofs.Calling.{placed_law}
use Rattle.laws_crash.proofs.done_calls.what_a_call_to_rename_keeps.Goals as goal

pub returns : goal.returns
returns c = placed_law
