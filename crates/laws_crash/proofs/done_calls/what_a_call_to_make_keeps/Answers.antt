use Rattle.laws_crash.proofs.Calling.{made_law}
use Rattle.laws_crash.proofs.done_calls.what_a_call_to_make_keeps.Goals as goal

pub returns : goal.returns
returns c = made_law
