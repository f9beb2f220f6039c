use Rattle.save_file.proofs.RefusedCalls.{refused_law}
use Rattle.save_file.proofs.laws.what_a_refused_call_keeps.Goals as goal

pub returns : goal.returns
returns c = refused_law
