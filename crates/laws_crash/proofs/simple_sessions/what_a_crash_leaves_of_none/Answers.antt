use Rattle.laws_crash.proofs.Simpler.{idle_law}
use Rattle.laws_crash.proofs.simple_sessions.what_a_crash_leaves_of_none.Goals as goal

pub returns : goal.returns
returns c = idle_law
