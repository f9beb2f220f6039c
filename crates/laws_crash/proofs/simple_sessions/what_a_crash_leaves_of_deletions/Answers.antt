use Rattle.laws_crash.proofs.Simpler.{deletion_law}
use Rattle.laws_crash.proofs.simple_sessions.what_a_crash_leaves_of_deletions.Goals as goal

pub returns : goal.returns
returns c = deletion_law
