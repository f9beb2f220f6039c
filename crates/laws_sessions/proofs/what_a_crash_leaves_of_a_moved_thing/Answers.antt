use Rattle.laws_sessions.proofs.WholeMoments.{whole_law}
use Rattle.laws_sessions.proofs.what_a_crash_leaves_of_a_moved_thing.Goals as goal

pub returns : goal.returns
returns c = whole_law
