use Rattle.laws_sessions.proofs.Moments.{session_law}
use Rattle.laws_sessions.proofs.what_a_crash_leaves_of_a_session.Goals as goal

pub returns : goal.returns
returns c = session_law
