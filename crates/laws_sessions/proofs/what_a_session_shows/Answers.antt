use Rattle.laws_sessions.proofs.Moments.{replay_law}
use Rattle.laws_sessions.proofs.what_a_session_shows.Goals as goal

pub returns : goal.returns
returns c = replay_law
