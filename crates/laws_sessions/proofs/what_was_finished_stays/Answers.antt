use Rattle.laws_sessions.proofs.Done.{done_law}
use Rattle.laws_sessions.proofs.what_was_finished_stays.Goals as goal

pub returns : goal.returns
returns c = done_law
