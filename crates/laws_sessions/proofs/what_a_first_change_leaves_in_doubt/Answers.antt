use Rattle.laws_sessions.proofs.FirstChanges.{first_change_law}
use Rattle.laws_sessions.proofs.what_a_first_change_leaves_in_doubt.Goals as goal

pub returns : goal.returns
returns c = first_change_law
