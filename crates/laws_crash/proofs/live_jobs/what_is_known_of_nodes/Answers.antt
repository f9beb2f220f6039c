use Rattle.laws_crash.proofs.Tables.{nodes_law}
use Rattle.laws_crash.proofs.live_jobs.what_is_known_of_nodes.Goals as goal

pub returns : goal.returns
returns c = nodes_law
