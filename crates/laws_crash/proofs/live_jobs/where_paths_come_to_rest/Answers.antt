use Rattle.laws_crash.proofs.Tables.{rest_law}
use Rattle.laws_crash.proofs.live_jobs.where_paths_come_to_rest.Goals as goal

pub returns : goal.returns
returns c = rest_law
