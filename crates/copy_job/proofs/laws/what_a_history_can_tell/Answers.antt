use Rattle.copy_job.proofs.Tellings.{told_law}
use Rattle.copy_job.proofs.laws.what_a_history_can_tell.Goals as goal

pub returns : goal.returns
returns c = told_law
