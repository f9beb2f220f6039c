use Rattle.copy_job.proofs.Counts.{count_law}
use Rattle.copy_job.proofs.laws.a_step_counts_its_calls.Goals as goal

pub returns : goal.returns
returns c = count_law
