use Rattle.copy_job.proofs.LastCounts.{last_count_law}
use Rattle.copy_job.proofs.laws.a_last_step_counts_its_calls.Goals as goal

pub returns : goal.returns
returns c = last_count_law
