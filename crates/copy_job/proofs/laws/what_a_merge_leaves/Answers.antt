use Rattle.copy_job.proofs.MergedOnes.{merged_law}
use Rattle.copy_job.proofs.laws.what_a_merge_leaves.Goals as goal

pub returns : goal.returns
returns c = merged_law
