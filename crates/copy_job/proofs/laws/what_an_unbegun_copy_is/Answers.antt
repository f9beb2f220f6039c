use Rattle.copy_job.proofs.Unbegun.{unbegun_law}
use Rattle.copy_job.proofs.laws.what_an_unbegun_copy_is.Goals as goal

pub returns : goal.returns
returns c = unbegun_law
