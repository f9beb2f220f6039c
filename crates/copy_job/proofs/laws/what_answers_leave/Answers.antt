use Rattle.copy_job.proofs.Answered.{answered_law}
use Rattle.copy_job.proofs.laws.what_answers_leave.Goals as goal

pub returns : goal.returns
returns c = answered_law
