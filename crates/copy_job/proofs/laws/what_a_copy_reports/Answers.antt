use Rattle.copy_job.proofs.Reportings.{reporting_law}
use Rattle.copy_job.proofs.laws.what_a_copy_reports.Goals as goal

pub returns : goal.returns
returns c = reporting_law
