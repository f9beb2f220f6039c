-- A look that is refused.
use Rattle.job_reports.proofs.Reading.{stat_stops}
use Rattle.copy_file.proofs.looks.look.Goals as goal

pub returns-in-Err-clause-known : goal.returns-in-Err-clause-known
returns-in-Err-clause-known g c = λ log known. stat_stops _ log c.args.path.now c.in-Err.error c.reading_trouble.result (c.in-Err.ensures.answer log known) c.reading_trouble.ensures
