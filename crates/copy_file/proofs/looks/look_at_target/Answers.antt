-- A look that is refused, and not for want of a thing there.
use Rattle.job_reports.proofs.Reading.{absent_stops}
use Rattle.copy_file.proofs.looks.look_at_target.Goals as goal

pub returns-in-Err-missing_or_trouble-clause-known : goal.returns-in-Err-missing_or_trouble-clause-known
returns-in-Err-missing_or_trouble-clause-known g c =
    λ log known. absent_stops _ log c.args.path.now c.in-Err.error c.in-Err-missing_or_trouble.trouble (c.in-Err.ensures.answer log known) c.in-Err-missing_or_trouble.ensures
