-- A look that is refused.
use Rattle.tree_trait.specs.Calls.{Stat}
use Rattle.delete_job.proofs.Refusals.{call_stops}
use Rattle.delete_job.proofs.looking.is_folder_at.Goals as goal

pub returns-in-Err-clause-known : goal.returns-in-Err-clause-known
returns-in-Err-clause-known g c = λ log known. call_stops _ log (Stat c.args.path.now) c.args.path.now c.in-Err.error c.reading_trouble.result (c.in-Err.ensures.answer log known) c.reading_trouble.ensures
