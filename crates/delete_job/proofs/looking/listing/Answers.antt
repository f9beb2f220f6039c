-- A listing that is refused.
use Rattle.tree_trait.specs.Calls.{ListFolder}
use Rattle.delete_job.proofs.Refusals.{call_stops}
use Rattle.delete_job.proofs.looking.listing.Goals as goal

pub returns-in-Err-clause-known : goal.returns-in-Err-clause-known
returns-in-Err-clause-known g c = λ log known. call_stops _ log (ListFolder c.args.path.now) c.args.path.now c.in-Err.error c.reading_trouble.result (c.in-Err.ensures.answer log known) c.reading_trouble.ensures
