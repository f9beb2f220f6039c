-- A look that is refused.
use Rattle.tree_trait.specs.Change.{current}
use Rattle.delete_job.proofs.Refusals.{look_stops}
use Rattle.delete_job.proofs.looking.what_stands.Goals as goal

pub returns-in-Err-clause-known : goal.returns-in-Err-clause-known
returns-in-Err-clause-known g c = λ log known. look_stops (current log) c.args.path.now c.in-Err.trouble.cause c.in-Err.trouble.path (c.in-Err.ensures.known log known)
