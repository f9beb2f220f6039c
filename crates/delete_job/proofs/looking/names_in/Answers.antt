-- A listing that is refused.
use Rattle.tree_trait.specs.Change.{current}
use Rattle.delete_job.proofs.Refusals.{listing_stops}
use Rattle.delete_job.proofs.looking.names_in.Goals as goal

pub returns-in-Err-clause-known : goal.returns-in-Err-clause-known
returns-in-Err-clause-known g c = λ log known. listing_stops (current log) c.args.path.now c.in-Err.trouble.cause c.in-Err.trouble.path (c.requires.folder log known) (c.in-Err.ensures.known log known)
