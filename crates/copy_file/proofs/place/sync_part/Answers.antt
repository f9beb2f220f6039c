-- One call, with its answer.
use Rattle.std.proofs.Common.{false}
use Rattle.tree_trait.specs.Calls.{SyncFile}
use Rattle.job_reports.specs.Stops.{RanFolded}
use Rattle.job_reports.proofs.Runs.{ran_call}
use Rattle.copy_file.proofs.place.sync_part.Goals as goal

pub returns : goal.returns
unfolding RanFolded
returns g c =
    ran_call (SyncFile c.args.part.now) c.sync_file.result c.in-Ok.named false _ _ _ _ c.made_or_stopped.result c.made_or_stopped.ensures c.in-Ok.ensures
    c.sync_file.ensures.answer c.sync_file.ensures.stays_unknown c.sync_file.ensures.cause
