-- One call, with its answer.
use Rattle.std.proofs.Common.{true}
use Rattle.tree_trait.specs.Calls.{SyncFolder}
use Rattle.job_reports.proofs.Runs.{ran_call}
use Rattle.job_reports.proofs.calls.sync_names.Goals as goal

pub returns : goal.returns
returns g c =
    ran_call (SyncFolder c.args.folder.now) c.sync_folder.result c.in-Ok.named true _ _ _ _ c.made_or_stopped.result c.made_or_stopped.ensures c.in-Ok.ensures
    c.sync_folder.ensures.answer c.sync_folder.ensures.stays_unknown c.sync_folder.ensures.cause
