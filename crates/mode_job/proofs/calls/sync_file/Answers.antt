-- One call, with its answer.
use Rattle.std.proofs.Common.{true}
use Rattle.tree_trait.specs.Calls.{SyncFile}
use Rattle.job_reports.proofs.Runs.{ran_call}
use Rattle.mode_job.proofs.calls.sync_file.Goals as goal

pub returns : goal.returns
returns g c =
    ran_call (SyncFile c.args.path.now) c.sync_file.result c.in-Ok.named true _ _ _ _ c.made_or_stopped.result c.made_or_stopped.ensures c.in-Ok.ensures
    c.sync_file.ensures.answer c.sync_file.ensures.stays_unknown c.sync_file.ensures.cause
