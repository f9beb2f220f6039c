-- One call, with its answer.
use Rattle.std.proofs.Common.{true}
use Rattle.tree_trait.specs.Calls.{RemoveFile}
use Rattle.job_reports.proofs.Runs.{ran_call}
use Rattle.job_reports.proofs.calls.remove_part.Goals as goal

pub returns : goal.returns
returns g c =
    ran_call (RemoveFile c.args.part.now) c.remove_file.result c.in-Ok.named true _ _ _ _ c.made_or_stopped.result c.made_or_stopped.ensures c.in-Ok.ensures
    c.remove_file.ensures.answer c.remove_file.ensures.stays_unknown c.remove_file.ensures.cause
