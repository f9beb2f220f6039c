-- One call, with its answer.
use Rattle.std.proofs.Common.{false}
use Rattle.tree_trait.specs.Calls.{RemoveFile}
use Rattle.job_reports.proofs.Runs.{ran_call}
use Rattle.carry_job.proofs.removing.remove_source.Goals as goal

pub returns : goal.returns
returns g c =
    ran_call (RemoveFile c.args.source.now) c.remove_file.result c.in-Ok.named false _ _ _ _ c.made_or_stopped.result c.made_or_stopped.ensures c.in-Ok.ensures
    c.remove_file.ensures.answer c.remove_file.ensures.stays_unknown c.remove_file.ensures.cause
