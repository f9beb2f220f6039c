-- One call, with its answer.
use Rattle.std.proofs.Common.{false}
use Rattle.tree_trait.specs.Calls.{Rename}
use Rattle.job_reports.proofs.Runs.{ran_call}
use Rattle.job_reports.proofs.calls.rename_thing.Goals as goal

pub returns : goal.returns
returns g c =
    ran_call (Rename c.args.source.now c.args.target.now) c.rename.result c.in-Ok.named false _ _ _ _ c.made_or_stopped.result c.made_or_stopped.ensures c.in-Ok.ensures
    c.rename.ensures.answer c.rename.ensures.stays_unknown c.rename.ensures.cause
