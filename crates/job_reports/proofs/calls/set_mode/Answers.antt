-- One call, with its answer.
use Rattle.std.proofs.Common.{false}
use Rattle.tree_trait.specs.Calls.{SetMode}
use Rattle.job_reports.proofs.Runs.{ran_call}
use Rattle.job_reports.proofs.calls.set_mode.Goals as goal

pub returns : goal.returns
returns g c =
    ran_call (SetMode c.args.path.now c.args.mode) c.set_mode.result c.in-Ok.named false _ _ _ _ c.made_or_stopped.result c.made_or_stopped.ensures c.in-Ok.ensures
    c.set_mode.ensures.answer c.set_mode.ensures.stays_unknown c.set_mode.ensures.cause
