-- One call, with its answer.
use Rattle.std.proofs.Common.{false}
use Rattle.tree_trait.specs.Calls.{MakeLink}
use Rattle.job_reports.proofs.Runs.{ran_call}
use Rattle.copy_link.proofs.calls.make_part.Goals as goal

pub returns : goal.returns
returns g c =
    ran_call (MakeLink c.args.part.now c.args.text.now) c.make_link.result c.in-Ok.named false _ _ _ _ c.made_or_stopped.result c.made_or_stopped.ensures c.in-Ok.ensures
    c.make_link.ensures.answer c.make_link.ensures.stays_unknown c.make_link.ensures.cause
