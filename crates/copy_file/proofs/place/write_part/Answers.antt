-- One call, with its answer.
use Rattle.std.proofs.Common.{false}
use Rattle.tree_trait.specs.Calls.{WriteAt}
use Rattle.job_reports.proofs.Runs.{ran_call}
use Rattle.copy_file.proofs.place.write_part.Goals as goal

pub returns : goal.returns
returns g c =
    ran_call (WriteAt c.args.part.now c.args.offset c.args.bytes.now) c.write_at.result c.in-Ok.named false _ _ _ _ c.made_or_stopped.result c.made_or_stopped.ensures c.in-Ok.ensures
    c.write_at.ensures.answer c.write_at.ensures.stays_unknown c.write_at.ensures.cause
