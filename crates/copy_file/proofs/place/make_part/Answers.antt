-- One call, with its answer.
use Rattle.std.proofs.Common.{false}
use Rattle.tree_trait.specs.Calls.{MakeFile}
use Rattle.job_reports.proofs.Runs.{ran_call}
use Rattle.copy_file.proofs.place.make_part.Goals as goal

pub returns : goal.returns
returns g c =
    ran_call (MakeFile c.args.part.now c.args.mode) c.make_file.result c.in-Ok.named false _ _ _ _ c.made_or_stopped.result c.made_or_stopped.ensures c.in-Ok.ensures
    c.make_file.ensures.answer c.make_file.ensures.stays_unknown c.make_file.ensures.cause
