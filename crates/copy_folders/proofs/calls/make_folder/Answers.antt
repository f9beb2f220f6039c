-- One call, with its answer.
use Rattle.std.proofs.Common.{false}
use Rattle.tree_trait.specs.Calls.{MakeFolder}
use Rattle.job_reports.proofs.Runs.{ran_call}
use Rattle.copy_folders.proofs.calls.make_folder.Goals as goal

pub returns : goal.returns
returns g c =
    ran_call (MakeFolder c.args.folder.now c.args.mode) c.make_folder.result c.in-Ok.named false _ _ _ _ c.made_or_stopped.result c.made_or_stopped.ensures c.in-Ok.ensures
    c.make_folder.ensures.answer c.make_folder.ensures.stays_unknown c.make_folder.ensures.cause
