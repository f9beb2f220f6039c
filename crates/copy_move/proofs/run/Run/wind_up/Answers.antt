-- A last step is one of the work.
use Rattle.copy_move.proofs.FolderSteps.{winding_step}
use Rattle.copy_move.proofs.run.Run.wind_up.Goals as goal

pub returns : goal.returns
returns g c =
    record { steps = winding_step c.args.ending _ _ _ _ _ _ _ _ _ _ _ _ _ _ _ c.self.view_is c.wind_up-last.ensures }
