-- So is a last step.
use Rattle.copy_move.proofs.FolderSteps.{deletion_winds_up}
use Rattle.copy_move.proofs.MakingWorks.{making_winds_up}
use Rattle.copy_move.proofs.ModeSteps.{setting_winds_up}
use Rattle.copy_move.proofs.MovingWorks.{moving_winds_up}
use Rattle.copy_move.proofs.RemovalWorks.{removal_winds_up}
use Rattle.copy_move.proofs.TreeSteps.{tree_winds_up}
use Rattle.copy_move.proofs.work.Work.wind_up.Goals as goal

pub returns-in-Delete : goal.returns-in-Delete
returns-in-Delete g c = rw c.in-Delete.is (deletion_winds_up c.args.ending _ _ _ _ _ _ _ _ _ _ _ c.wind_up-in-Delete.ensures)

pub returns-in-Copy : goal.returns-in-Copy
returns-in-Copy g c =
    rw c.in-Copy.is (tree_winds_up c.args.ending _ _ c.wind_up.result _ _ _ _ _ _ c.wind_up.ensures.winds c.wind_up.ensures.wound c.wind_up.ensures.own c.wind_up.ensures.called c.wind_up.ensures.told)

pub returns-in-Make : goal.returns-in-Make
returns-in-Make g c = rw c.in-Make.is (making_winds_up c.args.ending _ _ _ _ _ _ _ _ _ _ _ c.wind_up_making.ensures.winds c.wind_up_making.ensures.tries)

pub returns-in-SetMode : goal.returns-in-SetMode
returns-in-SetMode g c = rw c.in-SetMode.is (setting_winds_up c.args.ending _ _ _ _ _ _ _ _ _ c.wind_up_setting.ensures.winds c.wind_up_setting.ensures.tries)

pub returns-in-Move : goal.returns-in-Move
returns-in-Move g c = rw c.in-Move.is (moving_winds_up c.args.ending _ _ _ _ _ _ _ _ _ _ _ c.wind_up_moving.ensures.winds c.wind_up_moving.ensures.tries)

pub returns-in-RemoveEmptied : goal.returns-in-RemoveEmptied
returns-in-RemoveEmptied g c = rw c.in-RemoveEmptied.is (removal_winds_up c.args.ending _ _ _ _ _ _ _ _ _ _ _ c.wind_up_removal.ensures.winds c.wind_up_removal.ensures.tries)
