-- A step of the work is that of its machine.
use Rattle.std.proofs.Common.{◌≡◌, true, subst}
use Rattle.copy_move.specs.Jobs.{IsGoing}
use Rattle.copy_move.proofs.FolderSteps.{deletion_steps}
use Rattle.copy_move.proofs.MakingWorks.{making_steps}
use Rattle.copy_move.proofs.ModeSteps.{setting_steps}
use Rattle.copy_move.proofs.MovingWorks.{moving_steps}
use Rattle.copy_move.proofs.RemovalWorks.{removal_steps}
use Rattle.copy_move.proofs.TreeSteps.{tree_goes_on, tree_steps}
use Rattle.copy_move.proofs.work.Work.step.Goals as goal

pub returns-in-Delete-clause-steps : goal.returns-in-Delete-clause-steps
returns-in-Delete-clause-steps g c = rw c.in-Delete.is (deletion_steps (λ path. g.P.PartTest.is_free c.args.parts.now path ≡ true) c.args.replies _ _ _ _ _ _ _ _ _ _ c.step-in-Delete.ensures)

pub returns-in-Copy-clause-steps : goal.returns-in-Copy-clause-steps
returns-in-Copy-clause-steps g c =
    rw c.in-Copy.is (tree_steps (g.P.PartTest.is_free c.args.parts.now) c.args.replies _ _ _ _ _ _ _ _ _ _ c.step.ensures.steps (subst IsGoing c.in-Copy.is c.requires.going)
    (λ path. g.P.PartTest.is_free c.args.parts.now path ≡ true) (λ path free. free) c.step.ensures.in_place c.step.ensures.own)

pub returns-in-Copy-clause-going : goal.returns-in-Copy-clause-going
returns-in-Copy-clause-going g c =
    tree_goes_on (g.P.PartTest.is_free c.args.parts.now) c.args.replies _ _ _ _ _ _ _ _ _ _ c.step.ensures.steps (subst IsGoing c.in-Copy.is c.requires.going) c.step.ensures.going

pub returns-in-Make-clause-steps : goal.returns-in-Make-clause-steps
returns-in-Make-clause-steps g c =
    rw c.in-Make.is (making_steps (λ path. g.P.PartTest.is_free c.args.parts.now path ≡ true) c.args.replies _ _ _ _ _ _ _ _ _ _ c.step_making.ensures.steps c.step_making.ensures.leaves)

pub returns-in-SetMode-clause-steps : goal.returns-in-SetMode-clause-steps
returns-in-SetMode-clause-steps g c =
    rw c.in-SetMode.is (setting_steps (λ path. g.P.PartTest.is_free c.args.parts.now path ≡ true) c.args.replies _ _ _ _ _ _ _ _ _ _ c.step_setting.ensures.steps c.step_setting.ensures.leaves)

pub returns-in-Move-clause-steps : goal.returns-in-Move-clause-steps
returns-in-Move-clause-steps g c =
    rw c.in-Move.is (moving_steps (λ path. g.P.PartTest.is_free c.args.parts.now path ≡ true) c.args.replies _ _ _ _ _ _ _ _ _ _ c.step_moving.ensures.steps c.step_moving.ensures.leaves)

pub returns-in-RemoveEmptied-clause-steps : goal.returns-in-RemoveEmptied-clause-steps
returns-in-RemoveEmptied-clause-steps g c =
    rw c.in-RemoveEmptied.is (removal_steps (λ path. g.P.PartTest.is_free c.args.parts.now path ≡ true) c.args.replies _ _ _ _ _ _ _ _ _ _ c.step_removal.ensures.steps c.step_removal.ensures.leaves)
