-- And a skip.
use Rattle.std.proofs.Common.{◌≡◌, false, subst}
use Rattle.copy_move.specs.Jobs.{IsGoing, at_barrier}
use Rattle.copy_move.proofs.FolderSteps.{deletion_skips}
use Rattle.copy_move.proofs.MakingWorks.{making_skips}
use Rattle.copy_move.proofs.ModeSteps.{setting_skips}
use Rattle.copy_move.proofs.MovingWorks.{moving_skips}
use Rattle.copy_move.proofs.RemovalWorks.{removal_skips}
use Rattle.copy_move.proofs.TreeSteps.{tree_skipped, tree_skips}
use Rattle.copy_move.proofs.work.Work.skip.Goals as goal

pub returns-in-Copy-clause-skips : goal.returns-in-Copy-clause-skips
returns-in-Copy-clause-skips c =
    rw c.in-Copy.is (tree_skips c.args.cause _ _ _ c.skip.ensures.skips (subst IsGoing c.in-Copy.is c.requires.going) (subst (λ w. at_barrier w ≡ false) c.in-Copy.is c.requires.apart))

pub returns-in-Copy-clause-going : goal.returns-in-Copy-clause-going
returns-in-Copy-clause-going c = tree_skipped c.args.cause _ _ _ c.skip.ensures.skips (subst IsGoing c.in-Copy.is c.requires.going) c.skip.ensures.going

pub returns-in-Delete-clause-skips : goal.returns-in-Delete-clause-skips
returns-in-Delete-clause-skips c = rw c.in-Delete.is (deletion_skips c.args.cause _ _ _ c.skip-in-Delete.ensures (subst (λ w. at_barrier w ≡ false) c.in-Delete.is c.requires.apart))

pub returns-in-Make-clause-skips : goal.returns-in-Make-clause-skips
returns-in-Make-clause-skips c = rw c.in-Make.is (making_skips c.args.cause _ _ _ c.skip-in-Make.ensures (subst (λ w. at_barrier w ≡ false) c.in-Make.is c.requires.apart))

pub returns-in-SetMode-clause-skips : goal.returns-in-SetMode-clause-skips
returns-in-SetMode-clause-skips c = rw c.in-SetMode.is (setting_skips c.args.cause _ _ _ c.skip-in-SetMode.ensures (subst (λ w. at_barrier w ≡ false) c.in-SetMode.is c.requires.apart))

pub returns-in-Move-clause-skips : goal.returns-in-Move-clause-skips
returns-in-Move-clause-skips c = rw c.in-Move.is (moving_skips c.args.cause _ _ _ c.skip-in-Move.ensures (subst (λ w. at_barrier w ≡ false) c.in-Move.is c.requires.apart))

pub returns-in-RemoveEmptied-clause-skips : goal.returns-in-RemoveEmptied-clause-skips
returns-in-RemoveEmptied-clause-skips c =
    rw c.in-RemoveEmptied.is (removal_skips c.args.cause _ _ _ c.skip-in-RemoveEmptied.ensures (subst (λ w. at_barrier w ≡ false) c.in-RemoveEmptied.is c.requires.apart))
