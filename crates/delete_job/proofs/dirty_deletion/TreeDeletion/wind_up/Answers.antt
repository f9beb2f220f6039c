-- A last step is one of the machine.
use Rattle.std.proofs.Common.{subst}
use Rattle.delete_job.specs.Deletions.{Deleting}
use Rattle.delete_job.specs.DeletionSteps.{LastDeletionStep}
use Rattle.delete_job.proofs.DeletionRuns.{last_made, seen}
use Rattle.delete_job.proofs.dirty_deletion.TreeDeletion.wind_up.Goals as goal

pub returns : goal.returns
returns g c =
    subst (λ (d : Deleting). LastDeletionStep c.args.ending d (seen c.self.inside.machine c.try_next.new.from) c.try_next.result.did c.try_next.result.calls c.try_next.result.left c.args.dirty.now c.try_next.new.dirty
    (g.T.ReadTree.contents c.args.tree.now) (g.T.ReadTree.contents c.try_next.new.tree) (g.T.ReadTree.fault_count c.args.tree.now) (g.T.ReadTree.fault_count c.try_next.new.tree)) c.self.view_is
    (last_made c.args.ending c.self.inside.machine c.self.inside.tried c.try_next.new.from c.self.invariant.0 _ _ _ _ _ _ _ _ _ c.try_next.ensures)
