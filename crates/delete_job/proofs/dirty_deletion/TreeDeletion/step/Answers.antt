-- A step is one of the machine, which stays in the thing, and passes over what is in a trouble of a kind that is skipped.
use Rattle.std.proofs.Common.{sym, subst}
use Rattle.delete_job.specs.Deletions.{Deleting}
use Rattle.delete_job.specs.DeletionSteps.{DeletionStep}
use Rattle.delete_job.proofs.DeletionRuns.{seen, step_syncs, then_inside, works_or_passes}
use Rattle.delete_job.proofs.dirty_deletion.TreeDeletion.step.Goals as goal

pub invariant_of-self : goal.invariant_of-self
invariant_of-self g c =
    then_inside c.self.inside.machine c.work-worked.new.self c.or_passed_over.new.machine c.self.inside.tried c.args.replies c.self.invariant.0 c.self.invariant.1 (sym c.if-is_at_barrier.ensures) _ _ _ _ _ _ _ _ c.work-worked.ensures
    c.or_passed_over.result c.or_passed_over.ensures

pub returns-then-is_at_barrier : goal.returns-then-is_at_barrier
returns-then-is_at_barrier g c =
    subst (λ (d : Deleting). DeletionStep c.args.replies d d c.sync.result.did c.sync.result.calls c.args.dirty.now c.sync.new.dirty (g.T.ReadTree.contents c.args.tree.now) (g.T.ReadTree.contents c.sync.new.tree) (g.T.ReadTree.fault_count c.args.tree.now) (g.T.ReadTree.fault_count c.sync.new.tree)) c.self.view_is
    (step_syncs c.self.inside.machine c.self.inside.tried c.args.replies c.self.invariant.0 (sym c.if-is_at_barrier.ensures) _ _ _ _ _ _ _ _ c.sync.ensures)

pub returns-else-is_at_barrier : goal.returns-else-is_at_barrier
returns-else-is_at_barrier g c =
    subst (λ (d : Deleting). DeletionStep c.args.replies d (seen c.or_passed_over.new.machine c.self.inside.tried) c.or_passed_over.result.did c.or_passed_over.result.calls c.args.dirty.now c.work-worked.new.dirty (g.T.ReadTree.contents c.args.tree.now) (g.T.ReadTree.contents c.work-worked.new.tree)
    (g.T.ReadTree.fault_count c.args.tree.now) (g.T.ReadTree.fault_count c.work-worked.new.tree)) c.self.view_is
    (works_or_passes c.self.inside.machine c.work-worked.new.self c.or_passed_over.new.machine c.self.inside.tried c.args.replies c.self.invariant.0 c.self.invariant.1 (sym c.if-is_at_barrier.ensures) _ _ _ _ _ _ _ _ c.work-worked.ensures
    c.or_passed_over.result c.or_passed_over.ensures)
