-- Folders are left, the machine makes its step, and what it is in trouble with may be passed over.
use Rattle.std.proofs.Common.{refl, subst}
use Rattle.copy_tree.specs.InPlace.{IsInPlace}
use Rattle.copy_tree.specs.Standing.{seen_copy}
use Rattle.copy_job.specs.Passing.{OrPassedOver}
use Rattle.copy_job.specs.Standing.{SubtreeCopying}
use Rattle.copy_job.specs.SubtreeSteps.{SubtreeSteps}
use Rattle.copy_job.proofs.Held.{left_held, passed_held, worked_held}
use Rattle.copy_job.specs.Reporting.{ChangesOwn}
use Rattle.copy_job.proofs.Reportings.{list_own}
use Rattle.copy_job.proofs.Syncs.{passed_barrier}
use Rattle.copy_job.proofs.copy.SubtreeCopy.step.Goals as goal

pub invariant_of-self : goal.invariant_of-self
invariant_of-self g c =
    let top = c.self.inside.top in
    let folder = c.self.inside.folder in
    let left = left_held top folder (seen_copy c.self.inside.machine) (seen_copy c.leave_settled.new.machine) c.self.invariant c.leave_settled.ensures.leaves c.leave_settled.ensures.workable in
    let worked = worked_held top folder (g.P.PartTest.is_free c.args.parts.now) c.args.replies (seen_copy c.leave_settled.new.machine) (seen_copy c.work-worked.new.machine) c.work-worked.result _ _ _ _ _ _ c.work-worked.ensures.works left c.work-worked.ensures.workable in
    passed_held top folder c.skips.result c.work-worked.result (seen_copy c.work-worked.new.machine) (seen_copy c.or_passed_over.new.machine) c.or_passed_over.result c.or_passed_over.ensures.passes worked c.or_passed_over.ensures.workable

pub returns-clause-steps : goal.returns-clause-steps
returns-clause-steps g c =
    subst (λ (d : SubtreeCopying). SubtreeSteps (g.P.PartTest.is_free c.args.parts.now) c.args.replies d (record { top = c.self.inside.top; at = seen_copy c.or_passed_over.new.machine }) c.or_passed_over.result.did
    c.or_passed_over.result.calls c.args.dirty.now c.work-worked.new.dirty (g.T.ReadTree.contents c.args.tree.now) (g.T.ReadTree.contents c.work-worked.new.tree) (g.T.ReadTree.fault_count c.args.tree.now) (g.T.ReadTree.fault_count c.work-worked.new.tree)) c.self.view_is record {
      mid = seen_copy c.leave_settled.new.machine;
      leaves = c.leave_settled.ensures.leaves;
      settled = c.leave_settled.ensures.settled;
      worked = c.work-worked.result;
      moved = seen_copy c.work-worked.new.machine;
      works = c.work-worked.ensures.works;
      going = c.work-worked.ensures.workable;
      passes = subst (λ skips. OrPassedOver skips c.work-worked.result (seen_copy c.work-worked.new.machine) (seen_copy c.or_passed_over.new.machine) c.or_passed_over.result) c.skips.ensures c.or_passed_over.ensures.passes;
      stands = refl;
    }

pub returns-clause-in_place : goal.returns-clause-in_place
returns-clause-in_place g c = subst (λ (d : SubtreeCopying). IsInPlace d.top d.at) c.self.view_is (let held = c.self.invariant in held.in_place)

pub returns-clause-own : goal.returns-clause-own
returns-clause-own g c =
    let held = left_held c.self.inside.top c.self.inside.folder (seen_copy c.self.inside.machine) (seen_copy c.leave_settled.new.machine) c.self.invariant c.leave_settled.ensures.leaves c.leave_settled.ensures.workable in
    subst (λ (d : SubtreeCopying). ChangesOwn d c.or_passed_over.result.did c.args.dirty.now c.work-worked.new.dirty) c.self.view_is
    (list_own (g.P.PartTest.is_free c.args.parts.now) c.args.replies (record { top = c.self.inside.top; at = seen_copy c.self.inside.machine }) (seen_copy c.leave_settled.new.machine) (seen_copy c.work-worked.new.machine) c.work-worked.result
    c.or_passed_over.result.did _ _ _ _ _ _ c.work-worked.ensures.works held.in_place c.leave_settled.ensures.settled
    (passed_barrier c.skips.result c.work-worked.result (seen_copy c.work-worked.new.machine) (seen_copy c.or_passed_over.new.machine) c.or_passed_over.result c.or_passed_over.ensures.passes))
