-- One folder more was left.
use Rattle.std.proofs.Common.{sym, ◌∙◌, subst}
use Rattle.copy_tree.specs.Standing.{seen_copy}
use Rattle.copy_tree.specs.TreeCopySteps.{IsWorkable}
use Rattle.copy_job.proofs.Left.{fewer_open, left_more}
use Rattle.copy_job.proofs.leaving.leave_settled.Goals as goal

pub loop-machine-preserved : goal.loop-machine-preserved
loop-machine-preserved c = record {
  leaves = left_more _ (seen_copy c.loop-machine.machine) (seen_copy c.leave.new.machine) c.loop-machine.invariant.leaves (sym c.may_leave.ensures ∙ c.loop-machine-test.true) c.leave.ensures.leaves;
  workable = subst IsWorkable (sym c.leave.ensures.free) c.loop-machine.invariant.workable;
}

pub loop-machine-smaller : goal.loop-machine-smaller
loop-machine-smaller c = fewer_open (seen_copy c.loop-machine.machine) (seen_copy c.leave.new.machine) c.leave.ensures.leaves
