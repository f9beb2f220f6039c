-- Some folders were left; fewer are open with each.
use Rattle.std.proofs.Common.{length}
use Rattle.copy_tree.specs.Standing.{seen_copy}
use Rattle.copy_tree.specs.TreeCopySteps.{IsWorkable}
use Rattle.copy_job.specs.Leaving.{LeavesSettled}
use Rattle.copy_job.proofs.leaving.leave_settled.Given as goal

abbrev pub invariant-loop-machine : goal.invariant-loop-machine
invariant-loop-machine l = record {
  leaves : LeavesSettled (seen_copy l.fn.machine) (seen_copy l.machine);
  workable : IsWorkable l.machine.item;
}

abbrev pub decreases-loop-machine : goal.decreases-loop-machine
decreases-loop-machine l = length l.machine.stack.levels.around
