-- Folders were left, and nothing was changed; fewer are open with each.
use Rattle.std.proofs.Common.{◌≡◌, ◌≤◌, ℕ, length}
use Rattle.copy_tree.specs.Standing.{seen_copy}
use Rattle.copy_tree.specs.TreeCopySteps.{IsWorkable, LeavesAll}
use Rattle.copy_tree.proofs.copy.TreeCopy.step.Given as goal

abbrev pub invariant-loop-stepped : goal.invariant-loop-stepped
invariant-loop-stepped g l = record {
  leaves : (n : ℕ) × LeavesAll n (seen_copy l.fn.self) (seen_copy l.self);
  workable : IsWorkable l.self.item;
  same : g.T.ReadTree.contents l.tree ≡ g.T.ReadTree.contents l.fn.tree;
  later : g.T.ReadTree.fault_count l.fn.tree ≤ g.T.ReadTree.fault_count l.tree;
}

abbrev pub decreases-loop-stepped : goal.decreases-loop-stepped
decreases-loop-stepped g l = length l.self.stack.levels.around
