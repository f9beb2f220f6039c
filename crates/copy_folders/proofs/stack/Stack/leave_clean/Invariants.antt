-- Folders that are not dirty were left; fewer are open with each.
use Rattle.std.proofs.Common.{ℕ, length}
use Rattle.copy_folders.specs.Levels.{LeftAll}
use Rattle.copy_folders.proofs.stack.Stack.leave_clean.Given as goal

abbrev pub invariant-loop-self : goal.invariant-loop-self
invariant-loop-self l = record {
  left : (n : ℕ) × LeftAll n l.fn.self.levels l.self.levels;
}

abbrev pub decreases-loop-self : goal.decreases-loop-self
decreases-loop-self l = length l.self.levels.around
