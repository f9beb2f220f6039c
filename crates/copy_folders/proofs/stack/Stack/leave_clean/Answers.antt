-- A folder more was left.
use Rattle.std.proofs.Common.{suc, rules}
use Rattle.copy_folders.proofs.stack.Stack.leave_clean.Goals as goal

pub loop-self-preserved : goal.loop-self-preserved
loop-self-preserved c =
    let before = c.loop-self.invariant in
    record { left = (suc before.left.0, (c.loop-self.self.levels, before.left.1, search rules, search rules)) }
