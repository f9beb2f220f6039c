-- all were looked at
use Rattle.std.proofs.Common.{arith}
use Rattle.op_plan.proofs.Sorted.{rising-apart}
use Rattle.op_plan.proofs.meeting.rise_apart.Goals as goal

pub returns : goal.returns
returns c = rising-apart c.args.paths.now (λ k d below. c.loop-i.invariant k d (omega (arith, below, c.loop-i-test.false)))
