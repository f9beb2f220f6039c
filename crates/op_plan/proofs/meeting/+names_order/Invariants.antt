use Rattle.std.proofs.Common.{length}
use Rattle.op_plan.proofs.meeting.+names_order.Given as goal

abbrev pub decreases-names_order : goal.decreases-names_order
decreases-names_order l = length l.mine.now
