-- The paths so far.
use Rattle.std.proofs.Common.{◌≡◌, map, take}
use Rattle.op_plan.proofs.meeting.sorted.Given as goal

abbrev pub invariant-loop-path : goal.invariant-loop-path
invariant-loop-path l = map (λ path. path.now) l.sorted.items ≡ take l.path-index l.paths
