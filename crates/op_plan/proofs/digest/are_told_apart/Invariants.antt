-- The numbers of the names so far.
use Rattle.std.proofs.Common.{◌≡◌, map, take}
use Rattle.op_plan.specs.Digests.{digest}
use Rattle.op_plan.proofs.digest.are_told_apart.Given as goal

abbrev pub invariant-loop-name : goal.invariant-loop-name
invariant-loop-name l = l.digests.items ≡ map digest (take l.name-index l.names)
