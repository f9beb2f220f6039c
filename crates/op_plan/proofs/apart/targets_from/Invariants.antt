-- The targets so far.
use Rattle.std.proofs.Common.{◌≡◌, take}
use Rattle.op_plan.specs.Checks.{targets_from}
use Rattle.op_plan.proofs.apart.targets_from.Given as goal

abbrev pub invariant-loop-pair : goal.invariant-loop-pair
invariant-loop-pair l = l.targets.items ≡ targets_from (take l.pair-index l.pairs)
