-- The pairs that were yielded so far.
use Rattle.std.proofs.Common.{◌≡◌, map}
use Rattle.op_plan.specs.Checks.{pair}
use Rattle.op_plan.proofs.apart.paired.Given as goal

abbrev pub invariant-loop-source : goal.invariant-loop-source
invariant-loop-source l = l.pairs.items ≡ map (λ p. pair p.0 p.1) l.yielded
