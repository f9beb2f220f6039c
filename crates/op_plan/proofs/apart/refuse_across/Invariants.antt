-- No source so far meets a target.
use Rattle.std.proofs.Common.{◌≡◌, drop}
use Rattle.op_plan.specs.Meeting.{meet, first_across}
use Rattle.op_plan.specs.Checks.{sources_in, targets_from}
use Rattle.op_plan.proofs.apart.refuse_across.Given as goal

abbrev pub invariant-loop-pair : goal.invariant-loop-pair
invariant-loop-pair l =
    first_across meet (sources_in (drop l.pair-index l.pairs)) (targets_from l.pairs) ≡ first_across meet (sources_in l.pairs) (targets_from l.pairs)
