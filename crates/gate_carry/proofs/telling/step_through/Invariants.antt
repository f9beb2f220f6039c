-- No part is left over that could not be removed, so the carrying may make its next step.
use Rattle.std.proofs.Common.{◌≡◌, None}
use Rattle.carry_job.specs.Carryings.{left_at}
use Rattle.gate_carry.proofs.telling.step_through.Given as goal

abbrev pub invariant-loop : goal.invariant-loop
invariant-loop g l = left_at l.carrying.stage ≡ None
