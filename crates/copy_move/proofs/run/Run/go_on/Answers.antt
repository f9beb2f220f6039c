-- Before the first change, and after it.
use Rattle.std.proofs.Common.{inl}
use Rattle.copy_move.proofs.run.Run.go_on.Goals as goal

pub returns-else-is_fresh : goal.returns-else-is_fresh
returns-else-is_fresh g c = record { steps = inl c.work_on.ensures.steps }
