-- No part is left over that could not be removed, so the save may make its next step.
use Rattle.std.proofs.Common.{◌≡◌, None}
use Rattle.copy_file.specs.LastSteps.{left_at}
use Rattle.rows_files.proofs.save_telling.step_through.Given as goal

abbrev pub invariant-loop : goal.invariant-loop
invariant-loop g l = left_at l.save.copy.stage ≡ None
