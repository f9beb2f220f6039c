-- The copy may make its next step.
use Rattle.copy_job.specs.Standing.{IsGoing}
use Rattle.rows_subtrees.proofs.copying.has_ended.Given as goal

abbrev pub invariant-loop-made : goal.invariant-loop-made
invariant-loop-made g l = IsGoing l.copy
