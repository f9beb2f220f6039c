-- No call was made yet.
use Rattle.std.proofs.Common.{◌≡◌, []}
use Rattle.rows_files.proofs.save_scene.take_names.Given as goal

abbrev pub invariant-loop-number : goal.invariant-loop-number
invariant-loop-number l = l.tree.log.changes ≡ []
