-- The tree was not called yet.
use Rattle.std.proofs.Common.{◌≡◌, []}
use Rattle.rows_panels.proofs.folders.put_files.Given as goal

abbrev pub invariant-loop-place : goal.invariant-loop-place
invariant-loop-place l = l.tree.log.changes ≡ []
