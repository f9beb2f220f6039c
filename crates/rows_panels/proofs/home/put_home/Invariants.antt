-- The tree was not called yet.
use Rattle.std.proofs.Common.{◌≡◌, []}
use Rattle.rows_panels.proofs.home.put_home.Given as goal

abbrev pub invariant-loop-place : goal.invariant-loop-place
invariant-loop-place l = l.tree.log.changes ≡ []
