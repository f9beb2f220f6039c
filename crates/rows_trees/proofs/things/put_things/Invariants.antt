-- The tree was not called yet.
use Rattle.std.proofs.Common.{◌≡◌, []}
use Rattle.rows_trees.proofs.things.put_things.Given as goal

abbrev pub invariant-loop-line : goal.invariant-loop-line
invariant-loop-line g l = l.tree.log.changes ≡ []
