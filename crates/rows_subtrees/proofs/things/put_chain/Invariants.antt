-- The tree was not called yet.
use Rattle.std.proofs.Common.{◌≡◌, []}
use Rattle.rows_subtrees.proofs.things.put_chain.Given as goal

abbrev pub invariant-loop : goal.invariant-loop
invariant-loop l = l.tree.log.changes ≡ []
