use Rattle.std.proofs.Common.{◌≡◌, drop}
use Rattle.tree_trait.specs.Refusals.{holder_in}
use Rattle.tree_rules.proofs.lookups.holder_of.Given as goal

abbrev pub invariant-loop-e : goal.invariant-loop-e
invariant-loop-e l = holder_in l.names l.names l.i ≡ holder_in l.names (drop l.e-index l.names) l.i
