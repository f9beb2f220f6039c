use Rattle.std.proofs.Common.{◌≡◌, drop}
use Rattle.tree_trait.specs.FileSystem.{lookup}
use Rattle.tree_rules.proofs.lookups.lookup.Given as goal

abbrev pub invariant-loop-e : goal.invariant-loop-e
invariant-loop-e l = lookup l.names l.folder l.name ≡ lookup (drop l.e-index l.names) l.folder l.name
