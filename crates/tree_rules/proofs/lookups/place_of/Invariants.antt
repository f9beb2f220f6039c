use Rattle.std.proofs.Common.{◌≡◌, drop}
use Rattle.std.specs.List.{list_any}
use Rattle.tree_trait.specs.FileSystem.{is_of}
use Rattle.tree_rules.proofs.lookups.place_of.Given as goal

abbrev pub invariant-loop-k : goal.invariant-loop-k
invariant-loop-k l = list_any (is_of l.folder l.name) l.names ≡ list_any (is_of l.folder l.name) (drop l.k l.names)
