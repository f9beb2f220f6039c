-- The values so far, before those of what is left; the tree is as it was.
use Rattle.std.proofs.Common.{◌≡◌, ◌≤◌, ◌++◌, map, length}
use Rattle.tree_trait.specs.declared.file_system.FileSystem.{FileSystem}
use Rattle.user_menu.specs.Facts.{IsAskedOf, AsksNoTree}
use Rattle.user_menu.specs.Holding.{value_of, EachTest}
use Rattle.user_menu.proofs.holding.holds.Given as goal

abbrev pub invariant-loop-first : goal.invariant-loop-first
invariant-loop-first g l = record {
  same : g.T.ReadTree.contents l.tree ≡ g.T.ReadTree.contents l.fn.tree;
  later : g.T.ReadTree.fault_count l.fn.tree ≤ g.T.ReadTree.fault_count l.tree;
  unasked : EachTest AsksNoTree l.fn.condition → EachTest AsksNoTree l.terms × (l.tree ≡ l.fn.tree);
  told : (s : FileSystem) → EachTest (IsAskedOf (g.T.ReadTree.contents l.fn.tree) s) l.fn.condition
      → EachTest (IsAskedOf (g.T.ReadTree.contents l.fn.tree) s) l.terms;
  values_are : (s : FileSystem) → EachTest (IsAskedOf (g.T.ReadTree.contents l.fn.tree) s) l.fn.condition
      → l.values.items ++ map (value_of s l.here l.other) l.terms ≡ map (value_of s l.here l.other) l.fn.condition;
}

abbrev pub decreases-loop-first : goal.decreases-loop-first
decreases-loop-first g l = length l.terms
