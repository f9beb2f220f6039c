-- The standings so far, before those of what is left; the tree is as it was.
use Rattle.std.proofs.Common.{◌≡◌, ◌≤◌, ◌++◌, map, length}
use Rattle.tree_trait.specs.declared.file_system.FileSystem.{FileSystem}
use Rattle.user_menu.specs.Facts.{IsAskedOf, AsksNoTree}
use Rattle.user_menu.specs.ShownEntries.{standing_of, EachTestIn}
use Rattle.user_menu.proofs.showing.standings_of.Given as goal

abbrev pub invariant-loop-entry : goal.invariant-loop-entry
invariant-loop-entry g l = record {
  same : g.T.ReadTree.contents l.tree ≡ g.T.ReadTree.contents l.fn.tree;
  later : g.T.ReadTree.fault_count l.fn.tree ≤ g.T.ReadTree.fault_count l.tree;
  unasked : EachTestIn AsksNoTree l.fn.menu → EachTestIn AsksNoTree l.entries × (l.tree ≡ l.fn.tree);
  told : (s : FileSystem) → EachTestIn (IsAskedOf (g.T.ReadTree.contents l.fn.tree) s) l.fn.menu
      → EachTestIn (IsAskedOf (g.T.ReadTree.contents l.fn.tree) s) l.entries;
  standings_are : (s : FileSystem) → EachTestIn (IsAskedOf (g.T.ReadTree.contents l.fn.tree) s) l.fn.menu
      → l.standings.items ++ map (standing_of s l.here l.other) l.entries ≡ map (standing_of s l.here l.other) l.fn.menu;
}

abbrev pub decreases-loop-entry : goal.decreases-loop-entry
decreases-loop-entry g l = length l.entries
