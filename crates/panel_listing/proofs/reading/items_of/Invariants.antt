-- The items so far, behind those of the names that are left; the tree is as it was, and so is its count of faults.
use Rattle.std.proofs.Common.{◌≡◌, ◌++◌, Some, map, reverse, length}
use Rattle.tree_trait.specs.Change.{CallLog, current}
use Rattle.panel_listing.specs.Items.{child_item}
use Rattle.panel_listing.specs.Arranging.{names_of}
use Rattle.panel_listing.proofs.reading.items_of.Given as goal

abbrev pub invariant-loop-name : goal.invariant-loop-name
invariant-loop-name g l = record {
  same : g.T.ReadTree.contents l.tree ≡ g.T.ReadTree.contents l.fn.tree;
  counts : g.T.ReadTree.fault_count l.tree ≡ g.T.ReadTree.fault_count l.fn.tree;
  items_are : (log : CallLog) → g.T.ReadTree.contents l.fn.tree ≡ Some log
      → map (child_item (current log) l.folder) l.names.items ++ reverse l.items.items ≡ map (child_item (current log) l.folder) l.fn.names.items;
  names_are : l.names.items ++ names_of (reverse l.items.items) ≡ l.fn.names.items;
}

abbrev pub decreases-loop-name : goal.decreases-loop-name
decreases-loop-name g l = length l.names.items
