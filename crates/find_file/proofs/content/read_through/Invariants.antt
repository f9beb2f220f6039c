-- The content stands among the first bytes just where it stands in what is kept and what is still to be read.
use Rattle.std.proofs.Common.{◌≡◌, ◌-◌, ◌<◌, ◌≤◌, ◌++◌, length, take, drop}
use Rattle.std.specs.Prelude.{Some, None}
use Rattle.tree_trait.specs.Calls.{ReadAt}
use Rattle.tree_trait.specs.FileSystem.{node}
use Rattle.tree_trait.specs.Change.{CallLog, current, found_node}
use Rattle.tree_trait.specs.Refusals.{refusal_of}
use Rattle.find_file.specs.FoundList.{holds}
use Rattle.find_file.proofs.content.read_through.Given as goal

abbrev pub invariant-loop-offset : goal.invariant-loop-offset
invariant-loop-offset g l = record {
  same : g.T.ReadTree.contents l.tree ≡ g.T.ReadTree.contents l.fn.tree;
  later : g.T.ReadTree.fault_count l.fn.tree ≤ g.T.ReadTree.fault_count l.tree;
  short : length l.kept.items < l.width;
  within : l.offset ≤ l.size;
  begun : (log : CallLog) → g.T.ReadTree.contents l.fn.tree ≡ Some log → 0 < l.offset → refusal_of (current log) (ReadAt l.path 0 0) ≡ None;
  left : (log : CallLog) → g.T.ReadTree.contents l.fn.tree ≡ Some log
      → holds l.finder (take l.size (node (current log) (found_node (current log) l.path)).bytes)
      ≡ holds l.finder (l.kept.items ++ drop l.offset (take l.size (node (current log) (found_node (current log) l.path)).bytes));
}

abbrev pub decreases-loop-offset : goal.decreases-loop-offset
decreases-loop-offset g l = l.size - l.offset
