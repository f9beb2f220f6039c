-- Steps that tell nothing leave all that is to be told, and fewer steps.
use Rattle.std.proofs.Common.{◌≡◌, ◌≤◌}
use Rattle.std.specs.Prelude.{Some}
use Rattle.tree_trait.specs.Change.{CallLog, current}
use Rattle.find_file.specs.Walks.{left_in, rank}
use Rattle.find_file.specs.Telling.{IsOver, Leads}
use Rattle.find_file.proofs.finder.Finder.next.Given as goal

abbrev pub invariant-loop-found : goal.invariant-loop-found
invariant-loop-found g l = record {
  same : g.T.ReadTree.contents l.tree ≡ g.T.ReadTree.contents l.fn.tree;
  later : g.T.ReadTree.fault_count l.fn.tree ≤ g.T.ReadTree.fault_count l.tree;
  over : IsOver l.fn.self.walk → IsOver l.self.walk;
  apart : IsOver l.fn.self.walk → l.tree ≡ l.fn.tree;
  search : l.self.search ≡ l.fn.self.search;
  left : (log : CallLog) → g.T.ReadTree.contents l.fn.tree ≡ Some log
      → Leads (left_in (current log) l.fn.self.search l.fn.self.walk) (left_in (current log) l.fn.self.search l.self.walk);
}

abbrev pub decreases-loop-found : goal.decreases-loop-found
decreases-loop-found g l = rank l.self.walk
