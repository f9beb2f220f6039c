-- The tree stays, and its count of faults doesn't fall.
use Rattle.std.proofs.Common.{◌≡◌, ◌≤◌, true}
use Rattle.mc_viewer.specs.Viewing.{is_output}
use Rattle.mc_viewer.proofs.lines.line_begin.Given as goal

abbrev pub invariant-loop-end : goal.invariant-loop-end
invariant-loop-end g l = record {
  same : g.T.ReadTree.contents l.tree ≡ g.T.ReadTree.contents l.fn.tree;
  apart : is_output l.subject ≡ true → l.tree ≡ l.fn.tree;
  later : g.T.ReadTree.fault_count l.fn.tree ≤ g.T.ReadTree.fault_count l.tree;
  before : l.end ≤ l.at;
}

abbrev pub decreases-loop-end : goal.decreases-loop-end
decreases-loop-end g l = l.end
