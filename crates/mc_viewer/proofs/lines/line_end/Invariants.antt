-- What is passed and what is left of the line are the line; the tree stays, and its count of faults doesn't fall.
use Rattle.std.proofs.Common.{◌≡◌, ◌≤◌, ◌+◌, ◌-◌, drop, true}
use Rattle.mc_viewer.specs.Viewing.{IfHeld, is_output}
use Rattle.mc_viewer.specs.Rows.{line_length}
use Rattle.mc_viewer.proofs.lines.line_end.Given as goal

abbrev pub invariant-loop-end : goal.invariant-loop-end
invariant-loop-end g l = record {
  same : g.T.ReadTree.contents l.tree ≡ g.T.ReadTree.contents l.fn.tree;
  apart : is_output l.subject ≡ true → l.tree ≡ l.fn.tree;
  later : g.T.ReadTree.fault_count l.fn.tree ≤ g.T.ReadTree.fault_count l.tree;
  from : l.at ≤ l.end;
  within : l.end ≤ l.size;
  line : IfHeld (g.T.ReadTree.contents l.fn.tree) l.subject l.size (λ bytes. l.end + line_length (drop l.end bytes) ≡ l.at + line_length (drop l.at bytes));
}

abbrev pub decreases-loop-end : goal.decreases-loop-end
decreases-loop-end g l = l.size - l.end
