-- What is left of the lines leads there.
use Rattle.std.proofs.Common.{◌≡◌, ◌≤◌, ◌-◌, true}
use Rattle.mc_viewer.specs.Viewing.{IfHeld, is_output}
use Rattle.mc_viewer.specs.Rows.{line_behind}
use Rattle.mc_viewer.proofs.lines.line_behind.Given as goal

abbrev pub invariant-loop-start : goal.invariant-loop-start
invariant-loop-start g l = record {
  same : g.T.ReadTree.contents l.tree ≡ g.T.ReadTree.contents l.fn.tree;
  apart : is_output l.subject ≡ true → l.tree ≡ l.fn.tree;
  later : g.T.ReadTree.fault_count l.fn.tree ≤ g.T.ReadTree.fault_count l.tree;
  within : l.start ≤ l.size;
  way : IfHeld (g.T.ReadTree.contents l.fn.tree) l.subject l.size (λ bytes.
      line_behind l.left bytes l.start ≡ line_behind l.lines bytes 0);
}

abbrev pub decreases-loop-start : goal.decreases-loop-start
decreases-loop-start g l = l.size - l.start
