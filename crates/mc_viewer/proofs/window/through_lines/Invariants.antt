-- What is sought from the beginning is what is sought from here; the tree stays, and its count of faults doesn't fall.
use Rattle.std.proofs.Common.{◌≡◌, ◌≤◌, ◌-◌, drop, true}
use Rattle.text_search.specs.Lines.{in_lines}
use Rattle.mc_viewer.specs.Viewing.{IfShorter, is_output}
use Rattle.mc_viewer.proofs.window.through_lines.Given as goal

abbrev pub invariant-loop-at : goal.invariant-loop-at
invariant-loop-at g l = record {
  same : g.T.ReadTree.contents l.tree ≡ g.T.ReadTree.contents l.fn.tree;
  apart : is_output l.subject ≡ true → l.tree ≡ l.fn.tree;
  later : g.T.ReadTree.fault_count l.fn.tree ≤ g.T.ReadTree.fault_count l.tree;
  keeps : l.matcher ≡ l.fn.matcher;
  left : IfShorter (g.T.ReadTree.contents l.fn.tree) l.subject l.size (λ bytes.
      in_lines l.fn.matcher l.at 0 (drop l.at bytes) ≡ in_lines l.fn.matcher l.from 0 (drop l.from bytes));
}

abbrev pub decreases-loop-at : goal.decreases-loop-at
decreases-loop-at g l = l.size - l.at
