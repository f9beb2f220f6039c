-- What is sought from the beginning is what is sought from here; the tree stays, and its count of faults doesn't fall.
use Rattle.std.proofs.Common.{◌≡◌, ◌≤◌, ◌-◌, drop, true}
use Rattle.mc_viewer.specs.Viewing.{IfShorter, is_output}
use Rattle.mc_viewer.specs.Searches.{text_sought}
use Rattle.mc_viewer.proofs.window.through_pieces.Given as goal

abbrev pub invariant-loop-at : goal.invariant-loop-at
invariant-loop-at g l = record {
  same : g.T.ReadTree.contents l.tree ≡ g.T.ReadTree.contents l.fn.tree;
  apart : is_output l.subject ≡ true → l.tree ≡ l.fn.tree;
  later : g.T.ReadTree.fault_count l.fn.tree ≤ g.T.ReadTree.fault_count l.tree;
  left : IfShorter (g.T.ReadTree.contents l.fn.tree) l.subject l.size (λ bytes.
      text_sought l.finder l.at (drop l.at bytes) ≡ text_sought l.finder l.from (drop l.from bytes));
}

abbrev pub decreases-loop-at : goal.decreases-loop-at
decreases-loop-at g l = l.size - l.at
