-- Each place is a row; the tree stays, and its count of faults doesn't fall.
use Rattle.std.proofs.Common.{◌≡◌, ◌≤◌, ◌<◌, ◌-◌, true}
use Rattle.mc_viewer.specs.Viewing.{IfHeld, is_output}
use Rattle.mc_viewer.specs.Rows.{IsRow}
use Rattle.mc_viewer.proofs.walking.walk.Given as goal

abbrev pub invariant-loop-end : goal.invariant-loop-end
invariant-loop-end g l = record {
  same : g.T.ReadTree.contents l.tree ≡ g.T.ReadTree.contents l.fn.tree;
  apart : is_output l.subject ≡ true → l.tree ≡ l.fn.tree;
  later : g.T.ReadTree.fault_count l.fn.tree ≤ g.T.ReadTree.fault_count l.tree;
  inside : l.row < l.size;
  before : l.row ≤ l.byte;
  here : IfHeld (g.T.ReadTree.contents l.fn.tree) l.subject l.size (λ bytes.
      IsRow l.layout.shape l.layout.columns bytes l.from → IsRow l.layout.shape l.layout.columns bytes l.row);
}

abbrev pub decreases-loop-end : goal.decreases-loop-end
decreases-loop-end g l = l.size - l.row
