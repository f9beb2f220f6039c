-- What is left of the way leads there.
use Rattle.std.proofs.Common.{◌≡◌, ◌≤◌, ◌-◌, true}
use Rattle.mc_viewer.specs.Viewing.{IfHeld, is_output}
use Rattle.mc_viewer.specs.Rows.{all_rows, rows_up}
use Rattle.mc_viewer.specs.Windows.{IsKept}
use Rattle.mc_viewer.proofs.moves.rows_up.Given as goal

abbrev pub invariant-loop : goal.invariant-loop
invariant-loop g l = record {
  same : g.T.ReadTree.contents l.tree ≡ g.T.ReadTree.contents l.fn.tree;
  apart : is_output l.subject ≡ true → l.tree ≡ l.fn.tree;
  later : g.T.ReadTree.fault_count l.fn.tree ≤ g.T.ReadTree.fault_count l.tree;
  kept : IsKept (g.T.ReadTree.contents l.tree) l.subject l.near.start l.near.bytes.items;
  way : IfHeld (g.T.ReadTree.contents l.fn.tree) l.subject l.size (λ bytes.
      rows_up (l.count - l.counter) (all_rows l.layout.shape l.layout.columns bytes) l.row
      ≡ rows_up l.count (all_rows l.layout.shape l.layout.columns bytes) l.from);
}
