-- What is left of the way leads there; each place is a row.
use Rattle.std.proofs.Common.{◌≡◌, ◌≤◌, ◌-◌, true}
use Rattle.mc_viewer.specs.Viewing.{IfHeld, is_output}
use Rattle.mc_viewer.specs.Rows.{all_rows, IsRow, rows_down}
use Rattle.mc_viewer.proofs.moves.rows_down.Given as goal

abbrev pub invariant-loop : goal.invariant-loop
invariant-loop g l = record {
  same : g.T.ReadTree.contents l.tree ≡ g.T.ReadTree.contents l.fn.tree;
  apart : is_output l.subject ≡ true → l.tree ≡ l.fn.tree;
  later : g.T.ReadTree.fault_count l.fn.tree ≤ g.T.ReadTree.fault_count l.tree;
  inside : l.row ≤ l.size - 1;
  here : IfHeld (g.T.ReadTree.contents l.fn.tree) l.subject l.size (λ bytes.
      IsRow l.layout.shape l.layout.columns bytes l.from → IsRow l.layout.shape l.layout.columns bytes l.row);
  way : IfHeld (g.T.ReadTree.contents l.fn.tree) l.subject l.size (λ bytes.
      IsRow l.layout.shape l.layout.columns bytes l.from
      → rows_down (l.count - l.counter) (all_rows l.layout.shape l.layout.columns bytes) l.row
      ≡ rows_down l.count (all_rows l.layout.shape l.layout.columns bytes) l.from);
}
