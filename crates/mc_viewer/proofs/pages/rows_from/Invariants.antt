-- The rows so far, and those that are left, are all rows.
use Rattle.std.proofs.Common.{◌≡◌, ◌≤◌, ◌-◌, ◌++◌, map, take, drop, true}
use Rattle.mc_viewer.specs.Viewing.{IfHeld, is_output}
use Rattle.mc_viewer.specs.Rows.{row_starts}
use Rattle.mc_viewer.specs.Pages.{shown_row}
use Rattle.mc_viewer.specs.Windows.{IsKept}
use Rattle.mc_viewer.proofs.pages.rows_from.Given as goal

abbrev pub invariant-loop-row : goal.invariant-loop-row
invariant-loop-row g l = record {
  same : g.T.ReadTree.contents l.tree ≡ g.T.ReadTree.contents l.fn.tree;
  apart : is_output l.subject ≡ true → l.tree ≡ l.fn.tree;
  later : g.T.ReadTree.fault_count l.fn.tree ≤ g.T.ReadTree.fault_count l.tree;
  kept : IsKept (g.T.ReadTree.contents l.tree) l.subject l.near.start l.near.bytes.items;
  all : IfHeld (g.T.ReadTree.contents l.fn.tree) l.subject l.size (λ bytes.
      l.rows ++ map (shown_row l.layout bytes) (take l.left (row_starts l.layout.shape l.layout.columns l.row 0 (drop l.row bytes)))
      ≡ map (shown_row l.layout bytes) (take l.count (row_starts l.layout.shape l.layout.columns l.first 0 (drop l.first bytes))));
}

abbrev pub decreases-loop-row : goal.decreases-loop-row
decreases-loop-row g l = l.size - l.row
