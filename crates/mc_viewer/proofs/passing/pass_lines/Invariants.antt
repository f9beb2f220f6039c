-- What is left of the lines leads from the place that was reached to where all of them lead.
use Rattle.std.proofs.Common.{◌≡◌, ℕ, List, ◌+◌, ◌≤◌, length, take, drop}
use Rattle.mc_viewer.specs.Rows.{line_behind}
use Rattle.mc_viewer.proofs.passing.pass_lines.Given as goal

abbrev pub invariant-loop-left : goal.invariant-loop-left
invariant-loop-left l = record {
  within : l.at ≤ length l.piece;
  passed : l.lines ≤ l.left + l.at;
  way : (bytes : List ℕ) (count at : ℕ) → l.piece ≡ take count (drop at bytes)
      → line_behind l.lines bytes at ≡ line_behind l.left bytes (at + l.at);
}

abbrev pub decreases-loop-left : goal.decreases-loop-left
decreases-loop-left l = l.left
