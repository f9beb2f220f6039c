-- The bytes so far and what the row takes behind them are the row.
use Rattle.std.proofs.Common.{◌≡◌, ◌+◌, ◌-◌, ◌≤◌, length, drop}
use Rattle.mc_viewer.specs.Rows.{wrapped_length}
use Rattle.mc_viewer.proofs.rows.wrapped_length.Given as goal

abbrev pub invariant-loop-at : goal.invariant-loop-at
invariant-loop-at l = record {
  within : l.at ≤ length l.bytes;
  narrow : l.column ≤ l.columns + 8;
  row : l.at + wrapped_length l.columns l.column 0 (drop l.at l.bytes) ≡ wrapped_length l.columns 0 0 l.bytes;
}

abbrev pub decreases-loop-at : goal.decreases-loop-at
decreases-loop-at l = length l.bytes - l.at
