-- What is drawn and what is left are what is in sight.
use Rattle.std.proofs.Common.{◌≡◌, ◌-◌, ◌*◌, ◌≤◌, ◌++◌, length, drop, string_bytes}
use Rattle.mc_viewer.specs.Pages.{line_in_sight}
use Rattle.mc_viewer.proofs.text.line_in_sight.Given as goal

abbrev pub invariant-loop-at : goal.invariant-loop-at
invariant-loop-at l = record {
  within : l.at ≤ length l.bytes;
  narrow : l.column ≤ 8 * l.at;
  seen : string_bytes l.row ++ line_in_sight l.left l.right l.column 0 (drop l.at l.bytes) ≡ line_in_sight l.left l.right 0 0 l.bytes;
}

abbrev pub decreases-loop-at : goal.decreases-loop-at
decreases-loop-at l = length l.bytes - l.at
