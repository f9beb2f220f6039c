use Rattle.std.proofs.Common.{◌≡◌}
use Rattle.rows_boxes.proofs.painting.press_all.Given as goal

abbrev pub invariant-loop-key : goal.invariant-loop-key
invariant-loop-key l = l.asked.lines ≡ l.fn.asked.lines
