use Rattle.std.proofs.Common.{◌≡◌, ◌+◌, ◌++◌, drop, length}
use Rattle.mc_dialogs.specs.ListKeys.{rows_shown}
use Rattle.mc_dialogs.proofs.list_painting.push_rows.Given as goal

abbrev pub invariant-loop-index : goal.invariant-loop-index
invariant-loop-index l =
    (l.lines.items ++ rows_shown (l.first + l.index) l.current (drop l.index l.rows) ≡ l.fn.lines.items ++ rows_shown l.first l.current l.rows)
    × (length l.lines.items ≡ length l.fn.lines.items + l.index)
