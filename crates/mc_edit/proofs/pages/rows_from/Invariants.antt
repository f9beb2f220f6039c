-- The rows so far and those of the lines that are left are all rows.
use Rattle.std.proofs.Common.{◌≡◌, ◌-◌, ◌≤◌, ◌++◌, length}
use Rattle.mc_edit.specs.Pages.{rows_from}
use Rattle.mc_edit.proofs.pages.rows_from.Given as goal

abbrev pub invariant-loop : goal.invariant-loop
invariant-loop l =
    (l.at ≤ length l.text.bytes) ×
    (l.rows ++ rows_from l.text.bytes l.sight.left l.sight.right (l.lines - l.counter) l.at
    ≡ rows_from l.text.bytes l.sight.left l.sight.right l.lines l.fn.at)
