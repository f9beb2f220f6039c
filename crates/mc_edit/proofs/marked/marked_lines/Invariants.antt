-- The columns so far and those of the lines that are left are all columns.
use Rattle.std.proofs.Common.{◌≡◌, ◌-◌, ◌≤◌, ◌++◌, length}
use Rattle.mc_edit.specs.Marked.{marked_lines}
use Rattle.mc_edit.proofs.marked.marked_lines.Given as goal

abbrev pub invariant-loop : goal.invariant-loop
invariant-loop l =
    (l.at ≤ length l.text.bytes) ×
    (l.marked.items ++ marked_lines l.text.bytes l.sight.left l.sight.right l.span.start l.span.end (l.lines - l.counter) l.at
    ≡ marked_lines l.text.bytes l.sight.left l.sight.right l.span.start l.span.end l.lines l.fn.at)
