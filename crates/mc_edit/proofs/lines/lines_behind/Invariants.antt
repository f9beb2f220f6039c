-- The line begins where so many lines as are left lead on from here.
use Rattle.std.proofs.Common.{◌≡◌, ◌+◌, ◌-◌, ◌≤◌, length, drop}
use Rattle.mc_edit.specs.Lines.{start_of_line}
use Rattle.mc_edit.proofs.lines.lines_behind.Given as goal

abbrev pub invariant-loop : goal.invariant-loop
invariant-loop l =
    (l.start ≤ length l.text.bytes) ×
    (l.start + start_of_line (l.lines - l.counter) (drop l.start l.text.bytes) ≡ l.from + start_of_line l.lines (drop l.from l.text.bytes))
