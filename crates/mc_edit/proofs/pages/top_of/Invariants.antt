-- What is left of the way leads to the top.
use Rattle.std.proofs.Common.{◌≡◌, ◌+◌, ◌-◌, ◌≤◌, length}
use Rattle.mc_edit.specs.Pages.{top_of, lines_above}
use Rattle.mc_edit.proofs.pages.top_of.Given as goal

abbrev pub invariant-loop : goal.invariant-loop
invariant-loop l =
    (l.place ≤ length l.text.bytes) ×
    (l.above ≡ l.counter) ×
    (top_of l.text.bytes (l.lines - l.counter) l.place ≡ top_of l.text.bytes l.lines l.at) ×
    (l.above + lines_above l.text.bytes (l.lines - l.counter) l.place ≡ lines_above l.text.bytes l.lines l.at)
