-- what is left, read from here on, gives the whole
use Rattle.std.proofs.Common.{◌≡◌, ◌≤◌, ◌-◌, length, drop, Ok}
use Rattle.key_screen.specs.Terminal.{all_read, segments, sequences_read}
use Rattle.key_screen.proofs.TerminalLemmas.{behind_escape}
use Rattle.key_screen.proofs.terminal.Terminal.read_all.Given as goal

abbrev pub invariant-loop-at : goal.invariant-loop-at
invariant-loop-at l =
    (l.at ≤ length l.bytes) ×
    (sequences_read (Ok l.self) l.at (behind_escape (drop l.at l.bytes)) ≡ all_read l.fn.self (segments l.bytes))

abbrev pub decreases-loop-at : goal.decreases-loop-at
decreases-loop-at l = length l.bytes - l.at
