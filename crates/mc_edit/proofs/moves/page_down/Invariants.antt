-- So many lines were gone as iterations were made.
use Rattle.std.proofs.Common.{◌≡◌, ◌≤◌, length}
use Rattle.mc_edit.specs.Moves.{down_of, repeated_move}
use Rattle.mc_edit.proofs.moves.page_down.Given as goal

abbrev pub invariant-loop : goal.invariant-loop
invariant-loop l = (l.to ≤ length l.text.bytes) × (l.to ≡ repeated_move (down_of l.text.bytes) l.counter l.at)
