-- So many lines were gone as iterations were made.
use Rattle.std.proofs.Common.{◌≡◌, ◌≤◌, length}
use Rattle.mc_edit.specs.Moves.{up_of, repeated_move}
use Rattle.mc_edit.proofs.moves.page_up.Given as goal

abbrev pub invariant-loop : goal.invariant-loop
invariant-loop l = (l.to ≤ length l.text.bytes) × (l.to ≡ repeated_move (up_of l.text.bytes) l.counter l.at)
