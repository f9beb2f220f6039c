use Rattle.std.proofs.Common.{◌≡◌, length, take}
use Rattle.key_screen.proofs.cells.are_same.Given as goal

abbrev pub invariant-loop-i : goal.invariant-loop-i
invariant-loop-i l = (length l.cells ≡ length l.others) × (take l.i l.cells ≡ take l.i l.others)
