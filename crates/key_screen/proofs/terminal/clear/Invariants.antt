use Rattle.std.proofs.Common.{◌≡◌, take, replicate}
use Rattle.key_screen.specs.Cells.{blank_cell}
use Rattle.key_screen.proofs.terminal.clear.Given as goal

abbrev pub invariant-loop-cell : goal.invariant-loop-cell
invariant-loop-cell l = take l.cell-index l.cells ≡ replicate l.cell-index blank_cell
