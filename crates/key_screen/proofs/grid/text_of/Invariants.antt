-- what was read, and what the cells that are left show, give the whole
use Rattle.std.proofs.Common.{◌≡◌, ◌++◌, drop}
use Rattle.key_screen.specs.Grids.{cells_text}
use Rattle.key_screen.proofs.grid.text_of.Given as goal

abbrev pub invariant-loop-cell : goal.invariant-loop-cell
invariant-loop-cell l = l.text.bytes.items ++ cells_text (drop l.cell-index l.cells) ≡ cells_text l.fn.cells
