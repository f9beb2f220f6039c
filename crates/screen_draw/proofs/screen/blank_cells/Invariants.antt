use Rattle.std.proofs.Common.{◌≡◌, replicate}
use Rattle.key_screen.specs.Cells.{blank_cell}
use Rattle.screen_draw.proofs.screen.blank_cells.Given as goal

abbrev pub invariant-loop : goal.invariant-loop
invariant-loop l = l.cells.items ≡ replicate l.counter blank_cell
