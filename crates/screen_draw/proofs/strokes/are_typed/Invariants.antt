-- what is left tells of all
use Rattle.std.proofs.Common.{◌≡◌, drop}
use Rattle.screen_draw.specs.DrawnBytes.{are_typed}
use Rattle.screen_draw.proofs.strokes.are_typed.Given as goal

abbrev pub invariant-loop-cell : goal.invariant-loop-cell
invariant-loop-cell l = are_typed l.attr (drop l.cell-index l.cells) ≡ are_typed l.attr l.cells
