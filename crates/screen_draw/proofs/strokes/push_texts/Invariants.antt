-- what is left gives the whole
use Rattle.std.proofs.Common.{◌≡◌, ◌++◌, drop}
use Rattle.screen_draw.specs.DrawnBytes.{cells_text}
use Rattle.screen_draw.proofs.strokes.push_texts.Given as goal

abbrev pub invariant-loop-cell : goal.invariant-loop-cell
invariant-loop-cell l = l.bytes.items ++ cells_text (drop l.cell-index l.cells) ≡ l.fn.bytes.items ++ cells_text l.cells
