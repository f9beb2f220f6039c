-- what is left, drawn from here on, gives the whole
use Rattle.std.proofs.Common.{◌≡◌, ◌<◌, ◌++◌, drop}
use Rattle.screen_draw.specs.declared.strokes.Pen.TheVariants.{Away}
use Rattle.screen_draw.specs.DrawnBytes.{clearing, drawing}
use Rattle.screen_draw.proofs.strokes.bytes_of.Given as goal

abbrev pub invariant-loop-change : goal.invariant-loop-change
invariant-loop-change l =
    (0 < l.columns)
    × (l.bytes.items ++ drawing l.columns l.cells l.pen (drop l.change-index l.changes)
    ≡ clearing l.has_drawn ++ drawing l.columns l.cells Away l.changes)
