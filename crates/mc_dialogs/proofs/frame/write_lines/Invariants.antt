-- what is left, written from here on, gives the whole
use Rattle.std.proofs.Common.{◌≡◌, ◌+◌, ◌<◌, ◌^◌, drop}
use Rattle.mc_dialogs.specs.Boxes.{with_lines}
use Rattle.mc_dialogs.proofs.frame.write_lines.Given as goal

abbrev pub invariant-loop-index : goal.invariant-loop-index
invariant-loop-index l =
    with_lines l.grid (l.place.row + l.index) l.place.column l.place.inside (drop l.index l.lines)
    ≡ with_lines l.fn.grid l.place.row l.place.column l.place.inside l.lines
