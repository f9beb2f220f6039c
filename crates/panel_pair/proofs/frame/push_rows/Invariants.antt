-- the items of the rows so far, and those of the rows to come
use Rattle.std.proofs.Common.{◌≡◌, ◌+◌, ◌++◌, drop}
use Rattle.panel_pair.specs.Frames.{items_from}
use Rattle.panel_pair.proofs.frame.push_rows.Given as goal

abbrev pub invariant-loop-index : goal.invariant-loop-index
invariant-loop-index l =
    l.items ++ items_from l.panel l.is_current (l.row + l.index) (drop l.index l.texts) ≡ l.fn.items ++ items_from l.panel l.is_current l.row l.texts
