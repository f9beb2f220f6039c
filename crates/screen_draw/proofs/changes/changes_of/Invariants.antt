-- the changes so far, and those from here on
use Rattle.std.proofs.Common.{◌≡◌, ◌++◌, length, drop}
use Rattle.screen_draw.specs.Changes.{changes_from}
use Rattle.screen_draw.proofs.changes.changes_of.Given as goal

abbrev pub invariant-loop-at : goal.invariant-loop-at
invariant-loop-at l =
    (length l.was ≡ length l.cells)
    × (l.changes.items ++ changes_from l.has_drawn l.at (drop l.at l.was) (drop l.at l.cells) ≡ changes_from l.has_drawn 0 l.was l.cells)
