-- The marks so far, before those of what is left.
use Rattle.std.proofs.Common.{◌≡◌, ◌++◌, length}
use Rattle.panel_listing.specs.Arranging.{names_of, name_marks}
use Rattle.panel_listing.proofs.arranging.marked.Given as goal

abbrev pub invariant-loop-item : goal.invariant-loop-item
invariant-loop-item l = l.marks.items ++ name_marks (names_of l.rest) l.left ≡ name_marks (names_of l.items) l.some

abbrev pub decreases-loop-item : goal.decreases-loop-item
decreases-loop-item l = length l.rest
