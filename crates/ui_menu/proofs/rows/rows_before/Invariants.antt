-- Those that are left decide.
use Rattle.std.proofs.Common.{◌≡◌, ◌+◌, length}
use Rattle.ui_menu.specs.MenuRows.{rows_before}
use Rattle.ui_menu.proofs.rows.rows_before.Given as goal

abbrev pub decreases-loop-first : goal.decreases-loop-first
decreases-loop-first l = length l.rest

abbrev pub invariant-loop-first : goal.invariant-loop-first
invariant-loop-first l = (l.rows + rows_before l.place l.rest ≡ rows_before l.place l.places) × (l.rows + length l.rest ≡ length l.places)
