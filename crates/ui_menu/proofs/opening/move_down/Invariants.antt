-- Moved down by those so far.
use Rattle.std.proofs.Common.{◌≡◌}
use Rattle.ui_menu.specs.MenuRows.{moved_down}
use Rattle.ui_menu.proofs.opening.move_down.Given as goal

abbrev pub invariant-loop : goal.invariant-loop
invariant-loop l = l.list ≡ moved_down l.counter l.initial.list
