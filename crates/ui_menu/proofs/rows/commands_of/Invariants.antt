-- Those so far.
use Rattle.std.proofs.Common.{◌≡◌, take}
use Rattle.std.specs.List.{flat_map}
use Rattle.ui_menu.specs.MenuRows.{command_at}
use Rattle.ui_menu.proofs.rows.commands_of.Given as goal

abbrev pub invariant-loop-place : goal.invariant-loop-place
invariant-loop-place l = l.commands.items ≡ flat_map (command_at l.menu) (take l.place-index l.places)
