-- Those so far.
use Rattle.std.proofs.Common.{◌≡◌, take}
use Rattle.std.specs.List.{flat_map}
use Rattle.ui_menu.specs.MenuRows.{title_at}
use Rattle.ui_menu.proofs.rows.titles_of.Given as goal

abbrev pub invariant-loop-place : goal.invariant-loop-place
invariant-loop-place l = l.titles.items ≡ flat_map (title_at l.menu) (take l.place-index l.places)
