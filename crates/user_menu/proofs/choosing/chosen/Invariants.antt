-- What is left says which entries are still shown, and which one is the default where none is yet.
use Rattle.std.proofs.Common.{◌≡◌, ◌++◌, drop}
use Rattle.std.specs.Option.{option_or}
use Rattle.user_menu.specs.ShownEntries.{shown_places, first_default}
use Rattle.user_menu.proofs.choosing.chosen.Given as goal

abbrev pub invariant-loop-place : goal.invariant-loop-place
invariant-loop-place l = record {
  places : l.shown.entries ++ shown_places l.place (drop l.place l.standings) ≡ shown_places 0 l.standings;
  default_is : option_or l.shown.default (first_default l.place (drop l.place l.standings)) ≡ first_default 0 l.standings;
}
