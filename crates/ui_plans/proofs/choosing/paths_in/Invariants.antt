-- None of the names so far is too long, and their paths are made.
use Rattle.std.proofs.Common.{◌≡◌, ◌∷◌, false, map, take}
use Rattle.std.specs.List.{list_any}
use Rattle.ui_plans.specs.Choices.{is_too_long}
use Rattle.ui_plans.proofs.choosing.paths_in.Given as goal

abbrev pub invariant-loop-name : goal.invariant-loop-name
invariant-loop-name l = record {
  near : list_any (λ name. is_too_long (name ∷ l.folder)) (take l.name-index l.names) ≡ false;
  made : l.paths.items ≡ map (λ name. name ∷ l.folder) (take l.name-index l.names);
}
