-- None of the names so far is too long, and their paths are made.
use Rattle.std.proofs.Common.{◌≡◌, ◌∷◌, false, map, take}
use Rattle.std.specs.List.{list_any}
use Rattle.op_plan.specs.Checks.{is_too_long}
use Rattle.op_plan.proofs.apart.targets_in.Given as goal

abbrev pub invariant-loop-name : goal.invariant-loop-name
invariant-loop-name l = record {
  fits : list_any (is_too_long l.folder) (take l.name-index l.names) ≡ false;
  made : l.targets.items ≡ map (λ name. name ∷ l.folder) (take l.name-index l.names);
}
