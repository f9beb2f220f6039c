-- What the units that are left will make of it is what all of them make.
use Rattle.std.proofs.Common.{◌≡◌, ◌+◌, ◌≤◌, length}
use Rattle.std.specs.List.{concat}
use Rattle.mc_edit.specs.Units.{units, units_left}
use Rattle.mc_edit.specs.Units.{end_after}
use Rattle.mc_edit.proofs.columns.end_after.Given as goal

abbrev pub invariant-loop-unit : goal.invariant-loop-unit
invariant-loop-unit l =
    (goal.iterator-loop-unit).can_next l.unit-iterator ×
    (goal.iterator-loop-unit).is_finite l.unit-iterator ×
    (l.end ≤ l.at) ×
    (end_after l.end l.at (units_left l.unit-iterator) ≡ end_after 0 l.at (units l.line)) ×
    (l.end + length (concat (units_left l.unit-iterator)) ≡ length l.line)
