-- What the units that are left will make of it is what all of them make.
use Rattle.std.proofs.Common.{◌≡◌, ◌+◌, ◌*◌, ◌≤◌, length}
use Rattle.std.specs.List.{concat}
use Rattle.mc_edit.specs.Units.{units, units_left}
use Rattle.mc_edit.specs.Columns.{place_in_column}
use Rattle.mc_edit.proofs.columns.place_in_column.Given as goal

abbrev pub invariant-loop-unit : goal.invariant-loop-unit
invariant-loop-unit l =
    (goal.iterator-loop-unit).can_next l.unit-iterator ×
    (goal.iterator-loop-unit).is_finite l.unit-iterator ×
    (l.column ≤ l.wanted) ×
    (place_in_column l.column l.start l.wanted (units_left l.unit-iterator) ≡ place_in_column 0 0 l.wanted (units l.line)) ×
    (l.start + length (concat (units_left l.unit-iterator)) ≡ length l.line) ×
    (l.column + 8 * length (units_left l.unit-iterator) ≤ 8 * length l.line)
