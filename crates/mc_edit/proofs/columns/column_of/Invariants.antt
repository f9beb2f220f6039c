-- What the units that are left will make of it is what all of them make.
use Rattle.std.proofs.Common.{◌≡◌, ◌+◌, ◌*◌, ◌≤◌, length}
use Rattle.std.specs.List.{concat}
use Rattle.mc_edit.specs.Units.{units, units_left}
use Rattle.mc_edit.specs.Columns.{column_of}
use Rattle.mc_edit.proofs.columns.column_of.Given as goal

abbrev pub invariant-loop-unit : goal.invariant-loop-unit
invariant-loop-unit l =
    (goal.iterator-loop-unit).can_next l.unit-iterator ×
    (goal.iterator-loop-unit).is_finite l.unit-iterator ×
    (l.start ≤ l.at) ×
    (column_of l.column l.start l.at (units_left l.unit-iterator) ≡ column_of 0 0 l.at (units l.line)) ×
    (l.start + length (concat (units_left l.unit-iterator)) ≡ length l.line) ×
    (l.column + 8 * length (units_left l.unit-iterator) ≤ 8 * length l.line)
