-- What is drawn and what the units that are left will add make up the row.
use Rattle.std.proofs.Common.{◌≡◌, ◌+◌, ◌*◌, ◌≤◌, ◌++◌, length, string_bytes}
use Rattle.mc_edit.specs.Units.{units, units_left}
use Rattle.mc_edit.specs.Pages.{row_of_units}
use Rattle.mc_edit.proofs.pages.row_of.Given as goal

abbrev pub invariant-loop-unit : goal.invariant-loop-unit
invariant-loop-unit l =
    (goal.iterator-loop-unit).can_next l.unit-iterator ×
    (goal.iterator-loop-unit).is_finite l.unit-iterator ×
    (l.column + 8 * length (units_left l.unit-iterator) ≤ 8 * length l.line) ×
    (string_bytes l.row ++ row_of_units l.sight.left l.sight.right l.column (units_left l.unit-iterator)
    ≡ row_of_units l.sight.left l.sight.right 0 (units l.line))
