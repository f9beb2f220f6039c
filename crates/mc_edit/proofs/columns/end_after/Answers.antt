-- At first all units are left.
use Rattle.std.proofs.Common.{ap, arith, length, refl}
use Rattle.mc_edit.proofs.UnitLemmas.{concat-units}
use Rattle.mc_edit.proofs.columns.end_after.Goals as goal

pub loop-unit-init : goal.loop-unit-init
loop-unit-init c =
    rw (c.into_iter-unit-iterator.ensures.into_iter_gives, c.units_of-unit-items.ensures)
    (tt, tt, omega arith, refl, omega (arith, ap length (concat-units c.args.line.now)))
