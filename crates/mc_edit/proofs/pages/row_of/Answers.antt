-- At first all units are left.
use Rattle.std.proofs.Common.{arith, refl}
use Rattle.mc_edit.proofs.UnitLemmas.{length-units}
use Rattle.mc_edit.proofs.pages.row_of.Goals as goal

pub loop-unit-init : goal.loop-unit-init
loop-unit-init c =
    rw (c.into_iter-unit-iterator.ensures.into_iter_gives, c.units_of-unit-items.ensures, c.new-row.ensures.bytes)
    (tt, tt, omega (arith, length-units c.args.line.now), refl)
