-- A part that stands is to be removed first, and then the folder is to be synced.
use Rattle.std.proofs.Common.{refl, subst}
use Rattle.copy_file.specs.declared.stage.Stage.TheVariants.{Fill, Clean}
use Rattle.copy_file.specs.Copying.{IsSound}
use Rattle.copy_file.proofs.Stepping.{dirty_fill}
use Rattle.copy_file.proofs.Tries.{winds_at}
use Rattle.copy_file.proofs.winding.wind.Goals as goal

pub returns-in-Fill : goal.returns-in-Fill
returns-in-Fill g c =
    let at = Fill c.in-Fill.part c.in-Fill.facts c.in-Fill.done in
    winds_at c.args.ending c.args.item.now c.args.stage at c.args.folder c.remove_or_leave.result _ _ _ _ c.in-Fill.is
    (dirty_fill c.args.stage c.args.folder c.in-Fill.part c.in-Fill.facts c.in-Fill.done c.in-Fill.is c.requires) (c.remove_or_leave.ensures c.args.ending at refl)

pub returns-in-Clean : goal.returns-in-Clean
returns-in-Clean g c =
    let at = Clean c.in-Clean.part c.in-Clean.next in
    winds_at c.args.ending c.args.item.now c.args.stage at c.args.folder c.remove_or_leave-in-Clean.result _ _ _ _ c.in-Clean.is
    (subst (λ s. IsSound s c.args.folder) c.in-Clean.is c.requires) (c.remove_or_leave-in-Clean.ensures c.args.ending at refl)
