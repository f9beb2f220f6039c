-- The first of the things has the mode that the look at it tells.
use Rattle.std.proofs.Common.{refl, rules}
use Rattle.ui_plans.proofs.Sights.{first_mode}
use Rattle.ui_plans.proofs.choosing.with_first_mode.Goals as goal

pub returns-in-Ok-clause-chosen : goal.returns-in-Ok-clause-chosen
returns-in-Ok-clause-chosen g c =
    (first_mode (g.T.ReadTree.contents c.args.tree.now) c.args.chosen.paths c.first-item.result c.in-Ok.meta (search rules) c.in-Ok.ensures.answer, refl)
