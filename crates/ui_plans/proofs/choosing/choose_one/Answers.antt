-- What `stat` says of the thing is what can be seen there.
use Rattle.std.proofs.Common.{◌∷◌, [], subst, IfOk}
use Rattle.mc_text.specs.Routes.{Route}
use Rattle.ui_plans.specs.Choices.{IsChoiceOf, paths_in}
use Rattle.ui_plans.specs.Reading.{sight}
use Rattle.ui_plans.proofs.ChoiceLemmas.{one_chosen}
use Rattle.ui_plans.proofs.choosing.choose_one.Goals as goal

pub returns-in-Ok-stat-clause-chosen : goal.returns-in-Ok-stat-clause-chosen
returns-in-Ok-stat-clause-chosen g c =
    let contents = g.T.ReadTree.contents c.args.tree.now in
    subst (λ (folder : Route). IfOk c.one_thing.result (IsChoiceOf c.args.opens (sight contents) (paths_in folder (c.args.name.now ∷ [])))) c.folder.ensures
    (one_chosen c.args.opens contents c.folder.result.now c.args.name.now c.in-Ok.path c.in-Ok-stat.meta c.one_thing.result
    c.in-Ok.ensures.joined c.in-Ok.ensures.fits c.in-Ok-stat.ensures.answer c.one_thing.ensures)
