-- What comes of the path comes of the name that leads to it.
use Rattle.std.proofs.Common.{IfOk, Option, subst}
use Rattle.tree_trait.specs.Change.{CallLog}
use Rattle.ui_viewer.specs.Openings.{OpensPath}
use Rattle.ui_viewer.proofs.OpeningLemmas.{opened_along}
use Rattle.ui_viewer.proofs.opening.open_thing.Goals as goal

pub returns-in-Ok-clause-opens : goal.returns-in-Ok-clause-opens
returns-in-Ok-clause-opens g c =
    let contents = g.T.ReadTree.contents c.args.tree.now in
    opened_along contents c.args.folder.now c.args.name.now c.in-Ok.path c.args.lines c.args.columns c.open_path.result c.in-Ok.ensures.answer
    (subst (λ (t : Option CallLog). IfOk c.open_path.result (OpensPath t c.in-Ok.path c.args.lines c.args.columns)) c.in-Ok.ensures.same c.open_path.ensures.opens)
