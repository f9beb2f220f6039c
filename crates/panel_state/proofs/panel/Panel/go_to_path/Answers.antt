-- The own folder is the one that holds the path.
use Rattle.std.proofs.Common.{ap}
use Rattle.tree_trait.specs.Refusals.{holder}
use Rattle.panel_state.specs.Panels.{PanelState}
use Rattle.panel_state.specs.Readings.{outcome}
use Rattle.panel_state.proofs.GoingLemmas.{shows_own}
use Rattle.panel_state.proofs.panel.Panel.go_to_path.Goals as goal

pub returns-then-same-clause-answer : goal.returns-then-same-clause-answer
returns-then-same-clause-answer g c = λ known is.
    shows_own known (holder c.args.path) c.in_ok-folder.folder c.self.inside.folder c.args.self.now (outcome c.read_again_at.result c.read_again_at.new.self)
    c.in_ok-folder.ensures c.if-same.ensures (ap (λ (p : PanelState). p.folder) c.self.view_is) (c.read_again_at.ensures.answer known is)
