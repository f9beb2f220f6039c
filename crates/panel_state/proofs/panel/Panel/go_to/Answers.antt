-- The own folder is the same one.
use Rattle.std.proofs.Common.{◌≡◌, sym, subst, ap, ◌∙◌}
use Rattle.mc_text.specs.Routes.{Route}
use Rattle.tree_trait.proofs.Visible.{same_path-true}
use Rattle.panel_state.specs.Panels.{PanelState}
use Rattle.panel_state.specs.Readings.{ShowsFolder, outcome}
use Rattle.panel_state.proofs.panel.Panel.go_to.Goals as goal

pub returns-then-same-clause-answer : goal.returns-then-same-clause-answer
returns-then-same-clause-answer g c = λ known is.
    let own : c.args.folder ≡ c.args.self.now.folder =
    same_path-true c.args.folder c.self.inside.folder (sym c.if-same.ensures) ∙ ap (λ (p : PanelState). p.folder) c.self.view_is in
    subst (λ (folder : Route). ShowsFolder known folder (outcome c.read_again.result c.read_again.new.self)) (sym own) (c.read_again.ensures.answer known is)
