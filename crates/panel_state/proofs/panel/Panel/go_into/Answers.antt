-- The folder that was resolved is shown.
use Rattle.std.proofs.Common.{◌≡◌, refl, sym, ap, ◌∙◌}
use Rattle.mc_text.specs.Routes.{Route}
use Rattle.panel_state.specs.Panels.{PanelState}
use Rattle.panel_state.specs.Readings.{gone_to}
use Rattle.panel_state.proofs.GoingLemmas.{gone_folder}
use Rattle.panel_state.proofs.panel.Panel.go_into.Goals as goal

pub returns-clause-done : goal.returns-clause-done
returns-clause-done g c =
    let page = c.args.page in
    let folder = c.in_ok-folder.folder in
    let listing = c.go_to.new.self.listing in
    let old = c.args.self.now in
    let done : c.go_to.new.self ≡ gone_to page folder listing old = c.in_ok-go_to.ensures.done in
    let there : c.go_to.new.self.folder ≡ folder = ap (λ (p : PanelState). p.folder) done ∙ gone_folder page folder listing old in
    (refl, done ∙ ap (λ (f : Route). gone_to page f listing old) (sym there))
