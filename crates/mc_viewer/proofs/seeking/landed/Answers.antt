-- The row that holds the place is the top.
use Rattle.std.proofs.Common.{◌≡◌, ℕ, ap, ◌∙◌}
use Rattle.mc_viewer.specs.declared.layout.Layout.{Layout}
use Rattle.mc_viewer.specs.declared.state.State.{State}
use Rattle.mc_viewer.specs.declared.search.Landing.{Landing}
use Rattle.mc_viewer.specs.Rows.{row_holding}
use Rattle.mc_viewer.specs.ViewerSteps.{to_byte}
use Rattle.mc_viewer.proofs.seeking.landed.Goals as goal

abbrev landing_of : State → ℕ → Landing
landing_of state place = record { state = state; place = place }

pub returns-clause-shown : goal.returns-clause-shown
returns-clause-shown g c = λ bytes known size_is.
    let top_is = c.in_ok-top.ensures.shown bytes known size_is
    ∙ ap (λ (l : Layout). row_holding l.shape l.columns bytes c.args.place) c.layout_of-layout.ensures in
    let state_is : c.with_top.result ≡ to_byte bytes c.args.state c.args.place =
    c.with_top.ensures ∙ ap (λ (t : ℕ). record c.args.state { top = t }) top_is in
    ap (λ s. landing_of s c.args.place) state_is
