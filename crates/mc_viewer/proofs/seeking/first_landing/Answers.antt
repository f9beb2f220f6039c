-- From the top on, or from the start of its line.
use Rattle.std.proofs.Common.{◌≡◌, Ok, IfOk, IfErr, ap, sym, subst, ◌∙◌}
use Rattle.mc_viewer.specs.declared.layout.Layout.{Layout}
use Rattle.mc_viewer.specs.Viewing.{held_bytes}
use Rattle.mc_viewer.specs.Rows.{row_holding}
use Rattle.mc_viewer.specs.Searches.{start_from, first_from, landing, IsMissed}
use Rattle.mc_viewer.proofs.seeking.first_landing.Goals as goal

pub returns-clause-shown : goal.returns-clause-shown
returns-clause-shown g c = λ bytes known.
    let size_is = c.in_ok-size.ensures.shown bytes known in
    let still = ap (λ t. held_bytes t c.args.subject.now) c.in_ok-size.ensures.same ∙ known in
    let later = ap (λ t. held_bytes t c.args.subject.now) c.in_ok-top.ensures.same ∙ still in
    let last = ap (λ t. held_bytes t c.args.subject.now) c.in_ok-from.ensures.same ∙ later in
    let top_is = c.in_ok-top.ensures.shown bytes still (sym size_is)
    ∙ ap (λ (l : Layout). row_holding l.shape l.columns bytes c.args.state.top) c.layout_of-layout.ensures in
    let from_is : c.in_ok-from.from ≡ first_from bytes c.args.state c.args.what.now =
    c.in_ok-from.ensures.shown bytes later (sym size_is) ∙ ap (start_from bytes c.args.state.columns c.args.what.now) top_is in
    subst (λ from. IfOk c.land.result (λ l. landing c.args.what.now bytes c.args.state from ≡ Ok l)) from_is
    (c.land.ensures.shown bytes last (sym size_is))

pub returns-clause-missed : goal.returns-clause-missed
returns-clause-missed g c = λ bytes known.
    let size_is = c.in_ok-size.ensures.shown bytes known in
    let still = ap (λ t. held_bytes t c.args.subject.now) c.in_ok-size.ensures.same ∙ known in
    let later = ap (λ t. held_bytes t c.args.subject.now) c.in_ok-top.ensures.same ∙ still in
    let last = ap (λ t. held_bytes t c.args.subject.now) c.in_ok-from.ensures.same ∙ later in
    let top_is = c.in_ok-top.ensures.shown bytes still (sym size_is)
    ∙ ap (λ (l : Layout). row_holding l.shape l.columns bytes c.args.state.top) c.layout_of-layout.ensures in
    let from_is : c.in_ok-from.from ≡ first_from bytes c.args.state c.args.what.now =
    c.in_ok-from.ensures.shown bytes later (sym size_is) ∙ ap (start_from bytes c.args.state.columns c.args.what.now) top_is in
    subst (λ from. IfErr c.land.result (IsMissed (landing c.args.what.now bytes c.args.state from))) from_is
    (c.land.ensures.missed bytes last (sym size_is))
