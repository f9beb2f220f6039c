-- The rows from the one that holds the top on.
use Rattle.std.proofs.Common.{ℕ, List, ap, sym, ◌∙◌, map, take}
use Rattle.std.proofs.lemmas.Result.{IfOk-weaker}
use Rattle.mc_viewer.specs.Viewing.{held_bytes}
use Rattle.mc_viewer.specs.Rows.{all_rows, rows_from}
use Rattle.mc_viewer.specs.Pages.{shown_row}
use Rattle.mc_viewer.proofs.StartLemmas.{from-at}
use Rattle.mc_viewer.proofs.pages.page_rows.Goals as goal

pub returns-clause-shown : goal.returns-clause-shown
returns-clause-shown g c = λ bytes known.
    let size_is = c.in_ok-size.ensures.shown bytes known in
    let still = ap (λ t. held_bytes t c.args.subject.now) c.in_ok-size.ensures.same ∙ known in
    let later = ap (λ t. held_bytes t c.args.subject.now) c.in_ok-first.ensures.same ∙ still in
    let layout = c.args.layout in
    let shown = map (shown_row layout bytes) in
    let row = c.in_ok-first.ensures.row bytes still (sym size_is) in
    let first_is = c.in_ok-first.ensures.shown bytes still (sym size_is) in
    let from_is = sym (from-at layout.shape layout.columns bytes c.in_ok-first.first row)
    ∙ ap (λ r. rows_from r (all_rows layout.shape layout.columns bytes)) first_is in
    IfOk-weaker c.rows_from.result _ _
    (λ rows is. is ∙ ap (λ (l : List ℕ). shown (take c.args.count l)) from_is)
    (c.rows_from.ensures.shown bytes later (sym size_is))
