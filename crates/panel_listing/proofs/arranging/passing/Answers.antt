-- Without a filter each name passes.
use Rattle.std.proofs.Common.{◌≡◌, ◌∙◌, ap, sym, map, replicate, length, true}
use Rattle.std.proofs.lemmas.Result.{IfOk-weaker}
use Rattle.panel_listing.specs.Orders.{passes}
use Rattle.panel_listing.proofs.ArrangeLemmas.{all-pass}
use Rattle.panel_listing.proofs.arranging.passing.Goals as goal

pub returns-in-None : goal.returns-in-None
returns-in-None c =
    let items = c.args.items.now in
    IfOk-weaker c.all_pass.result (λ marks. marks.items ≡ replicate (length items) true) (λ marks. marks.items ≡ map (λ item. passes c.args.filter.now item.name) items)
    (λ marks is. is ∙ all-pass items ∙ ap (λ filter. map (λ item. passes filter item.name) items) (sym c.in-None.is)) c.all_pass.ensures
