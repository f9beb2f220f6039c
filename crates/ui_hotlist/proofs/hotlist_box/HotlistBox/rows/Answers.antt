use Rattle.std.proofs.Common.{◌≡◌, take, drop, ap, ◌∙◌}
use Rattle.std.proofs.lemmas.Result.{IfOk-weaker}
use Rattle.hotlist.specs.HotLists.{list_of}
use Rattle.ui_hotlist.specs.HotlistBoxes.{items_shown, page_of, seen}
use Rattle.ui_hotlist.specs.HotlistRows.{labels}
use Rattle.ui_hotlist.proofs.LabelLemmas.{labels-page}
use Rattle.ui_hotlist.proofs.hotlist_box.HotlistBox.rows.Goals as goal

pub returns-clause-value : goal.returns-clause-value
returns-clause-value c =
    let box = seen c.args.self.now in
    let page : labels (list_of c.rows_from.result.now) ≡ take (page_of box) (drop c.args.first (labels (items_shown box))) =
    ap (λ items. labels (list_of items)) c.rows_from.ensures.value
    ∙ labels-page c.page.result c.args.first c.items.result.now
    ∙ ap (λ count. take count (drop c.args.first (labels (list_of c.items.result.now)))) c.page.ensures.value
    ∙ ap (λ list. take (page_of box) (drop c.args.first (labels list))) c.items.ensures.value in
    IfOk-weaker c.labels_of.result (λ rows. rows.items ≡ labels (list_of c.rows_from.result.now))
    (λ rows. rows.items ≡ take (page_of box) (drop c.args.first (labels (items_shown box))))
    (λ rows is. is ∙ page) c.labels_of.ensures.labels
