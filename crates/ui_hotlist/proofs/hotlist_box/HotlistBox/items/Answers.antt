use Rattle.std.proofs.Common.{rules, ◌≡◌, length, ap, ◌∙◌, sym}
use Rattle.hotlist.specs.HotLists.{list_of}
use Rattle.ui_hotlist.specs.HotlistBoxes.{items_shown, seen}
use Rattle.ui_hotlist.specs.HotlistRows.{labels}
use Rattle.ui_hotlist.proofs.LabelLemmas.{labels-count}
use Rattle.ui_hotlist.proofs.hotlist_box.HotlistBox.items.Goals as goal

pub returns-clause-count : goal.returns-clause-count
returns-clause-count c =
    let shown : list_of c.items_of_group.result.now ≡ items_shown (seen c.args.self.now) = search rules in
    sym (labels-count c.items_of_group.result.now) ∙ ap (λ list. length (labels list)) shown
