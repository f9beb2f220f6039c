use Rattle.std.proofs.Common.{◌≡◌, length, take, map, ap, ◌∙◌, sym, arith}
use Rattle.std.proofs.lemmas.Grind.{common_steps}
use Rattle.ui_hotlist.proofs.LabelLemmas.{label_in, labels-map, labels-count}
use Rattle.ui_hotlist.proofs.labels.labels_of.Goals as goal

pub returns-clause-labels : goal.returns-clause-labels
returns-clause-labels c =
    let whole : take c.loop-item.item-index c.args.items.now ≡ c.args.items.now = grind (arith, common_steps, c.loop-item-test.false) in
    c.loop-item.invariant ∙ ap (map label_in) whole ∙ sym (labels-map c.args.items.now)

pub returns-clause-count : goal.returns-clause-count
returns-clause-count c =
    let whole : take c.loop-item.item-index c.args.items.now ≡ c.args.items.now = grind (arith, common_steps, c.loop-item-test.false) in
    ap length (c.loop-item.invariant ∙ ap (map label_in) whole ∙ sym (labels-map c.args.items.now)) ∙ labels-count c.args.items.now
