-- Those so far.
use Rattle.std.proofs.Common.{◌≡◌, map, take}
use Rattle.ui_hotlist.proofs.LabelLemmas.{label_in}
use Rattle.ui_hotlist.proofs.labels.labels_of.Given as goal

abbrev pub invariant-loop-item : goal.invariant-loop-item
invariant-loop-item l = l.texts.items ≡ map label_in (take l.item-index l.items)
