-- what the keys left make of the box is what all of them make of it
use Rattle.std.proofs.Common.{◌≡◌, drop}
use Rattle.mc_dialogs.specs.ListKeys.{ListState, list_after, list_shut}
use Rattle.mc_dialogs.specs.KeyLists.{answer_of, left_by}
use Rattle.mc_dialogs.proofs.list_box.ListBox.answer.Given as goal

abbrev pub invariant-loop-key : goal.invariant-loop-key
invariant-loop-key l =
    (answer_of ListState list_after list_shut l.self (drop l.key-index l.keys) ≡ answer_of ListState list_after list_shut l.fn.self l.keys)
    × (left_by ListState list_after list_shut l.self (drop l.key-index l.keys) ≡ left_by ListState list_after list_shut l.fn.self l.keys)
