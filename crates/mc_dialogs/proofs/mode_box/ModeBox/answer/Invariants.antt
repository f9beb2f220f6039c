-- what the keys left make of the box is what all of them make of it
use Rattle.std.proofs.Common.{◌≡◌, drop}
use Rattle.mc_dialogs.specs.ModeKeys.{ModeState, mode_after, mode_shut}
use Rattle.mc_dialogs.specs.KeyLists.{answer_of, left_by}
use Rattle.mc_dialogs.proofs.mode_box.ModeBox.answer.Given as goal

abbrev pub invariant-loop-key : goal.invariant-loop-key
invariant-loop-key l =
    (answer_of ModeState mode_after mode_shut l.self (drop l.key-index l.keys) ≡ answer_of ModeState mode_after mode_shut l.fn.self l.keys)
    × (left_by ModeState mode_after mode_shut l.self (drop l.key-index l.keys) ≡ left_by ModeState mode_after mode_shut l.fn.self l.keys)
