-- what the keys left make of the box is what all of them make of it
use Rattle.std.proofs.Common.{◌≡◌, drop}
use Rattle.mc_dialogs.specs.InputKeys.{InputState, input_after, input_shut}
use Rattle.mc_dialogs.specs.KeyLists.{answer_of, left_by, states_before}
use Rattle.mc_dialogs.proofs.input_line.InputLine.answer.Given as goal

abbrev pub invariant-loop-key : goal.invariant-loop-key
invariant-loop-key l =
    (answer_of InputState input_after input_shut l.self (drop l.key-index l.keys) ≡ answer_of InputState input_after input_shut l.fn.self l.keys)
    × (left_by InputState input_after input_shut l.self (drop l.key-index l.keys) ≡ left_by InputState input_after input_shut l.fn.self l.keys)
    × (states_before InputState input_after input_shut l.self (drop l.key-index l.keys) ≡ drop l.key-index (states_before InputState input_after input_shut l.fn.self l.keys))
