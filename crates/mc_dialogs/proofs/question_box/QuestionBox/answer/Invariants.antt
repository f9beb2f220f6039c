-- what the keys left make of the box is what all of them make of it
use Rattle.std.proofs.Common.{◌≡◌, drop}
use Rattle.mc_dialogs.specs.QuestionKeys.{QuestionState, question_shut}
use Rattle.mc_dialogs.specs.KeyLists.{answer_of}
use Rattle.mc_dialogs.proofs.question_box.QuestionBox.answer.Given as goal

abbrev pub invariant-loop-key : goal.invariant-loop-key
invariant-loop-key l =
    (answer_of QuestionState (λ asked key. asked) question_shut l.self (drop l.key-index l.keys)
    ≡ answer_of QuestionState (λ asked key. asked) question_shut l.fn.self l.keys)
    × (l.self ≡ l.fn.self)
