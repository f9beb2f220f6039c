-- the letter is none of those so far
use Rattle.std.proofs.Common.{◌≡◌, ◌==◌, drop}
use Rattle.std.specs.List.{list_any}
use Rattle.mc_dialogs.specs.QuestionKeys.{is_letter_of}
use Rattle.mc_dialogs.proofs.question_box.letter_shut.Given as goal

abbrev pub invariant-loop-letter : goal.invariant-loop-letter
invariant-loop-letter l = is_letter_of (drop l.letter-index l.letters) l.code ≡ is_letter_of l.letters l.code
