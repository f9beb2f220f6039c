use Rattle.std.proofs.Common.{◌≡◌, ◌++◌, drop, length}
use Rattle.mc_dialogs.specs.QuestionKeys.{plain_lines}
use Rattle.mc_dialogs.proofs.question_box.plain_lines.Given as goal

abbrev pub invariant-loop-text : goal.invariant-loop-text
invariant-loop-text l = (l.lines.items ++ plain_lines (drop l.text-index l.texts) ≡ plain_lines l.texts) × (length l.lines.items ≡ l.text-index)
