-- The questions of a command's prompts, and the line that asks one (mc(1), "Macro Substitution",
-- `%{some text}`).
use Rattle.std.specs.Prelude.{◌≡◌, ⊤, ℕ, List, [], ◌∷◌}
use Rattle.mc_dialogs.specs.InputKeys.{InputState}
use Rattle.percent_macros.specs.Commands.{CommandPart, Typed, Asked}
use Rattle.ui_words.specs.declared.replies.LineReply.{LineReply}
use Rattle.ui_words.specs.declared.replies.LineReply.TheVariants as line

-- the questions of a command, in their order
abbrev pub questions_in : List CommandPart → List (List ℕ)
questions_in [] = []
questions_in (Typed byte ∷ parts) = questions_in parts
questions_in (Asked question ∷ parts) = question ∷ questions_in parts

-- the line of a question as it opens
abbrev pub question_line : List ℕ → InputState
question_line question = record { title = question; before = []; behind = [] }

-- a line is as it was where its text was taken
abbrev pub StaysWhereTaken : LineReply → InputState → InputState → Type 0
StaysWhereTaken line.Stays before after = ⊤
StaysWhereTaken line.Shuts before after = ⊤
StaysWhereTaken (line.Takes text) before after = after ≡ before
