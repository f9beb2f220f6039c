-- What is asked over a page, and the line that asks it. Own.
use Rattle.std.specs.Prelude.{◌≡◌, ⊤, ℕ, Bool, if◌then◌else◌, List, [], codes}
use Rattle.mc_dialogs.specs.InputKeys.{InputState}
use Rattle.ui_words.specs.declared.replies.LineReply.{LineReply}
use Rattle.ui_words.specs.declared.replies.LineReply.TheVariants.{Stays, Shuts, Takes}
use Rattle.ui_viewer.specs.declared.asking.Question.{Question}
use Rattle.ui_viewer.specs.declared.asking.Question.TheVariants.{Line, Byte, PlainText, Expression}

-- which place is asked for: a line while text is shown, and a byte while rows in hexadecimal are
abbrev pub place_question : Bool → Question
place_question is_hex = if is_hex then Byte else Line

-- the title of the line that asks
abbrev pub title_of : Question → List ℕ
title_of Line = codes "Line"
title_of Byte = codes "Byte"
title_of PlainText = codes "Search"
title_of Expression = codes "Regular expression"

-- the line as it opens: empty
abbrev pub opened_line : Question → InputState
opened_line question = record { title = title_of question; before = []; behind = [] }

-- a line is as it was where its text was taken
abbrev pub StaysWhereTaken : LineReply → InputState → InputState → Type 0
StaysWhereTaken Stays before after = ⊤
StaysWhereTaken Shuts before after = ⊤
StaysWhereTaken (Takes text) before after = after ≡ before
