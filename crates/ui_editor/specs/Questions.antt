-- What is asked over a text that is edited, and what is made of an answer. Own.
use Rattle.std.specs.Prelude.{ℕ, ◌==◌, if◌then◌else◌, List, [], ◌∷◌, Option, Some, None, codes}
use Rattle.key_screen.specs.declared.keys.Key.{Key}
use Rattle.mc_dialogs.specs.declared.shut.Shut.{Shut}
use Rattle.mc_dialogs.specs.declared.shut.Shut.TheVariants.{Stay, Closed}
use Rattle.mc_dialogs.specs.declared.shut.Reply.TheVariants.{Letter}
use Rattle.mc_dialogs.specs.InputKeys.{InputState}
use Rattle.mc_dialogs.specs.QuestionKeys.{letters_shut}
use Rattle.mc_edit.specs.declared.command.EditCmd.TheVariants.{Find, ReplaceAll, GoLine}
use Rattle.ui_viewer.specs.Numbers.{number_in}
use Rattle.ui_editor.specs.declared.asking.AskedLine.{AskedLine}
use Rattle.ui_editor.specs.declared.asking.Question.{Question}
use Rattle.ui_editor.specs.declared.asking.Question.TheVariants.{Line, Replace, ReplaceWith, Search}
use Rattle.ui_editor.specs.declared.answer.Answer.{Answer}
use Rattle.ui_editor.specs.declared.answer.Answer.TheVariants.{Ask, Edit, Nothing}
use Rattle.ui_editor.specs.declared.leaving.LeavingReply.{LeavingReply}
use Rattle.ui_editor.specs.declared.leaving.LeavingReply.TheVariants as leaving

-- THE LINES

-- the title of the line that asks
abbrev pub title_of : Question → List ℕ
title_of Line = codes "Line"
title_of Replace = codes "Replace"
title_of (ReplaceWith what) = codes "Replace with"
title_of Search = codes "Search"

-- the line as it opens: empty
abbrev pub opened_line : Question → InputState
opened_line question = record { title = title_of question; before = []; behind = [] }

-- this is asked, with its line as it opens
abbrev pub asks : Question → AskedLine
asks question = record { question = question; line = opened_line question }

-- a text that is no number of 64 bits goes to no line
abbrev pub to_line : Option ℕ → Answer
to_line (Some line) = Edit (GoLine line)
to_line None = Nothing

-- what comes of a text that answers a question: what is to be replaced is followed by the question by what
abbrev pub answer_of : Question → List ℕ → Answer
answer_of Line text = to_line (number_in text)
answer_of Replace text = Ask (ReplaceWith text)
answer_of (ReplaceWith what) text = Edit (ReplaceAll what text)
answer_of Search text = Edit (Find text)

-- LEAVING

-- the letters that answer whether to save before leaving: `s` saves and leaves, `d` leaves, and `c` stays
abbrev pub leaving_letters : List ℕ
leaving_letters = 115 ∷ 100 ∷ 99 ∷ []

-- the lines of that question
abbrev pub leaving_lines : List (List ℕ)
leaving_lines = codes "Save changes?" ∷ codes "s Save and leave  d Leave  c Stay" ∷ []

-- what its answer comes to; one that gives no letter shuts it
abbrev pub leaving_reply : Shut → LeavingReply
leaving_reply Stay = leaving.Stays
leaving_reply (Closed (Letter letter)) =
    if letter == 115 then leaving.Saves else if letter == 100 then leaving.Leaves else leaving.Shuts
leaving_reply (Closed other) = leaving.Shuts

-- a key while it is asked
abbrev pub leaving_reply_to : Key → LeavingReply
leaving_reply_to key = leaving_reply (letters_shut leaving_letters key)
