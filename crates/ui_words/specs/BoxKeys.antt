-- What a key makes of each box: one table a box. Own, but for the letters, which are those of a
-- question box of `mc_dialogs`.
use Rattle.std.specs.Prelude.{ℕ, Bool, true, false, ◌==◌, if◌then◌else◌, List, [], ◌∷◌}
use Rattle.key_screen.specs.declared.keys.Key.{Key}
use Rattle.key_screen.specs.declared.keys.Base.{Base}
use Rattle.key_screen.specs.declared.keys.Base.TheVariants.{Enter, Escape}
use Rattle.job_reports.specs.declared.answer.Answer.{Answer}
use Rattle.job_reports.specs.declared.answer.Answer.TheVariants.{Yes, No, All, Update, Nothing}
use Rattle.job_reports.specs.declared.answer.Answer.TheVariants.{SizeDiffers, Retry, Skip, SkipAll, Abort}
use Rattle.job_reports.specs.declared.waits.Waits.{Waits}
use Rattle.job_reports.specs.declared.waits.Waits.TheVariants as waits
use Rattle.mc_dialogs.specs.declared.shut.Shut.{Shut}
use Rattle.mc_dialogs.specs.declared.shut.Shut.TheVariants.{Stay, Closed}
use Rattle.mc_dialogs.specs.declared.shut.Reply.TheVariants.{Line, Letter, Mode}
use Rattle.mc_dialogs.specs.QuestionKeys.{letters_shut}
use Rattle.ui_words.specs.declared.replies.DeleteReply.{DeleteReply}
use Rattle.ui_words.specs.declared.replies.DeleteReply.TheVariants as delete
use Rattle.ui_words.specs.declared.replies.AnswerReply.{AnswerReply}
use Rattle.ui_words.specs.declared.replies.AnswerReply.TheVariants as answer
use Rattle.ui_words.specs.declared.replies.LineReply.{LineReply}
use Rattle.ui_words.specs.declared.replies.LineReply.TheVariants as line
use Rattle.ui_words.specs.declared.replies.ModeReply.{ModeReply}
use Rattle.ui_words.specs.declared.replies.ModeReply.TheVariants as mode

-- the letters of the delete box: `y` deletes, `g` too, until jobs run in the background, and `n` doesn't
abbrev pub delete_letters : List ℕ
delete_letters = 121 ∷ 103 ∷ 110 ∷ []

-- what the delete box's answer comes to
abbrev pub delete_reply : Shut → DeleteReply
delete_reply Stay = delete.Stays
delete_reply (Closed (Letter letter)) = if letter == 110 then delete.Shuts else delete.Deletes
delete_reply (Closed other) = delete.Shuts

-- a key while the delete box asks
abbrev pub delete_reply_to : Key → DeleteReply
delete_reply_to key = delete_reply (letters_shut delete_letters key)

-- the letters of a question: `y`, `n`, `a`, `u`, `o`, `s` and `b`
abbrev pub question_letters : List ℕ
question_letters = 121 ∷ 110 ∷ 97 ∷ 117 ∷ 111 ∷ 115 ∷ 98 ∷ []

-- the letters of a trouble: `r`, `s`, `a` and `b`, and at a barrier, where nothing
-- can be skipped, `r` and `b`
abbrev pub trouble_letters : Bool → List ℕ
trouble_letters true = 114 ∷ 98 ∷ []
trouble_letters false = 114 ∷ 115 ∷ 97 ∷ 98 ∷ []

-- the letters by which is answered what a job waits with
abbrev pub waits_letters : Waits → List ℕ
waits_letters (waits.Question question) = question_letters
waits_letters (waits.Trouble trouble) = trouble_letters trouble.barrier

-- what is answered by such a letter for all items from here on
abbrev pub answer_for_all : ℕ → Answer
answer_for_all letter = if letter == 97 then All else if letter == 117 then Update
    else if letter == 111 then Nothing else if letter == 115 then SizeDiffers else Abort

-- what is answered to a question by such a letter
abbrev pub question_answer : ℕ → Answer
question_answer letter = if letter == 121 then Yes else if letter == 110 then No else answer_for_all letter

-- what is done about a trouble by such a letter
abbrev pub trouble_answer : ℕ → Answer
trouble_answer letter =
    if letter == 114 then Retry else if letter == 115 then Skip else if letter == 97 then SkipAll else Abort

-- what such a letter answers
abbrev pub letter_answer : Waits → ℕ → Answer
letter_answer (waits.Question question) letter = question_answer letter
letter_answer (waits.Trouble trouble) letter = trouble_answer letter

-- what the answer of the box comes to that tells what a job waits with
abbrev pub answer_reply : Waits → Shut → AnswerReply
answer_reply waits Stay = answer.Stays
answer_reply waits (Closed (Letter letter)) = answer.Gives (letter_answer waits letter)
answer_reply waits (Closed other) = answer.Shuts

-- a key while that box is shown
abbrev pub answer_reply_to : Waits → Key → AnswerReply
answer_reply_to waits key = answer_reply waits (letters_shut (waits_letters waits) key)

-- what the answer of an input line comes to. Until jobs run in the background it closes as Enter
-- does by meta with `b` too
abbrev pub line_reply : Shut → LineReply
line_reply Stay = line.Stays
line_reply (Closed (Line text background)) = line.Takes text
line_reply (Closed other) = line.Shuts

-- what the answer of a mode box comes to
abbrev pub mode_reply : Shut → ModeReply
mode_reply Stay = mode.Stays
mode_reply (Closed (Mode bits)) = mode.Takes bits
mode_reply (Closed other) = mode.Shuts

-- the keys that close a message
abbrev pub closes_message : Base → Bool
closes_message Enter = true
closes_message Escape = true
closes_message other = false
