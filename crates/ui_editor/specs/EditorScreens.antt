-- What a key makes of the screen while a file is edited: its text, what asks over it, and a message over
-- all. Nothing is read for it.
use Rattle.std.specs.Prelude.{◌≡◌, ℕ, Bool, true, false, not, is_some, ◌&&◌, ◌||◌}
use Rattle.std.specs.Prelude.{MatchBool, if◌then◌else◌, List, Option, Some, None, Ok, Err}
use Rattle.mc_text.specs.Routes.{Route, path_text}
use Rattle.key_screen.specs.declared.keys.Key.{Key}
use Rattle.mc_dialogs.specs.InputKeys.{InputState, input_after, input_shut}
use Rattle.ui_words.specs.declared.replies.LineReply.{LineReply}
use Rattle.ui_words.specs.declared.replies.LineReply.TheVariants as line
use Rattle.ui_words.specs.BoxKeys.{line_reply}
use Rattle.mc_edit.specs.declared.command.EditCmd.{EditCmd}
use Rattle.mc_edit.specs.declared.error.EditError.{EditError}
use Rattle.mc_edit.specs.Edits.{EditedText}
use Rattle.mc_edit.specs.Commands.{after_command}
use Rattle.ui_viewer.specs.ViewerScreens.{shuts_message}
use Rattle.ui_editor.specs.declared.act.EditorAct.{EditorAct}
use Rattle.ui_editor.specs.declared.act.EditorAct.TheVariants.{Stays, Refused, Asks, Waits}
use Rattle.ui_editor.specs.declared.act.EditorAsks.TheVariants as wish
use Rattle.ui_editor.specs.declared.answer.Answer.{Answer}
use Rattle.ui_editor.specs.declared.answer.Answer.TheVariants as answer
use Rattle.ui_editor.specs.declared.asking.AskedLine.{AskedLine}
use Rattle.ui_editor.specs.declared.asking.Asking.{Asking}
use Rattle.ui_editor.specs.declared.asking.Asking.TheVariants.{Text, Leaving}
use Rattle.ui_editor.specs.declared.asking.Question.{Question}
use Rattle.ui_editor.specs.declared.command.EditorCommand.{EditorCommand}
use Rattle.ui_editor.specs.declared.command.EditorCommand.TheVariants as command
use Rattle.ui_editor.specs.declared.leaving.LeavingReply.{LeavingReply}
use Rattle.ui_editor.specs.declared.leaving.LeavingReply.TheVariants as leaving
use Rattle.ui_editor.specs.declared.saving.Saving.{Saving}
use Rattle.ui_editor.specs.EditorKeys.{editor_command, page_of}
use Rattle.ui_editor.specs.Questions.{answer_of, asks, leaving_reply_to}

-- How many lines the screen has, the file that is edited, the title above its text, the text, and
-- whether changes from before the last save that was asked for are not saved; that save, while it goes
-- on; what asks over the text, and what was refused. The text's own mark says whether it was changed
-- since that save was asked for.
pub record EditorScreen : Type 0 where
  pub lines : ℕ
  pub path : Route
  pub title : List ℕ
  pub edited : EditedText
  pub is_unsaved : Bool
  pub saving : Option Saving
  pub asking : Option Asking
  pub refused : Option EditError

-- as it opens
abbrev pub opened : ℕ → Route → EditedText → EditorScreen
opened lines path edited = record {
  lines = lines;
  path = path;
  title = path_text path;
  edited = edited;
  is_unsaved = false;
  saving = None;
  asking = None;
  refused = None;
}

-- EDITING

-- What a command of the text comes to: it is carried out, and the line that asked for it is shut; or it is
-- refused, the line stays open, and a message says why.
abbrev pub EditLeads : EditCmd → EditorAct → EditorScreen → EditorScreen → Type 0
EditLeads cmd Stays before after =
    (after_command cmd before.edited ≡ Ok after.edited)
    × (after ≡ record before { edited = after.edited; asking = None })
EditLeads cmd (Refused why) before after =
    (after_command cmd before.edited ≡ Err why) × (after ≡ record before { refused = Some why })
EditLeads cmd (Asks what) before after = ⊥
EditLeads cmd Waits before after = ⊥

-- SAVING

-- the text was changed since the last save that is finished
abbrev pub has_changes : EditorScreen → Bool
has_changes s = s.is_unsaved || s.edited.is_changed

abbrev pub without_question : EditorScreen → EditorScreen
without_question before = record before { asking = None }

-- a save is asked for; the changes up to here are its own until it is finished
abbrev pub with_save : Saving → EditorScreen → EditorScreen
with_save saving before = record before {
  edited = record before.edited { is_changed = false };
  is_unsaved = has_changes before;
  saving = Some saving;
  asking = None;
}

-- What asking for a save comes to: the text as it stands is to be saved. While one goes
-- on no other is asked for.
abbrev pub SaveLeads : Option Saving → Saving → EditorAct → EditorScreen → EditorScreen → Type 0
SaveLeads (Some other) saving act before after = (act ≡ Waits) × (after ≡ without_question before)
SaveLeads None saving act before after =
    (act ≡ Asks (wish.Save before.edited.text.bytes)) × (after ≡ with_save saving before)

-- what a save that is finished leaves: what it was asked to save counts as saved, and no more
abbrev pub after_finish : Option Saving → EditorScreen → EditorScreen
after_finish None before = before
after_finish (Some saving) before = record before { is_unsaved = false; saving = None }

-- the editor is left then where that was asked for, and the text wasn't changed since
abbrev pub leaves_at_finish : Option Saving → EditorScreen → Bool
leaves_at_finish None before = false
leaves_at_finish (Some saving) before = saving.leaves && not before.edited.is_changed

abbrev pub act_at_finish : Bool → EditorAct
act_at_finish leaves = if leaves then Asks wish.Leave else Stays

-- a save that failed saved nothing
abbrev pub after_failure : EditorScreen → EditorScreen
after_failure before = record before { saving = None }

-- THE TEXT

-- the question whether to save, before the editor is left
abbrev pub asks_to_save : EditorScreen → EditorScreen
asks_to_save before = record before { asking = Some Leaving }

-- the editor is left; where changes are not saved it asks before
abbrev pub LeaveLeads : Bool → EditorAct → EditorScreen → EditorScreen → Type 0
LeaveLeads true act before after = (act ≡ Stays) × (after ≡ asks_to_save before)
LeaveLeads false act before after = (act ≡ Asks wish.Leave) × (after ≡ before)

abbrev pub with_asked : AskedLine → EditorScreen → EditorScreen
with_asked asked before = record before { asking = Some (Text asked) }

-- what a command makes of the screen while nothing asks
abbrev pub CommandLeads : EditorCommand → EditorAct → EditorScreen → EditorScreen → Type 0
CommandLeads (command.Edit cmd) act before after = EditLeads cmd act before after
CommandLeads (command.Ask question) act before after =
    (act ≡ Stays) × (after ≡ with_asked (asks question) before)
CommandLeads command.Save act before after =
    SaveLeads before.saving (record { leaves = false }) act before after
CommandLeads command.Leave act before after = LeaveLeads (has_changes before) act before after
CommandLeads command.Nothing act before after = (act ≡ Stays) × (after ≡ before)

-- WHAT ASKS

-- what comes of an answer: another question, a command of the text, or nothing but that its line is shut
abbrev pub AnswerLeads : Answer → EditorAct → EditorScreen → EditorScreen → Type 0
AnswerLeads (answer.Ask question) act before after =
    (act ≡ Stays) × (after ≡ with_asked (asks question) before)
AnswerLeads (answer.Edit cmd) act before after = EditLeads cmd act before after
AnswerLeads answer.Nothing act before after = (act ≡ Stays) × (after ≡ without_question before)

-- what a line's reply to a key makes of the screen
abbrev pub LineLeads : LineReply → Question → InputState → EditorAct → EditorScreen → EditorScreen → Type 0
LineLeads line.Stays question typed act before after =
    (act ≡ Stays) × (after ≡ with_asked (record { question = question; line = typed }) before)
LineLeads line.Shuts question typed act before after = (act ≡ Stays) × (after ≡ without_question before)
LineLeads (line.Takes text) question typed act before after =
    AnswerLeads (answer_of question text) act before after

-- what a reply makes of it while it is asked whether to save
abbrev pub LeavingLeads : LeavingReply → EditorAct → EditorScreen → EditorScreen → Type 0
LeavingLeads leaving.Stays act before after = (act ≡ Stays) × (after ≡ before)
LeavingLeads leaving.Shuts act before after = (act ≡ Stays) × (after ≡ without_question before)
LeavingLeads leaving.Saves act before after =
    SaveLeads before.saving (record { leaves = true }) act before after
LeavingLeads leaving.Leaves act before after = (act ≡ Asks wish.Leave) × (after ≡ without_question before)

abbrev pub AskingLeads : Asking → Key → EditorAct → EditorScreen → EditorScreen → Type 0
AskingLeads (Text asked) key act before after =
    LineLeads (line_reply (input_shut asked.line key)) asked.question (input_after asked.line key)
    act before after
AskingLeads Leaving key act before after = LeavingLeads (leaving_reply_to key) act before after

-- KEYS

abbrev pub after_message : Key → EditorScreen → EditorScreen
after_message key before = if shuts_message key then record before { refused = None } else before

-- what a key makes of the screen while there is no message
abbrev pub ByAsking : Option Asking → Key → EditorAct → EditorScreen → EditorScreen → Type 0
ByAsking None key act before after = CommandLeads (editor_command (page_of before.lines) key) act before after
ByAsking (Some asking) key act before after = AskingLeads asking key act before after

-- what a key makes of the screen: a message takes it before what asks does, and what
-- asks before the text does
abbrev pub KeyLeads : Key → EditorAct → EditorScreen → EditorScreen → Type 0
KeyLeads key act before after =
    MatchBool (is_some before.refused) ((act ≡ Stays) × (after ≡ after_message key before))
    (ByAsking before.asking key act before after)
