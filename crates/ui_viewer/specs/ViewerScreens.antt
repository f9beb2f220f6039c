-- What a key makes of the screen while a file is viewed: a page, a line that asks over
-- it, and a message over all.
use Rattle.std.specs.Prelude.{◌≡◌, ◌≢◌, ◌≤◌, ℕ, max, Bool, false, is_some, MatchBool}
use Rattle.std.specs.Prelude.{if◌then◌else◌, List, [], Option, Some, None, Result, Ok, IfOk}
use Rattle.mc_text.specs.Routes.{Route, path_text}
use Rattle.tree_trait.specs.declared.calls.TreeError.TheVariants.{Fault}
use Rattle.tree_trait.specs.Change.{CallLog}
use Rattle.tree_trait.specs.Answers.{HasRisen, IfKnown}
use Rattle.key_screen.specs.declared.keys.Key.{Key}
use Rattle.mc_dialogs.specs.InputKeys.{InputState, input_after, input_shut}
use Rattle.mc_viewer.specs.declared.error.ViewError.{ViewError}
use Rattle.mc_viewer.specs.declared.error.ViewError.TheVariants as error
use Rattle.mc_viewer.specs.declared.subject.Subject.TheVariants.{File}
use Rattle.mc_viewer.specs.Searches.{IsMissed}
use Rattle.mc_viewer.specs.ViewerSteps.{Viewing, begun_viewing, page_of}
use Rattle.mc_viewer.specs.Viewing.{AsTheTreeSays, IsReadable, OfReading, held_bytes}
use Rattle.ui_words.specs.declared.replies.LineReply.{LineReply}
use Rattle.ui_words.specs.declared.replies.LineReply.TheVariants as line
use Rattle.ui_words.specs.BoxKeys.{closes_message, line_reply}
use Rattle.ui_viewer.specs.declared.act.ViewerAct.{ViewerAct}
use Rattle.ui_viewer.specs.declared.act.ViewerAct.TheVariants.{Stays, Refused, Leaves}
use Rattle.ui_viewer.specs.declared.asking.Asking.{Asking}
use Rattle.ui_viewer.specs.declared.asking.Question.{Question}
use Rattle.ui_viewer.specs.declared.command.ViewerCommand.{ViewerCommand}
use Rattle.ui_viewer.specs.declared.command.ViewerCommand.TheVariants as command
use Rattle.ui_viewer.specs.declared.motion.Motion.{Motion}
use Rattle.ui_viewer.specs.declared.motion.Motion.TheVariants as motion
use Rattle.ui_viewer.specs.Motions.{MayRefuse, Reads, led_viewing, motion_of}
use Rattle.ui_viewer.specs.Questions.{opened_line, place_question}
use Rattle.ui_viewer.specs.ViewerKeys.{viewer_command}

-- the title above the page, the viewer, the rows of the page as they were read last, the line that
-- asks, and what was refused
pub record ViewerScreen : Type 0 where
  pub title : List ℕ
  pub viewer : Viewing
  pub rows : List (List ℕ)
  pub asking : Option Asking
  pub refused : Option ViewError

-- a file's first page on a screen of this size, with these rows; one column is shown at least
abbrev pub opened_screen : Route → ℕ → ℕ → List (List ℕ) → ViewerScreen
opened_screen path lines columns rows = record {
  title = path_text path;
  viewer = begun_viewing (File path) lines (max columns 1);
  rows = rows;
  asking = None;
  refused = None;
}

-- a file is opened at its top, and can be read; the rows are those of its first page, as the file stands
pub record IsOpened (contents : Option CallLog) (path : Route) (lines columns : ℕ)
    (opened : ViewerScreen) : Type 0 where
  pub begins : opened ≡ opened_screen path lines columns opened.rows
  pub shown : IfKnown (held_bytes contents (File path)) (λ bytes.
      opened.rows ≡ page_of bytes opened.viewer.state)
  pub readable : IfKnown contents (λ log. IsReadable log (File path))

-- MOTIONS

-- The viewer stands where the motion leads in the file as it stands, and the rows are those of the page
-- there. The line that asked for it is shut; nothing else changes.
pub record IsLed (motion : Motion) (contents : Option CallLog) (before after : ViewerScreen) : Type 0 where
  pub led_to : IfKnown (held_bytes contents before.viewer.subject) (λ bytes.
      led_viewing motion bytes before.viewer ≡ Ok after.viewer)
  pub shown : IfKnown (held_bytes contents before.viewer.subject) (λ bytes.
      after.rows ≡ page_of bytes after.viewer.state)
  pub subject : after.viewer.subject ≡ before.viewer.subject
  pub readable : IfKnown contents (λ log. Reads motion before.viewer → IsReadable log before.viewer.subject)
  pub rest : after ≡ record before { viewer = after.viewer; rows = after.rows; asking = None }

-- The motion is refused, since the tree refuses the file, or since there is nothing to lead to. The viewer
-- stays where it stood, the line that asked stays open, and a message says why.
pub record IsRefused (motion : Motion) (contents : Option CallLog) (why : ViewError)
    (before after : ViewerScreen) : Type 0 where
  pub missed : IfKnown (held_bytes contents before.viewer.subject) (λ bytes.
      IsMissed (led_viewing motion bytes before.viewer) why)
  pub as_told : IfKnown contents (λ log. AsTheTreeSays log before.viewer.subject why)
  pub readable : IfKnown contents (λ log.
      OfReading why (Reads motion before.viewer → IsReadable log before.viewer.subject))
  pub kind : MayRefuse motion why
  pub memory : why ≢ error.Memory
  pub stays : after ≡ record before { refused = Some why }

-- what a key comes to whose motion was refused so, or was not
abbrev pub act_of : Option ViewError → ViewerAct
act_of None = Stays
act_of (Some why) = Refused why

-- what is made of a motion
abbrev pub MotionLeads : Motion → Option CallLog → ViewerAct → ViewerScreen → ViewerScreen → Type 0
MotionLeads motion contents Stays before after = IsLed motion contents before after
MotionLeads motion contents (Refused why) before after = IsRefused motion contents why before after
MotionLeads motion contents Leaves before after = ⊥

-- THE PAGE

-- the line that asks a question, over the page
abbrev pub with_question : Question → ViewerScreen → ViewerScreen
with_question question before =
    record before { asking = Some (record { question = question; line = opened_line question }) }

-- what a command makes of the screen while no line asks
abbrev pub CommandLeads : ViewerCommand → Option CallLog → ViewerAct → ViewerScreen → ViewerScreen → Type 0
CommandLeads (command.Step step) contents act before after =
    MotionLeads (motion.Step step) contents act before after
CommandLeads command.AskPlace contents act before after =
    (act ≡ Stays) × (after ≡ with_question (place_question before.viewer.state.is_hex) before)
CommandLeads (command.Ask question) contents act before after =
    (act ≡ Stays) × (after ≡ with_question question before)
CommandLeads command.SearchNext contents act before after =
    MotionLeads motion.SearchNext contents act before after
CommandLeads command.Leave contents act before after = (act ≡ Leaves) × (after ≡ before)
CommandLeads command.Nothing contents act before after = (act ≡ Stays) × (after ≡ before)

-- THE LINE

abbrev pub without_line : ViewerScreen → ViewerScreen
without_line before = record before { asking = None }

-- an answer is followed; one that wants nothing only shuts the line
abbrev pub AnswerLeads : Option Motion → Option CallLog → ViewerAct → ViewerScreen → ViewerScreen → Type 0
AnswerLeads (Some motion) contents act before after = MotionLeads motion contents act before after
AnswerLeads None contents act before after = (act ≡ Stays) × (after ≡ without_line before)

-- what a line's reply to a key makes of the screen
abbrev pub LineLeads : LineReply → Question → InputState → Option CallLog → ViewerAct → ViewerScreen
    → ViewerScreen → Type 0
LineLeads line.Stays question typed contents act before after =
    (act ≡ Stays) × (after ≡ record before { asking = Some (record { question = question; line = typed }) })
LineLeads line.Shuts question typed contents act before after = (act ≡ Stays) × (after ≡ without_line before)
LineLeads (line.Takes text) question typed contents act before after =
    AnswerLeads (motion_of question text) contents act before after

-- THE MESSAGE

-- a key without meta may close it
abbrev pub shuts_message : Key → Bool
shuts_message key = if key.meta then false else closes_message key.base

abbrev pub after_message : Key → ViewerScreen → ViewerScreen
after_message key before = if shuts_message key then record before { refused = None } else before

-- KEYS

-- what a key makes of the screen while there is no message
abbrev pub ByAsking : Option Asking → Option CallLog → Key → ViewerAct → ViewerScreen → ViewerScreen → Type 0
ByAsking None contents key act before after = CommandLeads (viewer_command key) contents act before after
ByAsking (Some asking) contents key act before after =
    LineLeads (line_reply (input_shut asking.line key)) asking.question (input_after asking.line key) contents
    act before after

-- what a key makes of the screen: a message takes it before the line below does, and a
-- line before the page does
abbrev pub KeyLeads : Option CallLog → Key → ViewerAct → ViewerScreen → ViewerScreen → Type 0
KeyLeads contents key act before after =
    MatchBool (is_some before.refused) ((act ≡ Stays) × (after ≡ after_message key before))
    (ByAsking before.asking contents key act before after)

-- what a command wants of the viewer, and what the line's reply to a key does
abbrev pub wanted_by_command : ViewerCommand → Option Motion
wanted_by_command (command.Step step) = Some (motion.Step step)
wanted_by_command command.SearchNext = Some motion.SearchNext
wanted_by_command other = None

abbrev pub wanted_by_reply : Question → LineReply → Option Motion
wanted_by_reply question (line.Takes text) = motion_of question text
wanted_by_reply question other = None

-- the motion that a key wants, if it wants one
abbrev pub wanted_by : Option Asking → Key → Option Motion
wanted_by None key = wanted_by_command (viewer_command key)
wanted_by (Some asking) key = wanted_by_reply asking.question (line_reply (input_shut asking.line key))

abbrev pub wanted_motion : Key → ViewerScreen → Option Motion
wanted_motion key s = if is_some s.refused then None else wanted_by s.asking key

-- Reading leaves the tree as it was. A fault is told only where the tree's count of faults has risen.
pub record ReadsTree {A E : Type 0} (act : A → ViewerAct) (result : Result A E)
    (before after : Option CallLog) (faults faults_after : ℕ) : Type 0 where
  pub same : after ≡ before
  pub later : faults ≤ faults_after
  pub fault : IfOk result (λ answer. act answer ≡ Refused (error.Tree Fault) → HasRisen faults faults_after)
