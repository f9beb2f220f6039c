-- What a key or a look makes of the screen: the two panels, the box that stands over them, a message over
-- these, and a file that is viewed over all.
use Rattle.std.specs.Prelude.{◌≡◌, ◌≢◌, ℕ, Bool, true, false, is_some, MatchBool, ⊤}
use Rattle.std.specs.Prelude.{if◌then◌else◌, List, [], ◌∷◌, Option, Some, None, Ok, Err}
use Rattle.mc_text.specs.Routes.{Route}
use Rattle.tree_trait.specs.FileSystem.{View as TreeView}
use Rattle.tree_trait.specs.Change.{CallLog}
use Rattle.tree_trait.specs.Answers.{IfKnown}
use Rattle.resolving.specs.declared.error.ResolveError.{ResolveError}
use Rattle.resolving.specs.declared.error.ResolveError.TheVariants as resolve
use Rattle.key_screen.specs.declared.keys.Key.{Key}
use Rattle.key_screen.specs.declared.keys.Base.{Base}
use Rattle.job_reports.specs.declared.answer.Answer.{Answer}
use Rattle.job_reports.specs.declared.job.Job.{Job}
use Rattle.job_reports.specs.declared.row.JobRow.{JobRow}
use Rattle.job_reports.specs.declared.waits.Waits.{Waits}
use Rattle.session_entries.specs.Sources.{are_workable}
use Rattle.session_entries.specs.declared.refusal.PlanError.TheVariants.{NoSelection, TooLong}
use Rattle.session_entries.specs.declared.refusal.Refusal.{Refusal}
use Rattle.session_entries.specs.declared.refusal.Refusal.TheVariants.{Tree, Read, Resolve, Plan, Typed}
use Rattle.mc_ui.specs.declared.asks.Ask.{Ask}
use Rattle.mc_ui.specs.declared.asks.Ask.TheVariants as ask
use Rattle.mc_ui.specs.declared.asks.Told.{Told}
use Rattle.mc_ui.specs.declared.asks.Told.TheVariants as told
use Rattle.ui_words.specs.declared.message.Message.{Message}
use Rattle.ui_words.specs.declared.message.Message.TheVariants.{Refused, Help}
use Rattle.ui_plans.specs.declared.choosing.Choice.{Choice}
use Rattle.ui_plans.specs.declared.choosing.Choice.TheVariants as choice
use Rattle.ui_plans.specs.declared.choosing.Opens.{Opens}
use Rattle.ui_plans.specs.declared.choosing.Opens.TheVariants as opens
use Rattle.mc_ui.specs.declared.panel_command.KeyCommand.{KeyCommand}
use Rattle.mc_ui.specs.declared.panel_command.KeyCommand.TheVariants.{Work, ShowHelp, View, Open, AskFolder}
use Rattle.mc_ui.specs.declared.panel_command.KeyCommand.TheVariants.{OpenPanelBox, Find, Quit, Nothing}
use Rattle.ui_find.specs.declared.act.FindAct.{FindAct}
use Rattle.ui_find.specs.declared.act.FindAct.TheVariants as found
use Rattle.ui_find.specs.FindScreens.{FindScreen, KeyLeads as FindKeyLeads, opened_find_screen as opened_find}
use Rattle.ui_job_boxes.specs.declared.job_box.JobReply.{JobReply}
use Rattle.ui_job_boxes.specs.declared.job_box.JobReply.TheVariants as job
use Rattle.ui_job_boxes.specs.JobBoxes.{Around, JobBoxState, FolderBox, LinkTextBox, seen_job_box}
use Rattle.ui_job_boxes.specs.LiveJobs.{can_answer}
use Rattle.ui_job_boxes.specs.Openings.{box_of, link_asked}
use Rattle.ui_job_boxes.specs.Replies.{BoxLeads, box_after}
use Rattle.ui_job_list.specs.JobLists.{opened_list}
use Rattle.panel_state.specs.Goings.{way_of}
use Rattle.panel_state.specs.Panels.{PanelState, current_name}
use Rattle.panel_boxes.specs.declared.panel_box.PanelBox.{PanelBox}
use Rattle.panel_boxes.specs.declared.panel_box.PanelReply.{PanelReply}
use Rattle.panel_boxes.specs.declared.panel_box.PanelReply.TheVariants as panel
use Rattle.panel_boxes.specs.Openings.{opened_panel_box}
use Rattle.panel_boxes.specs.Replies.{box_after as panel_box_after, reply_to}
use Rattle.panel_pair.specs.declared.command.PanelCommand.{PanelCommand}
use Rattle.panel_pair.specs.declared.command.PanelCommand.TheVariants.{Enter, GoTo}
use Rattle.panel_pair.specs.declared.frame.FrameSize.{FrameSize}
use Rattle.panel_pair.specs.Commands.{CommandDone, CommandReads}
use Rattle.panel_pair.specs.Frames.{page_of as page_of_lines}
use Rattle.panel_pair.specs.Pairs.{PairState, untagged_pair}
use Rattle.ui_words.specs.BoxKeys.{closes_message}
use Rattle.ui_words.specs.BoxLines.{folder_line}
use Rattle.ui_plans.specs.Reading.{sight}
use Rattle.ui_plans.specs.Choices.{IsChoice, choice_refusals}
use Rattle.mc_ui.specs.Boxes.{Box, NoBox, OneJobBox, PanelsBox, FindBox, JobsBox}
use Rattle.mc_ui.specs.Boxes.{first_refusal, with_news, with_refusal, with_waits}
use Rattle.mc_ui.specs.Findings.{find_refusal}
use Rattle.mc_ui.specs.ListedJobs.{left_by_jobs}
use Rattle.mc_ui.specs.Looks.{LooksAgain, shown_waits}
use Rattle.mc_ui.specs.PanelKeys.{panel_command_of, plain_base}
use Rattle.ui_viewer.specs.declared.act.ViewerAct.{ViewerAct}
use Rattle.ui_viewer.specs.declared.act.ViewerAct.TheVariants as viewer
use Rattle.ui_viewer.specs.declared.opening.Opening.{Opening}
use Rattle.ui_viewer.specs.declared.opening.Opening.TheVariants.{Viewed, NoWay, Unread}
use Rattle.ui_viewer.specs.Openings.{OpensThing}
use Rattle.ui_viewer.specs.ViewerScreens.{ViewerScreen, KeyLeads as ViewerKeyLeads}
use Rattle.mc_ui.specs.declared.viewing.Leaving.{Leaving}
use Rattle.mc_ui.specs.declared.viewing.Leaving.TheVariants as leaving
use Rattle.mc_ui.specs.declared.viewing.ViewedFile.{ViewedFile}
use Rattle.mc_ui.specs.Viewings.{goes_on, opening_refusals, told_by, viewed_path}

-- what a key asked for and is to be carried out: a job is to be begun, or to be
-- answered, or the session to end
pub data Planned : Type 0 where
  Begins : (plan : Job) → (background : Bool) → Planned
  Answers : (answer : Answer) → Planned
  Ends : Planned

-- the panels, HOME, the size of the screen, the second of the last key, the box and the message, the file
-- that is viewed, and what is to be carried out
pub record Screen : Type 0 where
  pub panels : PairState
  pub home : Option Route
  pub lines : ℕ
  pub columns : ℕ
  pub second : ℕ
  pub over : Box
  pub message : Option Message
  pub viewing : Option ViewedFile
  pub planned : Option Planned

-- a screen of this size as it opens
abbrev pub opened_screen : PairState → Option Route → ℕ → ℕ → ℕ → Screen
opened_screen panels home lines columns second =
    record {
      panels = panels;
      home = home;
      lines = lines;
      columns = columns;
      second = second;
      over = NoBox;
      message = None;
      viewing = None;
      planned = None;
    }

-- the screen with other panels, and at another second
abbrev pub with_panels : PairState → Screen → Screen
with_panels panels before = record before { panels = panels }

abbrev pub at_second : ℕ → Screen → Screen
at_second second before = record before { second = second }

-- the screen keeps its size
pub record HasSameSize (before after : Screen) : Type 0 where
  pub same_lines : after.lines ≡ before.lines
  pub same_columns : after.columns ≡ before.columns

-- how many items of a column are on the screen, and what the frame of the panels goes by
abbrev pub page_of : Screen → ℕ
page_of s = page_of_lines s.lines

abbrev pub frame_size : Screen → FrameSize
frame_size s = record { lines = s.lines; columns = s.columns; now = s.second }

-- a refusal comes up in a message, over what was there
abbrev pub told_refusal : Refusal → Screen → Screen
told_refusal refusal before = record before { message = Some (Refused refusal) }

-- THE PANELS

-- a command of the panels is done, as the folders that it reads are; nothing else changes
pub record IsDone (command : PanelCommand) (contents : Option CallLog) (before after : Screen) : Type 0 where
  pub done : CommandDone command (page_of before) before.panels after.panels
  pub read : IfKnown contents (λ log.
      CommandReads command log before.panels.current (Ok after.panels.current))
  pub rest : after ≡ with_panels after.panels before

-- or it is refused as the tree refuses it: the panels stay, and a message says so
pub record IsRefused (command : PanelCommand) (contents : Option CallLog) (refusals : List Refusal)
    (before after : Screen) : Type 0 where
  pub error : ResolveError
  pub why : IfKnown contents (λ log. CommandReads command log before.panels.current (Err error))
  pub memory : error ≢ resolve.Memory
  pub told : refusals ≡ Resolve error ∷ []
  pub stays : after ≡ told_refusal (Resolve error) before

-- what a command of the panels makes of the screen
abbrev pub Works : PanelCommand → Option CallLog → List Refusal → Screen → Screen → Type 0
Works command contents [] before after = IsDone command contents before after
Works command contents (refusal ∷ more) before after =
    IsRefused command contents (refusal ∷ more) before after

-- What a choice makes of the screen: the box is opened on the things, with the mode of the first; or a
-- message says that nothing is selected, that a path is too long, or why one of them can't be looked at.
abbrev pub after_choice : Opens → Choice → Screen → Screen
after_choice box choice.NoSelection before = told_refusal (Plan NoSelection) before
after_choice box choice.TooLong before = told_refusal (Plan TooLong) before
after_choice box (choice.Things chosen mode) before =
    record before { over = OneJobBox (box_of box chosen.paths mode) }
after_choice box (choice.Refused path e) before = told_refusal (Tree path e) before

-- the key that opens a box on what is selected in a panel does so by what choosing comes to
pub record Chooses (box : Opens) (tree : Option TreeView) (panel : PanelState) (refusals : List Refusal)
    (before after : Screen) : Type 0 where
  pub outcome : Choice
  pub chosen : IsChoice box tree panel outcome
  pub told : refusals ≡ choice_refusals outcome
  pub after_is : after ≡ after_choice box outcome before

-- things are sought from the current panel's folder on, hidden names as that panel has them,
-- patterns as they are read
abbrev pub find_asked : Screen → FindScreen
find_asked s =
    opened_find s.lines s.panels.current.folder s.home s.panels.patterns s.panels.current.wish.hidden

-- a file is viewed over all that stands there
abbrev pub with_viewer : ViewerScreen → Leaving → Screen → Screen
with_viewer page leaving before = record before { viewing = Some (record { mode = page; leaving = leaving }) }

-- what opening a thing makes of the screen; leaving it will come back to what stands there now
abbrev pub after_opening : Opening → Screen → Screen
after_opening (Viewed page) before = with_viewer page leaving.ToPanels before
after_opening (NoWay why) before = told_refusal (Resolve why) before
after_opening (Unread path why) before = told_refusal (Read path why) before

-- the thing of a name in a folder is viewed, or the one to which it leads as a link; or a
-- message says why it isn't
pub record ViewsThing (contents : Option CallLog) (folder : Route) (name : List ℕ) (refusals : List Refusal)
    (before after : Screen) : Type 0 where
  pub opening : Opening
  pub opens : OpensThing contents folder name before.lines before.columns opening
  pub told : refusals ≡ opening_refusals opening
  pub after_is : after ≡ after_opening opening before

-- without a name there is nothing to view
abbrev pub ViewsNamed : Option (List ℕ) → Option CallLog → List Refusal → Screen → Screen → Type 0
ViewsNamed (Some name) contents refusals before after =
    ViewsThing contents before.panels.current.folder name refusals before after
ViewsNamed None contents refusals before after = (refusals ≡ []) × (after ≡ before)

-- the key that views enters a folder as Enter does, and views all else
abbrev pub Views : Option CallLog → List Refusal → Screen → Screen → Type 0
Views contents refusals before after =
    MatchBool (goes_on (way_of before.panels.current)) (Works Enter contents refusals before after)
    (ViewsNamed (current_name before.panels.current) contents refusals before after)

-- what a key makes of the screen while no box is open
abbrev pub CommandLeads : KeyCommand → Option CallLog → List JobRow → List Refusal → Screen → Screen → Type 0
CommandLeads (Work command) contents rows refusals before after = Works command contents refusals before after
CommandLeads ShowHelp contents rows refusals before after =
    (refusals ≡ []) × (after ≡ record before { message = Some Help })
CommandLeads View contents rows refusals before after = Views contents refusals before after
CommandLeads (Open opens) contents rows refusals before after =
    Chooses opens (sight contents) before.panels.current refusals before after
CommandLeads AskFolder contents rows refusals before after =
    (refusals ≡ []) × (after ≡ record before { over = OneJobBox (FolderBox folder_line) })
CommandLeads (OpenPanelBox opening) contents rows refusals before after =
    (refusals ≡ []) × (after ≡ record before { over = PanelsBox (opened_panel_box before.lines opening) })
CommandLeads Find contents rows refusals before after =
    (refusals ≡ []) × (after ≡ record before { over = FindBox (find_asked before) })
CommandLeads Quit contents rows refusals before after =
    (refusals ≡ []) × (after ≡ record before { planned = Some Ends })
CommandLeads Nothing contents rows refusals before after = (refusals ≡ []) × (after ≡ before)

-- THE BOXES

abbrev pub without_box : Screen → Screen
without_box before = record before { over = NoBox }

-- the screen once a job is to be begun: nothing is tagged any more
abbrev pub screen_with_begun_job : Job → Screen → Screen
screen_with_begun_job plan before =
    record before { panels = untagged_pair before.panels; over = NoBox; planned = Some (Begins plan false) }

-- what a box of a job goes by on the screen, while these jobs are live
abbrev pub around : List JobRow → Screen → Around
around rows s =
    record { rows = rows; current = s.panels.current.folder; other = s.panels.other.folder; home = s.home }

-- What a box of a job came to, as a key left it: it stays, is shut, or another one stands in its place; its
-- job is to be begun, or to be answered; or that is refused, and it stays under a message.
abbrev pub JobFollows : JobReply → JobBoxState → List Refusal → Screen → Screen → Type 0
JobFollows job.Stays left refusals before after =
    (refusals ≡ []) × (after ≡ record before { over = OneJobBox left })
JobFollows job.Shuts left refusals before after = (refusals ≡ []) × (after ≡ without_box before)
JobFollows (job.Opens next) left refusals before after =
    (refusals ≡ []) × (after ≡ record before { over = OneJobBox (seen_job_box next) })
JobFollows (job.Begins plan) left refusals before after =
    (refusals ≡ []) × (after ≡ screen_with_begun_job plan before)
JobFollows (job.Answers answer) left refusals before after =
    (refusals ≡ []) × (after ≡ record before { over = NoBox; planned = Some (Answers answer) })
JobFollows (job.Refuses refusal) left refusals before after =
    (refusals ≡ refusal ∷ []) × (after ≡ told_refusal refusal before)

-- a key in a box of a job does what its table says
pub record JobLeads (asks : JobBoxState) (contents : Option CallLog) (rows : List JobRow) (key : Key)
    (refusals : List Refusal) (before after : Screen) : Type 0 where
  pub reply : JobReply
  pub leads : BoxLeads asks contents (around rows before) key reply
  pub follows : JobFollows reply (box_after asks key) refusals before after

-- The answer of a box of the panels, over the screen without it: it stays, is shut, or another one stands
-- in its place; or it is shut, and what it asked for is done to the panels, the live jobs are listed, or a
-- new link or a mode is asked for; or what was typed is refused, and it stays under a message.
abbrev pub PanelLeads : PanelReply → PanelBox → Option CallLog → List Refusal → Screen → Screen → Type 0
PanelLeads panel.Stays asks contents refusals cleared after =
    (refusals ≡ []) × (after ≡ record cleared { over = PanelsBox asks })
PanelLeads panel.Shuts asks contents refusals cleared after = (refusals ≡ []) × (after ≡ cleared)
PanelLeads (panel.Opens next) asks contents refusals cleared after =
    (refusals ≡ []) × (after ≡ record cleared { over = PanelsBox next })
PanelLeads (panel.Does command) asks contents refusals cleared after =
    Works command contents refusals cleared after
PanelLeads panel.ListsJobs asks contents refusals cleared after =
    (refusals ≡ []) × (after ≡ record cleared { over = JobsBox (opened_list cleared.lines) })
PanelLeads panel.AsksLink asks contents refusals cleared after =
    (refusals ≡ [])
    × (after ≡ record cleared { over = OneJobBox (LinkTextBox (link_asked cleared.panels.current)) })
PanelLeads panel.AsksMode asks contents refusals cleared after =
    Chooses opens.Mode (sight contents) cleared.panels.current refusals cleared after
PanelLeads (panel.Refuses error) asks contents refusals cleared after =
    (refusals ≡ Typed error ∷ [])
    × (after ≡ told_refusal (Typed error) (record cleared { over = PanelsBox asks }))

-- The current panel goes to a found path, and nothing is sought any more; or that is refused, and the
-- list stays under a message.
abbrev pub GoesToFound : Route → FindScreen → Option CallLog → List Refusal → Screen → Screen → Type 0
GoesToFound path sought contents [] cleared after = IsDone (GoTo path) contents cleared after
GoesToFound path sought contents (refusal ∷ more) cleared after =
    IsRefused (GoTo path) contents (refusal ∷ more) (record cleared { over = FindBox sought }) after

-- what a key came to while things are sought, over the screen without them: they are sought on, what was
-- typed is refused under a message, a found path is gone to, or they are left
abbrev pub FindFollows : FindAct → FindScreen → Option CallLog → List Refusal → Screen → Screen → Type 0
FindFollows found.Stays sought contents refusals cleared after =
    (refusals ≡ []) × (after ≡ record cleared { over = FindBox sought })
FindFollows (found.Refused why) sought contents refusals cleared after =
    (refusals ≡ find_refusal why ∷ [])
    × (after ≡ told_refusal (find_refusal why) (record cleared { over = FindBox sought }))
FindFollows (found.Goes path) sought contents refusals cleared after =
    GoesToFound path sought contents refusals cleared after
FindFollows found.Leaves sought contents refusals cleared after = (refusals ≡ []) × (after ≡ cleared)

-- a key while things are sought makes of them what their tables say
pub record FindLeads (find : FindScreen) (contents : Option CallLog) (key : Key) (refusals : List Refusal)
    (cleared after : Screen) : Type 0 where
  pub act : FindAct
  pub sought : FindScreen
  pub leads : FindKeyLeads contents key act find sought
  pub follows : FindFollows act sought contents refusals cleared after

-- a key without meta while a message is shown
abbrev pub after_message : Base → Screen → Screen
after_message base before = if closes_message base then record before { message = None } else before

-- THE VIEWER

-- leaving a viewed file comes back to what stands below, or asks for the end of the session, and
-- then the file stays in sight
abbrev pub after_leaving : Leaving → Screen → Screen
after_leaving leaving.ToPanels shown = record shown { viewing = None }
after_leaving leaving.Ends shown = record shown { planned = Some Ends }

-- the screen that shows the viewer as a key left it, by what the key came to
abbrev pub after_act : ViewerAct → Leaving → Screen → Screen
after_act viewer.Stays leaving shown = shown
after_act (viewer.Refused why) leaving shown = shown
after_act viewer.Leaves leaving shown = after_leaving leaving shown

-- a key while a file is viewed makes of the viewer what its tables say; what stands below stays
pub record ViewerLeads (viewed : ViewedFile) (contents : Option CallLog) (key : Key) (refusals : List Refusal)
    (before after : Screen) : Type 0 where
  pub act : ViewerAct
  pub page : ViewerScreen
  pub leads : ViewerKeyLeads contents key act viewed.mode page
  pub told : refusals ≡ told_by act (viewed_path viewed.mode.viewer.subject)
  pub after_is : after ≡ after_act act viewed.leaving (with_viewer page viewed.leaving before)

-- KEYS

-- what a key makes of the screen, by the box that is open, while these jobs are live
abbrev pub ByBox : Box → Option CallLog → List JobRow → Key → List Refusal → Screen → Screen → Type 0
ByBox NoBox contents rows key refusals before after =
    CommandLeads (panel_command_of key) contents rows refusals before after
ByBox (OneJobBox asks) contents rows key refusals before after =
    JobLeads asks contents rows key refusals before after
ByBox (PanelsBox asks) contents rows key refusals before after =
    PanelLeads (reply_to before.panels asks key) (panel_box_after asks key) contents refusals
    (without_box before) after
ByBox (FindBox find) contents rows key refusals before after =
    FindLeads find contents key refusals (without_box before) after
ByBox (JobsBox list) contents rows key refusals before after =
    (refusals ≡ []) × (after ≡ record before { over = left_by_jobs rows list key })

-- what a key makes of it while no file is viewed: a message takes it before the box below does
abbrev pub WorksBelow : Option CallLog → List JobRow → Key → List Refusal → Screen → Screen → Type 0
WorksBelow contents rows key refusals before after =
    MatchBool (is_some before.message) ((refusals ≡ []) × (after ≡ after_message (plain_base key) before))
    (ByBox before.over contents rows key refusals before after)

-- what a key makes of the screen: a file that is viewed takes it before all that stands below
abbrev pub ByViewing : Option ViewedFile → Option CallLog → List JobRow → Key → List Refusal → Screen
    → Screen → Type 0
ByViewing None contents rows key refusals before after = WorksBelow contents rows key refusals before after
ByViewing (Some viewed) contents rows key refusals before after =
    ViewerLeads viewed contents key refusals before after

abbrev pub WorksKey : Option CallLog → List JobRow → Key → List Refusal → Screen → Screen → Type 0
WorksKey contents rows key refusals before after =
    ByViewing before.viewing contents rows key refusals before after

-- and at which second that is
abbrev pub KeyLeads : Option CallLog → List JobRow → ℕ → Key → List Refusal → Screen → Screen → Type 0
KeyLeads contents rows now key refusals before after =
    WorksKey contents rows key refusals (at_second now before) after

-- LOOKS

-- a message tells of the first of some refusals
abbrev pub with_told : List Refusal → Screen → Screen
with_told refusals before = record before { message = with_refusal (first_refusal refusals) before.message }

-- the screen once a look has taken up what a job waits with, refusals and news, over these panels
abbrev pub looked_at : Option Waits → Option Message → List Refusal → PairState → Screen → Screen
looked_at waits news refusals panels before = record before {
  panels = panels;
  over = with_waits waits before.over;
  message = with_news news (with_refusal (first_refusal refusals) before.message);
}

-- What a look at a second of the clock makes of the screen: it takes up what the live job did. The panels
-- are read again after a job's end that was not taken up. The question or the trouble of a job that waits
-- gets its box; what was refused, and what is to be told of an end, a message.
pub record LookLeads (contents : Option CallLog) (rows : List JobRow) (now : ℕ) (has_unseen_end : Bool)
    (news : Option Message) (refusals : List Refusal) (before after : Screen) : Type 0 where
  pub panels : LooksAgain contents has_unseen_end (page_of before) refusals before.panels after.panels
  pub after_is : after ≡ looked_at (shown_waits rows) news refusals after.panels (at_second now before)

-- ASKS

-- A job is begun while none is live, and is one that can be worked; one that waits is answered as it may be.
abbrev pub WellAsked : List JobRow → Ask → Type 0
WellAsked rows (ask.Begin plan background) = (rows ≡ []) × (are_workable plan ≡ true)
WellAsked rows (ask.Answer answer) = can_answer rows answer ≡ true
WellAsked rows ask.Nothing = ⊤
WellAsked rows ask.End = ⊤

-- the caller is to carry out what is asked, and to tell what became of it
abbrev pub is_request : Ask → Bool
is_request (ask.Begin plan background) = true
is_request (ask.Answer answer) = true
is_request ask.Nothing = false
is_request ask.End = false

-- What a key asks can be done. Where it is a request the screen stays as it was, and nothing is refused.
pub record Asks (rows : List JobRow) (ask : Ask) (refusals : List Refusal)
    (before after : Screen) : Type 0 where
  pub asked : WellAsked rows ask
  pub stays : is_request ask ≡ true → after ≡ before
  pub alone : is_request ask ≡ true → refusals ≡ []

-- the screen once what a key asked is noted; the box that asked is shut
abbrev pub with_ask : Ask → Screen → Screen
with_ask (ask.Begin plan background) screen = record screen {
  panels = untagged_pair screen.panels;
  over = NoBox;
  planned = Some (Begins plan background);
}
with_ask (ask.Answer answer) screen = record screen { over = NoBox; planned = Some (Answers answer) }
with_ask ask.Nothing screen = screen
with_ask ask.End screen = record screen { planned = Some Ends }

-- the screen once it is told what became of that: where it was done, the box that asked is shut, and where
-- a job was begun nothing is tagged any more; a refusal gets its message
abbrev pub settled_screen : Told → Screen → Screen
settled_screen told.Nothing screen = screen
settled_screen told.Begun screen = record screen { panels = untagged_pair screen.panels; over = NoBox }
settled_screen told.Answered screen = without_box screen
settled_screen (told.Refused refusal) screen = told_refusal refusal screen
settled_screen told.Lost screen = screen
