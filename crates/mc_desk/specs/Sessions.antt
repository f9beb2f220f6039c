-- A session, as its history tells it: each entry follows from those before it, and from the tree as it
-- stands then. Histories stand newest first here.
use Rattle.std.specs.Prelude.{◌≡◌, ◌⊎◌, ℕ, ◌+◌, ◌≤◌, Bool, true, false, ⊤, if◌then◌else◌}
use Rattle.std.specs.Prelude.{List, [], ◌∷◌, Option, Some, None, IsSome, Ok}
use Rattle.mc_text.specs.Routes.{Route, path_text}
use Rattle.tree_trait.specs.Change.{CallLog}
use Rattle.tree_trait.specs.Answers.{HasRisen, IfKnown}
use Rattle.key_screen.specs.declared.keys.Key.{Key as KeyType}
use Rattle.job_reports.specs.declared.answer.Answer.{Answer}
use Rattle.job_reports.specs.declared.job.Job.{Job}
use Rattle.job_reports.specs.declared.row.JobRow.{JobRow}
use Rattle.session_entries.specs.declared.history.Event.{Event}
use Rattle.session_entries.specs.declared.history.Event.TheVariants.{Key, Look, Sought, Began}
use Rattle.session_entries.specs.declared.history.Event.TheVariants.{Order, Step, Next, Closed}
use Rattle.session_entries.specs.declared.history.JobOrder.TheVariants.{Answered}
use Rattle.session_entries.specs.declared.history.Entry.{Entry}
use Rattle.job_reports.specs.declared.report.Did.{Did}
use Rattle.copy_move.specs.Jobs.{Running}
use Rattle.copy_move.specs.Faults.{MeetsFault}
use Rattle.copy_move.specs.Told.{IsAllowedStep, MayTurn}
use Rattle.session_entries.specs.Refusals.{AreRefused}
use Rattle.session_entries.specs.Entries.{calls_in, last_id}
use Rattle.session_entries.specs.Sources.{are_workable}
use Rattle.session_entries.specs.SourcesLeft.{IsInTurn, sources_left}
use Rattle.laws_sessions.specs.Traces.{Follows, Stand, at_rest, nothing_live}
use Rattle.ui_words.specs.declared.message.Message.{Message}
use Rattle.ui_plans.specs.Refused.{has_fault}
use Rattle.ui_job_boxes.specs.LiveJobs.{takes_answer}
use Rattle.mc_ui.specs.Screens.{Screen, Planned, Begins, Answers, Ends, LookLeads, opened_screen, with_viewer}
use Rattle.mc_ui.specs.Seekings.{is_seeking}
use Rattle.ui_find.specs.FindKeys.{stop_key}
use Rattle.mc_ui.specs.declared.viewing.Leaving.TheVariants as leaving
use Rattle.panel_pair.specs.Openings.{OpensBoth}
use Rattle.panel_pair.specs.Pairs.{PairState, opened_pair, unread_pair}
use Rattle.ui_viewer.specs.declared.opening.Opening.TheVariants.{Viewed}
use Rattle.ui_viewer.specs.Openings.{OpensThing}
use Rattle.ui_viewer.specs.ViewerScreens.{ViewerScreen}
use Rattle.mc_desk.specs.declared.starts.Start.{Start}
use Rattle.mc_desk.specs.declared.starts.StartMode.{StartMode}
use Rattle.mc_desk.specs.declared.starts.StartMode.TheVariants.{Panels, View}
use Rattle.mc_desk.specs.Granting.{KeyWorks}
use Rattle.mc_desk.specs.LiveRows.{rows_told}
use Rattle.mc_desk.specs.Searches.{EventSeeks}
use Rattle.mc_desk.specs.Redrawing.{draws_anew}
use Rattle.mc_desk.specs.Shown.{EventDraws, frame_due}
use Rattle.mc_desk.specs.DeskDevices.{HasPutNothing, Put}
use Rattle.session_log.specs.Told.{news_left}
use Rattle.mc_desk.specs.Tallies.{Tally, tally, most_calls, next_id}
use Rattle.mc_desk.specs.KeysAndFaults.{faults_in}

-- while a search goes on no key is worked but C-c, which stops it
abbrev pub MayWork : KeyType → Screen → Type 0
MayWork key screen = is_seeking screen ≡ true → key ≡ stop_key

-- No key is worked in a closed session, where something is to be looked at, or after one was lost, and
-- none but C-c while a search goes on.
pub record TakesKey (t : Tally) (key : KeyType) (screen : Screen) : Type 0 where
  pub unclosed : t.closed ≡ false
  pub looked : t.due ≡ None
  pub sought : MayWork key screen
  pub unlost : t.lost ≡ false

-- How a session stands before an entry: what the tree holds, where it tells that, what the history came to,
-- the rows of its live jobs, what is to be told of the last end, and the screen.
pub record Before : Type 0 where
  pub contents : Option CallLog
  pub tally : Tally
  pub rows : List JobRow
  pub news : Option Message
  pub screen : Screen

-- Directly after the key that confirmed a job, and nowhere else, it is begun as it was planned, while no
-- other is live, under the next number.
pub record IsBegun (was : Before) (id : ℕ) (plan : Job) (background : Bool) (after : Screen) : Type 0 where
  pub asked : was.screen.planned ≡ Some (Begins plan background)
  pub idle : was.rows ≡ []
  pub workable : are_workable plan ≡ true
  pub number : next_id was.tally.last ≡ Some id
  pub carried_out : after ≡ record was.screen { planned = None }

-- directly after the key that answers it the live job is ordered so, as it may be
pub record IsOrdered (was : Before) (id : ℕ) (answer : Answer) (after : Screen) : Type 0 where
  pub asked : was.screen.planned ≡ Some (Answers answer)
  pub row : JobRow
  pub live : was.rows ≡ row ∷ []
  pub number : id ≡ row.job
  pub fits : takes_answer row answer ≡ true
  pub carried_out : after ≡ record was.screen { planned = None }

-- What an event makes of the screen. A key that was lost is told without a refusal, and makes nothing. A
-- look comes only where one is due: the first, which draws the opening frame, and after it one of the job
-- that was begun or answered. It takes up a job's end, and tells what there is to tell of it, and shows the
-- question or the trouble of the live job as its newest report told it; its second is one of its own, which
-- the clock said and no entry tells. A search goes on only where nothing
-- is due (what its steps make of the screen, `EventSeeks` says). A step is one that the live job may make,
-- and it goes on with a next source where it might report that it is finished.
abbrev pub EventLeads : Before → Event → Screen → Type 0
EventLeads was (Key key now refusals true) after =
    TakesKey was.tally key was.screen × (refusals ≡ []) × (after ≡ was.screen)
EventLeads was (Key key now refusals false) after = TakesKey was.tally key was.screen
    × KeyWorks was.contents was.rows (next_id was.tally.last) now key refusals was.screen after
EventLeads was (Look refusals) after =
    (was.tally.closed ≡ false) × IsSome was.tally.due
    × ((second : ℕ)
    × LookLeads was.contents was.rows second was.tally.has_unseen_end was.news refusals was.screen after)
EventLeads was Sought after =
    (was.tally.closed ≡ false) × (was.tally.due ≡ None) × (is_seeking was.screen ≡ true)
EventLeads was (Began id plan background) after = IsBegun was id plan background after
EventLeads was (Order id (Answered answer)) after = IsOrdered was id answer after
EventLeads was (Step id did) after =
    (after ≡ was.screen)
    × ((live : Running) × (was.tally.job ≡ Some live) × (id ≡ live.id) × IsAllowedStep live did)
EventLeads was (Next id plan) after =
    (after ≡ was.screen)
    × ((live : Running) × (was.tally.job ≡ Some live) × (id ≡ live.id) × MayTurn live plan)
EventLeads was Closed after = after ≡ was.screen

-- the report of the live job tells of a fault of the tree: also where it goes on, and
-- passes over something for one
abbrev pub StepFault : Option Running → Did → Type 0
StepFault None did = ⊥
StepFault (Some live) did = MeetsFault live.course did

-- an event tells of a fault of the tree, where this job is live
abbrev pub TellsFault : Option Running → Event → Type 0
TellsFault job (Key key now refusals lost) = has_fault refusals ≡ true
TellsFault job (Look refusals) = has_fault refusals ≡ true
TellsFault job Sought = ⊥
TellsFault job (Began id plan background) = ⊥
TellsFault job (Order id order) = ⊥
TellsFault job (Step id did) = StepFault job did
TellsFault job (Next id plan) = ⊥
TellsFault job Closed = ⊥

-- nothing that was asked for waits to be carried out, but the end of the session
abbrev pub MayEnd : Option Planned → Type 0
MayEnd planned = (planned ≡ None) ⊎ (planned ≡ Some Ends)

-- What was asked for is carried out before anything else is done. Once the end was asked for, only
-- steps and the closing follow.
abbrev pub IsTimely : Event → Screen → Type 0
IsTimely (Key key now refusals lost) before = before.planned ≡ None
IsTimely (Look refusals) before = before.planned ≡ None
IsTimely Sought before = before.planned ≡ None
IsTimely (Began id plan background) before = ⊤
IsTimely (Order id order) before = ⊤
IsTimely (Step id did) before = MayEnd before.planned
IsTimely (Next id plan) before = MayEnd before.planned
IsTimely Closed before = MayEnd before.planned

-- The counts of an entry. It is the main thread's, since there is no other yet. The tree's faults don't
-- fall, and rise where the entry tells of one. Only a step makes changing calls, and at most three.
pub record Counts (failed made : ℕ) (job : Option Running) (e : Entry) : Type 0 where
  pub seat : e.seat ≡ 0
  pub later : failed ≤ e.faults
  pub fault : TellsFault job e.what → HasRisen failed e.faults
  pub calls : made ≤ e.calls
  pub most : e.calls ≤ made + most_calls e.what

-- What a key and a look were refused has its cause in the tree.
abbrev pub HasCauses : Event → CallLog → Type 0
HasCauses (Key key now refusals lost) log = AreRefused log refusals
HasCauses (Look refusals) log = AreRefused log refusals
HasCauses Sought log = ⊤
HasCauses (Began id plan background) log = ⊤
HasCauses (Order id order) log = ⊤
HasCauses (Step id did) log = ⊤
HasCauses (Next id plan) log = ⊤
HasCauses Closed log = ⊤

-- What an entry says of the tree, where it tells what it holds: it goes on telling, and the entry leads
-- from the log and from where the session stood to these. A tree that told nothing never does.
abbrev pub Traces : Option CallLog → Entry → List Entry → Stand → Option CallLog → Stand
    → Option CallLog → Type 0
Traces None e older was before stand contents = contents ≡ None
Traces (Some opening) e older was before stand contents =
    (log : CallLog) × (now : CallLog) × (before ≡ Some log) × (contents ≡ Some now)
    × Follows opening e older was log stand now

-- how a session stands after these entries
abbrev pub before_entry : Option CallLog → List Entry → Screen → Before
before_entry contents older screen = record {
  contents = contents;
  tally = tally older;
  rows = rows_told older;
  news = news_left older;
  screen = screen;
}

-- what a session has come to: the screen, the live jobs with the dirty folders, what the tree holds, where
-- it tells that, and what was put to the terminal
pub record SessionState : Type 0 where
  pub screen : Screen
  pub stand : Stand
  pub contents : Option CallLog
  pub put : Put

-- An entry after older ones leads from what these came to. The sources of a job are worked in the order of
-- its plan, and it is told to be finished only where none is left.
pub record Enters (opening : Option CallLog) (faults : ℕ) (e : Entry) (older : List Entry)
    (was now : SessionState) : Type 0 where
  pub timely : IsTimely e.what was.screen
  pub turn : IsInTurn e.what (sources_left older)
  pub counts : Counts (faults_in faults older) (calls_in older) (let t : Tally = tally older in t.job) e
  pub leads : EventLeads (before_entry was.contents older was.screen) e.what now.screen
  pub sought : EventSeeks e.what was.contents (faults_in faults older) e.faults was.screen now.screen
  pub caused : IfKnown was.contents (HasCauses e.what)
  pub traced : Traces opening e older was.stand was.contents now.stand now.contents
  pub draws : EventDraws e.what (draws_anew e.what older)
      (frame_due now.screen (next_id (last_id older)) (rows_told older)) e.shown was.put now.put

-- panels that were just opened
abbrev pub just_opened : PairState → PairState
just_opened pair = opened_pair pair.current.folder pair.other.folder pair.current.listing pair.other.listing

-- Each panel shows the folder to which its path leads, as it was read; the left one is current, and the
-- screen has nothing else.
pub record OpensPanels (contents : Option CallLog) (left right : Route) (home : Option Route)
    (lines columns : ℕ) (screen : Screen) : Type 0 where
  pub shows : IfKnown contents (λ log. OpensBoth log left right (Ok screen.panels))
  pub opened : screen ≡ opened_screen (just_opened screen.panels) home lines columns screen.second

-- a screen on which a file is viewed alone: leaving the viewer ends the session, and no panel was read
abbrev pub viewing_alone : ViewerScreen → Option Route → ℕ → ℕ → ℕ → Screen
viewing_alone viewer home lines columns second =
    with_viewer viewer leaving.Ends (opened_screen unread_pair home lines columns second)

-- the file to which a path leads, along links, is viewed alone from its top, as it was read
pub record OpensViewer (contents : Option CallLog) (path : Route) (home : Option Route) (lines columns : ℕ)
    (screen : Screen) : Type 0 where
  pub viewer : ViewerScreen
  pub shows : OpensThing contents [] (path_text path) lines columns (Viewed viewer)
  pub opened : screen ≡ viewing_alone viewer home lines columns screen.second

-- how a screen of this size opens, by what the session starts with; it knows HOME
abbrev pub IsOpeningIn : StartMode → Option CallLog → Option Route → ℕ → ℕ → Screen → Type 0
IsOpeningIn (Panels left right) contents home lines columns screen =
    OpensPanels contents left right home lines columns screen
IsOpeningIn (View path) contents home lines columns screen =
    OpensViewer contents path home lines columns screen

abbrev pub IsOpening : Option CallLog → Start → Screen → Type 0
IsOpening contents start screen = IsOpeningIn start.mode contents start.home start.lines start.columns screen

-- the session begins as was named, where that is known
abbrev pub BeginsIn : Option Start → Start → Type 0
BeginsIn named start = IfKnown named (λ known. known ≡ start)

-- a session that has just begun so, over a tree with these contents
pub record IsBeginning (named : Option Start) (opening : Option CallLog) (now : SessionState) : Type 0 where
  pub start : Start
  pub begins : BeginsIn named start
  pub opened : IsOpening opening start now.screen
  pub idle : now.stand ≡ nothing_live
  pub same : now.contents ≡ opening
  pub blank : HasPutNothing now.put

-- These entries are a session that began so, over a tree that had these contents then, and had failed so
-- often; and it has come to this.
abbrev pub IsSession : Option Start → Option CallLog → ℕ → List Entry → SessionState → Type 0
IsSession start opening faults [] now = IsBeginning start opening now
IsSession start opening faults (e ∷ older) now =
    (was : SessionState) × IsSession start opening faults older was × Enters opening faults e older was now

-- These entries are a session that began so, no job is live at its end, and nothing that was asked for was
-- left undone. Whether the end was asked for, its screen has noted.
abbrev pub EndsSession : Option Start → Option CallLog → ℕ → List Entry → Option CallLog → Put → Bool → Type 0
EndsSession start opening faults newest contents put asked =
    (screen : Screen) × (dirty : List Route) × (screen.planned ≡ (if asked then Some Ends else None))
    × IsSession start opening faults newest (record {
      screen = screen;
      stand = at_rest dirty;
      contents = contents;
      put = put;
    })
