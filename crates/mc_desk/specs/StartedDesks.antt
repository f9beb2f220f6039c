-- What the start of a session comes to: the screen and the history of one that opens, and the
-- error of one that doesn't.
use Rattle.std.specs.Prelude.{◌≡◌, ◌≤◌, ℕ, [], Option, Result, Ok, Err}
use Rattle.mc_text.specs.Routes.{Route}
use Rattle.tree_trait.specs.declared.file_system.FileSystem.{FileSystem}
use Rattle.tree_trait.specs.declared.calls.TreeError.{TreeError}
use Rattle.tree_trait.specs.Change.{CallLog}
use Rattle.resolving.specs.declared.error.ResolveError.{ResolveError}
use Rattle.resolving.specs.declared.error.ResolveError.TheVariants as resolve
use Rattle.resolving.specs.Errors.{refused_by}
use Rattle.panel_pair.specs.declared.side.Side.{Side}
use Rattle.panel_pair.specs.declared.side.Side.TheVariants.{Left, Right}
use Rattle.mc_ui.specs.Screens.{Screen}
use Rattle.mc_desk.specs.declared.starts.StartError.{StartError}
use Rattle.mc_desk.specs.declared.starts.StartError.TheVariants.{Resolve, Memory}
use Rattle.session_log.specs.Logs.{Logged}
use Rattle.ui_viewer.specs.declared.opening.Opening.{Opening}
use Rattle.ui_viewer.specs.declared.opening.Opening.TheVariants.{Viewed, NoWay, Unread}
use Rattle.mc_desk.specs.Sessions.{IsOpening, viewing_alone}
use Rattle.mc_desk.specs.declared.starts.Start.{Start}
use Rattle.mc_desk.specs.declared.starts.StartMode.{StartMode}
use Rattle.mc_desk.specs.declared.starts.StartPlace.{StartPlace}
use Rattle.mc_desk.specs.declared.starts.StartPlace.TheVariants as place
use Rattle.mc_desk.specs.Starts.{CanStart, IsStartCause}

-- a screen on which nothing happened yet, and a history with nothing in it
pub record IsOpened (contents : Option CallLog) (start : Start) (screen : Screen)
    (log : Logged) : Type 0 where
  pub opening : IsOpening contents start screen
  pub empty : log.newest ≡ []
  pub room : 1 ≤ log.spare

-- it starts only where its paths lead to what can be listed, or read
abbrev pub Starts : {A : Type 0} → FileSystem → StartMode → Result A StartError → Type 0
Starts s mode (Ok opened) = CanStart s mode
Starts s mode (Err error) = IsStartCause s mode error

-- the place of a panel's path
abbrev pub place_of : Side → StartPlace
place_of Left = place.Left
place_of Right = place.Right

-- why a session doesn't start where a path was refused so
abbrev pub start_error : StartPlace → ResolveError → StartError
start_error at resolve.Memory = Memory
start_error at resolve.Fault = Resolve at resolve.Fault
start_error at (resolve.Tree path e) = Resolve at (resolve.Tree path e)
start_error at resolve.TooManyLinks = Resolve at resolve.TooManyLinks
start_error at resolve.TooLong = Resolve at resolve.TooLong
start_error at resolve.BadName = Resolve at resolve.BadName

-- the same where what lies at a path can't be read
abbrev pub unread_error : Route → TreeError → StartError
unread_error path e = start_error place.File (refused_by path e)

-- a session in which a file is viewed alone, by what opening that came to
abbrev pub viewed_alone : Opening → Option Route → ℕ → ℕ → ℕ → Result Screen StartError
viewed_alone (Viewed viewer) home lines columns second = Ok (viewing_alone viewer home lines columns second)
viewed_alone (NoWay e) home lines columns second = Err (start_error place.File e)
viewed_alone (Unread path e) home lines columns second = Err (unread_error path e)
