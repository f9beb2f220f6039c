-- What a session puts on its terminal: each key that is worked, each look, and the steps of a search draw
-- the frame of what the screen then shows.
use Rattle.std.specs.Prelude.{◌≡◌, ◌⊎◌, ℕ, Bool, true, false, List, [], ◌∷◌}
use Rattle.std.specs.Prelude.{◌++◌, length, map, take, Option, Some, None}
use Rattle.tree_trait.specs.Answers.{IfKnown}
use Rattle.key_screen.specs.Grids.{CellGrid}
use Rattle.std.specs.Option.{option_map}
use Rattle.job_reports.specs.declared.job.Job.{Job}
use Rattle.job_reports.specs.declared.row.JobRow.{JobRow}
use Rattle.job_reports.specs.declared.row.JobState.TheVariants.{Ready}
use Rattle.session_entries.specs.declared.history.Entry.{Entry}
use Rattle.session_entries.specs.Sources.{sources_of}
use Rattle.session_entries.specs.declared.history.Event.{Event}
use Rattle.session_entries.specs.declared.history.Event.TheVariants.{Key, Look, Sought, Began}
use Rattle.session_entries.specs.declared.history.Event.TheVariants.{Order, Step, Next, Closed}
use Rattle.copy_move.specs.Jobs.{begun_work}
use Rattle.copy_move.specs.Told.{running}
use Rattle.mc_desk.specs.LiveRows.{rows_of}
use Rattle.mc_ui.specs.Screens.{Screen, Planned, Begins, Answers, Ends}
use Rattle.screen_draw.specs.Drawings.{BeginsClear, HasSizeOf, Shows}
use Rattle.screen_draw.specs.Sparse.{IsSparse}
use Rattle.mc_ui.specs.Frames.{frame_of}
use Rattle.mc_desk.specs.DeskDevices.{Put}

-- there is no entry yet
abbrev pub none_before : List Entry → Bool
none_before [] = true
none_before (e ∷ older) = false

-- After these bytes each terminal of a frame's size shows the frame, whatever it was given and
-- showed before, as a blank one.
abbrev pub ShowsOverAny : List ℕ → CellGrid → Type 0
ShowsOverAny bytes frame = (earlier : List ℕ) (was : CellGrid) → Shows earlier was → HasSizeOf was frame
    → Shows (earlier ++ bytes) frame

-- Bytes draw all of a frame: they clear the terminal first, and each shows the frame after these alone.
pub record DrawsAll (frame : CellGrid) (bytes : List ℕ) : Type 0 where
  pub clears : BeginsClear bytes
  pub shows : ShowsOverAny bytes frame

-- These bytes draw a frame behind what was put before: each terminal shows it then. Unless all is drawn
-- anew they write only what differs from the frame that each shows before them.
pub record DrawsBehind (is_anew : Bool) (before : List ℕ) (frame : CellGrid) (bytes : List ℕ) : Type 0 where
  pub shows : ShowsOverAny (before ++ bytes) frame
  pub all : is_anew ≡ true → DrawsAll frame bytes
  pub sparse : is_anew ≡ false
      → (was : CellGrid) × HasSizeOf was frame × ShowsOverAny before was × IsSparse was frame bytes

-- a drawing that ended: all of such bytes were put, and so many bytes are shown by now
pub record PutsFrame (is_anew : Bool) (frame : CellGrid) (shown : ℕ) (before after : Put) : Type 0 where
  pub whole : after.is_cut ≡ false
  pub bytes : IfKnown before.bytes (λ earlier. (drawn : List ℕ) × (after.bytes ≡ Some (earlier ++ drawn))
      × (shown ≡ length (earlier ++ drawn))
      × DrawsBehind is_anew earlier frame drawn)

-- a drawing that was cut short: nothing was put, or a prefix of such bytes; those of the
-- drawings that ended are shown
pub record CutsFrame (is_anew : Bool) (frame : CellGrid) (shown : ℕ) (before after : Put) : Type 0 where
  pub cut : after.is_cut ≡ true
  pub bytes : IfKnown before.bytes (λ earlier. (shown ≡ length earlier) × ((after.bytes ≡ Some earlier)
      ⊎ ((drawn : List ℕ) × (count : ℕ) × (after.bytes ≡ Some (earlier ++ take count drawn))
      × DrawsBehind is_anew earlier frame drawn)))

-- An entry that draws a frame: no drawing before it was cut short, and its own ended or was. A sink that
-- told nothing never does.
pub record DrawsFrame (is_anew : Bool) (frame : CellGrid) (shown : ℕ) (before after : Put) : Type 0 where
  pub uncut : before.is_cut ≡ false
  pub drawn : PutsFrame is_anew frame shown before after ⊎ CutsFrame is_anew frame shown before after
  pub untold : before.bytes ≡ None → after.bytes ≡ None

-- A lost key puts nothing, and its entry counts the bytes of the drawings before it,
-- none of which was cut short.
pub record PutsNothing (shown : ℕ) (before after : Put) : Type 0 where
  pub same : after ≡ before
  pub uncut : before.is_cut ≡ false
  pub counted : IfKnown before.bytes (λ bytes. shown ≡ length bytes)

-- what draws nothing puts nothing, and shows no bytes
pub record DrawsNothing (shown : ℕ) (before after : Put) : Type 0 where
  pub same : after ≡ before
  pub none : shown ≡ 0

-- A key that was worked, a look and the steps of a search draw their frame; nothing else puts anything.
abbrev pub EventDraws : Event → Bool → CellGrid → ℕ → Put → Put → Type 0
EventDraws (Key key now refusals false) is_anew frame shown before after =
    DrawsFrame is_anew frame shown before after
EventDraws (Key key now refusals true) is_anew frame shown before after = PutsNothing shown before after
EventDraws (Look refusals) is_anew frame shown before after = DrawsFrame is_anew frame shown before after
EventDraws Sought is_anew frame shown before after = DrawsFrame is_anew frame shown before after
EventDraws (Began id plan background) is_anew frame shown before after = DrawsNothing shown before after
EventDraws (Order id order) is_anew frame shown before after = DrawsNothing shown before after
EventDraws (Step id did) is_anew frame shown before after = DrawsNothing shown before after
EventDraws (Next id plan) is_anew frame shown before after = DrawsNothing shown before after
EventDraws Closed is_anew frame shown before after = DrawsNothing shown before after

-- the row of a job that was answered, and has a next step again
abbrev pub ready_row : JobRow → JobRow
ready_row row = record row { state = Ready; asked = None; trouble = None }

-- the row of a job that just begins
abbrev pub begun_rows : ℕ → Job → List JobRow
begun_rows id plan = rows_of (option_map (running id) (begun_work id (sources_of plan))) None

-- the rows of the live jobs once what was asked for is carried out: a job that is begun has the next
-- number, and is ready; one that is answered is ready again
abbrev pub rows_then : Option Planned → Option ℕ → List JobRow → List JobRow
rows_then None next rows = rows
rows_then (Some Ends) next rows = rows
rows_then (Some (Begins plan background)) None rows = rows
rows_then (Some (Begins plan background)) (Some id) rows = begun_rows id plan ++ rows
rows_then (Some (Answers answer)) next rows = map ready_row rows

-- the frame of a screen on which nothing waits to be carried out, while these jobs are live
abbrev pub frame_at : Screen → List JobRow → CellGrid
frame_at screen rows = frame_of (record screen { planned = None }) rows

-- the frame that an entry draws which leads to this screen
abbrev pub frame_due : Screen → Option ℕ → List JobRow → CellGrid
frame_due screen next rows = frame_at screen (rows_then screen.planned next rows)
