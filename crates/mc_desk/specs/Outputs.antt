-- What a session's terminal keeps: what was put to it, and the frame that it shows.
use Rattle.std.specs.Prelude.{◌≡◌, ℕ, ◌≤◌, Bool, true, false, not, ◌&&◌, List}
use Rattle.std.specs.Prelude.{[], length, Option, Result, OnOk, OnErr, Err}
use Rattle.tree_trait.specs.Answers.{HasRisen, IfKnown}
use Rattle.tree_trait.specs.declared.devices.SinkError.{SinkError}
use Rattle.tree_trait.specs.declared.devices.SinkError.TheVariants.{Fault}
use Rattle.key_screen.specs.Grids.{CellGrid}
use Rattle.mc_ui.specs.Screens.{Screen}
use Rattle.screen_draw.specs.Drawings.{Display, HasSizeOf}
use Rattle.mc_desk.specs.Shown.{DrawsFrame, ShowsOverAny}
use Rattle.mc_desk.specs.DeskDevices.{HasGiven, HasPutNothing, Put, put_since}

-- what was put, the frame drawn last, how many bytes the drawings that ended have put, and
-- whether the screen has failed
pub record Output : Type 0 where
  pub put : Put
  pub display : Display
  pub shown : ℕ
  pub failed : Bool

-- A screen that failed has counted it since the opening; the count doesn't fall.
abbrev pub Blames : Bool → ℕ → ℕ → Type 0
Blames false opening now = opening ≤ now
Blames true opening now = HasRisen opening now

-- What holds of a terminal: its sink was given what it was given before, and then what was put. Where no
-- drawing was cut short the bytes are counted, nothing was put before the first drawing, and after it the
-- frame that was drawn last is shown, whatever was shown before the session.
pub record IsTerminal (given given_now : Option (List ℕ)) (faults faults_now : ℕ)
    (out : Output) : Type 0 where
  pub blames : Blames out.failed faults faults_now
  pub puts : HasGiven given out.put.bytes given_now
  pub counted : out.put.is_cut ≡ false → IfKnown out.put.bytes (λ bytes. out.shown ≡ length bytes)
  pub first : out.put.is_cut ≡ false → out.display.has_drawn ≡ false
      → IfKnown out.put.bytes (λ bytes. bytes ≡ [])
  pub shows : out.put.is_cut ≡ false → out.display.has_drawn ≡ true
      → IfKnown out.put.bytes (λ bytes. ShowsOverAny bytes out.display.grid)

-- before a drawing of all nothing counts as drawn
abbrev pub prepared : Bool → Display → Display
prepared anew display = record display { has_drawn = not anew && display.has_drawn }

-- what a drawing, of all or of what differs, makes of a terminal: it shows the frame, or the drawing was cut
-- short and the frame drawn last stays
pub record ShowsFrame (anew : Bool) (frame : CellGrid) (result : Result (Unit {0}) SinkError)
    (before after : Output) : Type 0 where
  pub drawn : DrawsFrame (not (not anew && before.display.has_drawn)) frame after.shown before.put after.put
  pub whole : OnOk result ((after.put.is_cut ≡ false)
      × (after.display ≡ record { grid = frame; has_drawn = true }))
  pub cut : OnErr result ((after.put.is_cut ≡ true) × (after.display.grid ≡ before.display.grid))
  pub sized : HasSizeOf before.display.grid after.display.grid
  pub failed : result ≡ Err Fault → after.failed ≡ true

-- a grid has the lines and columns of the screen
pub record FitsScreen (grid : CellGrid) (screen : Screen) : Type 0 where
  pub lines : screen.lines ≡ grid.lines
  pub columns : screen.columns ≡ grid.columns

-- a terminal as it is seen, by what its sink was given before the session and by now
abbrev pub output_of : Option (List ℕ) → Option (List ℕ) → Display → ℕ → Bool → Bool → Output
output_of given given_now display shown failed is_cut =
    record {
      put = record { bytes = put_since given given_now; is_cut = is_cut };
      display = display;
      shown = shown;
      failed = failed;
    }

-- nothing was put yet
pub record IsFirstOutput (display : Display) (out : Output) : Type 0 where
  pub put : HasPutNothing out.put
  pub display_is : out.display ≡ display

-- all bytes that were put are counted
abbrev pub CountsAll : Output → Type 0
CountsAll out = IfKnown out.put.bytes (λ bytes. out.shown ≡ length bytes)

-- the frame that was drawn last is shown, if one was drawn
abbrev pub ShowsLast : Output → Type 0
ShowsLast out = out.display.has_drawn ≡ true
    → IfKnown out.put.bytes (λ bytes. ShowsOverAny bytes out.display.grid)
