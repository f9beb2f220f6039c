-- What a terminal shows of all bytes that were put to it, before a drawing and after it. Own; the terminal
-- is that of `key_screen`.
use Rattle.std.specs.Prelude.{◌≡◌, ℕ, Bool, true, false, List, ◌++◌, length}
use Rattle.std.specs.Prelude.{take, Option, Some, Result, Ok, Err}
use Rattle.tree_trait.specs.declared.devices.SinkError.{SinkError}
use Rattle.key_screen.specs.Grids.{CellGrid}
use Rattle.key_screen.specs.Terminal.{screen_after}
use Rattle.screen_draw.specs.DrawnBytes.{clear}
use Rattle.screen_draw.specs.Sparse.{IsSparse}

-- a screen: the frame that was drawn last, and whether one was since nothing was known of the terminal
pub record Display : Type 0 where
  pub grid : CellGrid
  pub has_drawn : Bool

-- two screens have the same lines and columns
pub record HasSizeOf (screen frame : CellGrid) : Type 0 where
  pub lines : frame.lines ≡ screen.lines
  pub columns : frame.columns ≡ screen.columns

-- a terminal that was given these bytes shows this screen, and has read them all
abbrev pub Shows : List ℕ → CellGrid → Type 0
Shows given screen = screen_after screen.lines screen.columns given ≡ Ok screen

-- the terminal of a screen may show anything: at the start, and where others wrote on it
abbrev pub disturbed : Display → Display
disturbed display = record display { has_drawn = false }

-- bytes begin by making all cells blank
abbrev pub BeginsClear : List ℕ → Type 0
BeginsClear bytes = (rest : List ℕ) × (bytes ≡ clear ++ rest)

-- Bytes draw a frame. A terminal that shows the frame drawn before, whatever it was given, shows this one
-- after them; where none was drawn, a terminal that shows anything: all is cleared first. Where one was, they
-- are sparse.
pub record IsDrawing (display : Display) (frame : CellGrid) (bytes : List ℕ) : Type 0 where
  pub shows : (before : List ℕ) (was : CellGrid) → Shows before was → HasSizeOf was frame
      → (display.has_drawn ≡ true → was ≡ display.grid) → Shows (before ++ bytes) frame
  pub sparse : display.has_drawn ≡ true → IsSparse display.grid frame bytes
  pub cleared : display.has_drawn ≡ false → BeginsClear bytes

-- what a sink was given after a drawing: bytes that draw the frame, as many as are told; where it was
-- refused, a front of such bytes
abbrev pub HasDrawn : Display → CellGrid → List ℕ → Result ℕ SinkError → Option (List ℕ) → Type 0
HasDrawn display frame given (Ok count) new =
    (bytes : List ℕ) × (new ≡ Some (given ++ bytes)) × (length bytes ≡ count) × IsDrawing display frame bytes
HasDrawn display frame given (Err error) new =
    (bytes : List ℕ) × (count : ℕ) × (new ≡ Some (given ++ take count bytes)) × IsDrawing display frame bytes
