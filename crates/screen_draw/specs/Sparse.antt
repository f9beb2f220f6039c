-- Bytes that draw no more than what differs.
use Rattle.std.specs.Prelude.{◌≡◌, ◌≢◌, ⊤, ℕ, List, [], ◌∷◌, drop, All, Option, Some, None, slice_get}
use Rattle.key_screen.specs.declared.control.Control.{Control}
use Rattle.key_screen.specs.declared.control.Control.TheVariants.{Clear, Look, Place}
use Rattle.key_screen.specs.declared.control.Sequence.{Sequence}
use Rattle.key_screen.specs.Controls.{control_of}
use Rattle.key_screen.specs.Grids.{CellGrid, IsOnGrid, place_of}
use Rattle.key_screen.specs.Terminal.{segments}

-- two screens differ in a cell of this row, counted from 1
pub record DifferInRow (was frame : CellGrid) (row : ℕ) : Type 0 where
  pub column : ℕ
  pub on_grid : IsOnGrid frame row column
  pub differ : slice_get was.cells (place_of frame row column)
      ≢ slice_get frame.cells (place_of frame row column)

-- a control clears nothing, and places only in a row in which the screens differ
abbrev pub MayControl : CellGrid → CellGrid → Control → Type 0
MayControl was frame Clear = ⊥
MayControl was frame (Look attr) = ⊤
MayControl was frame (Place row column) = DifferInRow was frame row

-- the same of what follows an escape, if a control does
abbrev pub MayFollow : CellGrid → CellGrid → Option Sequence → Type 0
MayFollow was frame None = ⊤
MayFollow was frame (Some sequence) = MayControl was frame sequence.control

-- what follows an escape begins with a placement
abbrev pub IsPlacing : Option Sequence → Type 0
IsPlacing None = ⊥
IsPlacing (Some sequence) = (row : ℕ) × (column : ℕ) × (sequence.control ≡ Place row column)

-- bytes, cut at their escapes, are none, or begin with a placement
abbrev pub BeginPlacing : List (List ℕ) → Type 0
BeginPlacing ([] ∷ []) = ⊤
BeginPlacing ([] ∷ (sequence ∷ sequences)) = IsPlacing (control_of sequence)
BeginPlacing other = ⊥

-- bytes lead from one screen to another, and draw no row in which the two agree; they
-- are none where all rows do
pub record IsSparse (was frame : CellGrid) (bytes : List ℕ) : Type 0 where
  pub begins : BeginPlacing (segments bytes)
  pub allowed : All (λ sequence. MayFollow was frame (control_of sequence)) (drop 1 (segments bytes))
  pub quiet : was ≡ frame → bytes ≡ []
