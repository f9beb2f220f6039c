-- The order that the cells of a screen keep. Own: xterm keeps the same one of the
-- characters that take two columns.
use Rattle.std.specs.Prelude.{◌≡◌, ⊤, ℕ, ◌*◌, Bool, false, ◌==◌, if◌then◌else◌}
use Rattle.std.specs.Prelude.{List, [], ◌∷◌, Option, Some, None}
use Rattle.key_screen.specs.declared.cells.Attr.{Attr}
use Rattle.key_screen.specs.declared.cells.Glyph.{Glyph}
use Rattle.key_screen.specs.declared.cells.Glyph.TheVariants.{Blank, Cluster, RightHalf}
use Rattle.key_screen.specs.declared.cells.Cell.{Cell}
use Rattle.key_screen.specs.Cells.{right_half_at}
use Rattle.key_screen.specs.DrawnText.{cluster_columns, drawn_glyph}

-- a glyph is a cluster of two columns
abbrev pub is_wide : Glyph → Bool
is_wide (Cluster cluster) = cluster_columns cluster == 2
is_wide glyph = false

-- a glyph is a blank, or a cluster that is drawn as it is
abbrev pub IsDrawn : Glyph → Type 0
IsDrawn Blank = ⊤
IsDrawn (Cluster cluster) = drawn_glyph cluster ≡ Cluster cluster
IsDrawn RightHalf = ⊥

-- how the right half that stands behind a cell looks, if one has to stand there
abbrev pub half_behind : Cell → Option Attr
half_behind cell = if is_wide cell.glyph then Some cell.attr else None

-- a right half stands directly behind each wide cluster, looks as it does, and stands nowhere else; the
-- first cell is the right half of what stands before it where `half` says how it looks
abbrev pub AreLaid : Option Attr → List Cell → Type 0
AreLaid None [] = ⊤
AreLaid (Some attr) [] = ⊥
AreLaid None (cell ∷ cells) = IsDrawn cell.glyph × AreLaid (half_behind cell) cells
AreLaid (Some attr) (cell ∷ cells) = (cell ≡ record { glyph = RightHalf; attr = attr }) × AreLaid None cells

-- the cells of rows of so many columns: no wide cluster runs over the end of its row
pub record IsLaidOut (columns : ℕ) (cells : List Cell) : Type 0 where
  pub halves : AreLaid None cells
  pub row_starts : (row : ℕ) → right_half_at cells (row * columns) ≡ false

-- a place is the end of a row
abbrev pub IsRowEnd : ℕ → ℕ → Type 0
IsRowEnd columns end = (rows : ℕ) × (end ≡ rows * columns)
