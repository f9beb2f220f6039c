-- A screen of cells, and what a text that is written on it makes of it.
use Rattle.std.specs.Prelude.{ℕ, ◌+◌, ◌-◌, ◌*◌, ◌≤◌, true, ◌&&◌, if◌then◌else◌}
use Rattle.std.specs.Prelude.{List, [], ◌∷◌, ◌++◌, drop, map, replicate, take}
use Rattle.unicode_segmentation.specs.Grapheme.{graphemes}
use Rattle.key_screen.specs.declared.cells.Attr.{Attr}
use Rattle.key_screen.specs.declared.cells.Glyph.{Glyph}
use Rattle.key_screen.specs.declared.cells.Glyph.TheVariants.{Blank, Cluster, RightHalf}
use Rattle.key_screen.specs.declared.cells.Cell.{Cell}
use Rattle.key_screen.specs.Cells.{blank_cell}
use Rattle.key_screen.specs.DrawnText.{drawn_glyph, put_glyphs}
use Rattle.key_screen.specs.KeySpelling.{is_within}

-- the cells of a screen, row by row from the top, each row from the left
pub record CellGrid : Type 0 where
  pub lines : ℕ
  pub columns : ℕ
  pub cells : List Cell

-- a screen of blank and plain cells
abbrev pub blank_grid : ℕ → ℕ → CellGrid
blank_grid lines columns =
    record { lines = lines; columns = columns; cells = replicate (lines * columns) blank_cell }

-- a row and a column, counted from 1, lie on a screen
pub record IsOnGrid (grid : CellGrid) (row column : ℕ) : Type 0 where
  pub from_row : 1 ≤ row
  pub to_row : row ≤ grid.lines
  pub from_column : 1 ≤ column
  pub to_column : column ≤ grid.columns

-- the place of a cell in the list of all
abbrev pub place_of : CellGrid → ℕ → ℕ → ℕ
place_of grid row column = (row - 1) * grid.columns + (column - 1)

-- how many columns a row has from this one on
abbrev pub room_from : CellGrid → ℕ → ℕ
room_from grid column = grid.columns - (column - 1)

-- a text is written from a cell on; what passes the last column is dropped
abbrev pub grid_with_text : CellGrid → ℕ → ℕ → List ℕ → Attr → CellGrid
grid_with_text grid row column text attr =
    record grid {
      cells = put_glyphs grid.cells (place_of grid row column) (room_from grid column)
          (map drawn_glyph (graphemes true text)) attr;
    }

-- a text is written from a cell on, where that lies on the screen
unfoldable pub written_at : CellGrid → ℕ → ℕ → List ℕ → Attr → CellGrid
written_at grid row column text attr =
    if is_within 1 grid.lines row && is_within 1 grid.columns column
    then grid_with_text grid row column text attr else grid

-- the cells of a row, counted from 1
abbrev pub row_cells : CellGrid → ℕ → List Cell
row_cells grid row = take grid.columns (drop ((row - 1) * grid.columns) grid.cells)

-- what is read in cells: a blank in each blank one, and each cluster once
abbrev pub glyph_text : Glyph → List ℕ
glyph_text Blank = 32 ∷ []
glyph_text (Cluster cluster) = cluster
glyph_text RightHalf = []

abbrev pub cells_text : List Cell → List ℕ
cells_text [] = []
cells_text (cell ∷ cells) = glyph_text cell.glyph ++ cells_text cells
