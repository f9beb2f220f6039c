-- The frame of a page, as the viewer and the editor show it. Own.
use Rattle.std.specs.Prelude.{ℕ, ◌+◌, ◌-◌, List, [], ◌∷◌, ◌++◌, take}
use Rattle.key_screen.specs.declared.cells.Attr.TheVariants.{Plain, Reverse}
use Rattle.key_screen.specs.Grids.{CellGrid, blank_grid}
use Rattle.screen_frame.specs.declared.page.Run.{Run}
use Rattle.screen_frame.specs.declared.page.Page.{Page}
use Rattle.screen_frame.specs.Pieces.{Piece, text_at, fitted_at, painted_grid}
use Rattle.screen_frame.specs.KeyBars.{bar_text}

-- the runs of a row, each from its column on, one over the other; what passes the last column is dropped
abbrev pub run_pieces : ℕ → List Run → List Piece
run_pieces row [] = []
run_pieces row (run ∷ runs) = text_at row run.column run.text run.look ∷ run_pieces row runs

-- rows from this one on
abbrev pub row_pieces : ℕ → List (List Run) → List Piece
row_pieces row [] = []
row_pieces row (runs ∷ rows) = run_pieces row runs ++ row_pieces (row + 1) rows

-- what is written: in row 1 the title, in reverse, then the rows of the page, and in the last row the keys
abbrev pub page_pieces : ℕ → ℕ → Page → List Piece
page_pieces lines columns page =
    fitted_at 1 1 columns page.title Reverse
    ∷ (row_pieces 2 (take (lines - 2) page.rows)
    ++ fitted_at lines 1 columns (bar_text page.bar) Plain ∷ [])

-- a screen of so many lines and columns that shows a page
unfoldable pub page_frame : ℕ → ℕ → Page → CellGrid
page_frame lines columns page = painted_grid (blank_grid lines columns) (page_pieces lines columns page)
