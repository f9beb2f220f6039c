-- pieces written in parts, and the size of the screen that they are written on
use Rattle.std.proofs.Common.{◌≡◌, ◌+◌, ◌-◌, ℕ, take, Bool, true, false, if◌then◌else◌, ◌&&◌, List, [], ◌∷◌, ◌++◌, refl, ap, sym, ◌∙◌, add-one}
use Rattle.key_screen.specs.declared.cells.Attr.{Attr}
use Rattle.key_screen.specs.declared.cells.Attr.TheVariants.{Plain, Reverse}
use Rattle.key_screen.specs.Grids.{CellGrid, blank_grid, grid_with_text, written_at}
use Rattle.key_screen.specs.KeySpelling.{is_within}
use Rattle.screen_frame.specs.declared.panes.Pane.{Pane}
use Rattle.screen_frame.specs.declared.page.Run.{Run}
use Rattle.screen_frame.specs.declared.page.Page.{Page}
use Rattle.screen_frame.specs.Pieces.{Piece, painted_grid, fitted_at}
use Rattle.screen_frame.specs.Panes.{item_row, item_rows}
use Rattle.screen_frame.specs.Pages.{run_pieces, row_pieces, page_pieces}
use Rattle.screen_frame.specs.KeyBars.{bar_text}

pub painted_append : (grid : CellGrid) (first second : List Piece) → painted_grid grid (first ++ second) ≡ painted_grid (painted_grid grid first) second
painted_append grid [] second = refl
painted_append grid (piece ∷ first) second =
    painted_append (written_at grid piece.row piece.column piece.text piece.look) first second

-- one more row of items
pub item_rows_next : (grid : CellGrid) (column inside height : ℕ) (pane : Pane) (place : ℕ)
    → painted_grid grid (item_rows column inside height pane (place + 1))
    ≡ painted_grid (painted_grid grid (item_rows column inside height pane place)) (item_row column inside height pane place)
item_rows_next grid column inside height pane place =
    rw (add-one place) (painted_append grid (item_rows column inside height pane place) (item_row column inside height pane place))

-- one more row of a page
pub page_next : (grid new : CellGrid) (row : ℕ) (runs : List Run) (rows left : List (List Run)) → left ≡ runs ∷ rows
    → new ≡ painted_grid grid (run_pieces row runs) → painted_grid new (row_pieces (row + 1) rows) ≡ painted_grid grid (row_pieces row left)
page_next grid new row runs rows left is written_is =
    ap (λ g. painted_grid g (row_pieces (row + 1) rows)) written_is
    ∙ sym (painted_append grid (run_pieces row runs) (row_pieces (row + 1) rows))
    ∙ ap (λ l. painted_grid grid (row_pieces row l)) (sym is)

-- a whole page: its title, its rows, and the keys
pub written_page : (lines columns : ℕ) (page : Page) (grid titled filled new : CellGrid)
    → titled ≡ painted_grid grid (fitted_at 1 1 columns page.title Reverse ∷ [])
    → filled ≡ painted_grid titled (row_pieces 2 (take (lines - 2) page.rows))
    → new ≡ painted_grid filled (fitted_at lines 1 columns (bar_text page.bar) Plain ∷ [])
    → new ≡ painted_grid grid (page_pieces lines columns page)
written_page lines columns page grid titled filled new is_titled is_filled is_new =
    let rows = row_pieces 2 (take (lines - 2) page.rows) in
    let keys = fitted_at lines 1 columns (bar_text page.bar) Plain ∷ [] in
    is_new ∙ ap (λ g. painted_grid g keys) (is_filled ∙ ap (λ g. painted_grid g rows) is_titled)
    ∙ sym (painted_append (painted_grid grid (fitted_at 1 1 columns page.title Reverse ∷ [])) rows keys)

-- what is written leaves the size of a screen as it is
either_lines : (test : Bool) (one other : CellGrid) → one.lines ≡ other.lines → (if test then one else other).lines ≡ other.lines
either_lines true one other same = same
either_lines false one other same = refl

either_columns : (test : Bool) (one other : CellGrid) → one.columns ≡ other.columns → (if test then one else other).columns ≡ other.columns
either_columns true one other same = same
either_columns false one other same = refl

written_lines : (grid : CellGrid) (row column : ℕ) (text : List ℕ) (look : Attr) → (written_at grid row column text look).lines ≡ grid.lines
unfolding written_at
written_lines grid row column text look =
    either_lines (is_within 1 grid.lines row && is_within 1 grid.columns column) (grid_with_text grid row column text look) grid refl

written_columns : (grid : CellGrid) (row column : ℕ) (text : List ℕ) (look : Attr) → (written_at grid row column text look).columns ≡ grid.columns
unfolding written_at
written_columns grid row column text look =
    either_columns (is_within 1 grid.lines row && is_within 1 grid.columns column) (grid_with_text grid row column text look) grid refl

pub painted_lines : (grid : CellGrid) (pieces : List Piece) → (painted_grid grid pieces).lines ≡ grid.lines
painted_lines grid [] = refl
painted_lines grid (piece ∷ pieces) =
    painted_lines (written_at grid piece.row piece.column piece.text piece.look) pieces
    ∙ written_lines grid piece.row piece.column piece.text piece.look

pub painted_columns : (grid : CellGrid) (pieces : List Piece) → (painted_grid grid pieces).columns ≡ grid.columns
painted_columns grid [] = refl
painted_columns grid (piece ∷ pieces) =
    painted_columns (written_at grid piece.row piece.column piece.text piece.look) pieces
    ∙ written_columns grid piece.row piece.column piece.text piece.look

-- a frame has the size of the blank screen
pub frame_size : (lines columns : ℕ) (blank new : CellGrid) (pieces : List Piece) → blank ≡ blank_grid lines columns
    → new ≡ painted_grid blank pieces → (new.lines ≡ lines) × (new.columns ≡ columns)
frame_size lines columns blank new pieces is_blank is_new = (
  ap (λ g. g.lines) is_new ∙ painted_lines blank pieces ∙ ap (λ g. g.lines) is_blank,
  ap (λ g. g.columns) is_new ∙ painted_columns blank pieces ∙ ap (λ g. g.columns) is_blank,
)
