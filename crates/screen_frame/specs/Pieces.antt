-- What stands on a screen, as a list of texts that are written on it, one after the other. Own.
use Rattle.std.specs.Prelude.{ℕ, ◌+◌, ◌-◌, true, nat_le, if◌then◌else◌, List, [], ◌∷◌, ◌++◌, replicate}
use Rattle.std.specs.List.{concat}
use Rattle.unicode_segmentation.specs.Grapheme.{graphemes}
use Rattle.mc_text.specs.Fit.{columns_in, run_within, fitted_text}
use Rattle.mc_text.specs.Drawn.{drawn_text}
use Rattle.key_screen.specs.declared.cells.Attr.{Attr}
use Rattle.key_screen.specs.declared.cells.Attr.TheVariants.{Plain}
use Rattle.key_screen.specs.Grids.{CellGrid, written_at}
use Rattle.screen_frame.specs.declared.panes.ListingLine.{ListingLine}

-- a text, the row and column of its first cell, counted from 1, and how it looks
pub record Piece : Type 0 where
  pub row : ℕ
  pub column : ℕ
  pub text : List ℕ
  pub look : Attr

-- a screen on which pieces are written, one after the other
abbrev pub painted_grid : CellGrid → List Piece → CellGrid
painted_grid grid [] = grid
painted_grid grid (piece ∷ pieces) =
    painted_grid (written_at grid piece.row piece.column piece.text piece.look) pieces

-- a text as it stands
abbrev pub text_at : ℕ → ℕ → List ℕ → Attr → Piece
text_at row column text look = record { row = row; column = column; text = text; look = look }

-- a text as it is drawn, fitted to so many columns
abbrev pub fitted_at : ℕ → ℕ → ℕ → List ℕ → Attr → Piece
fitted_at row column room text look = text_at row column (fitted_text (drawn_text text) room) look

-- a text between walls, with so many columns inside: `|`, the text as it is drawn, fitted to these, and `|`
abbrev pub walled_pieces : ℕ → ℕ → ℕ → ListingLine → List Piece
walled_pieces row column inside item =
    text_at row column (124 ∷ []) Plain
    ∷ fitted_at row (column + 1) inside item.text item.look
    ∷ text_at row (column + 1 + inside) (124 ∷ []) Plain
    ∷ []

-- a line with so many columns inside: `+`, `-` in each of these, and `+`
abbrev pub edge : ℕ → List ℕ
edge inside = 43 ∷ (replicate inside 45 ++ 43 ∷ [])

-- a text cut as `fitted_text` cuts it, with no blanks behind it
abbrev pub cut_text : List ℕ → ℕ → List ℕ
cut_text text columns =
    if nat_le (columns_in text) columns then text
    else concat (run_within (columns - 1) (graphemes true text)) ++ 126 ∷ []
