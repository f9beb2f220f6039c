-- What a panel shows, row by row. A pane has so many columns inside its walls; its left wall
-- stands in `column`. Own.
use Rattle.std.specs.Prelude.{ℕ, zero, suc, ◌+◌, ◌-◌, ◌/◌, ◌==◌, if◌then◌else◌}
use Rattle.std.specs.Prelude.{List, [], ◌∷◌, ◌++◌, length, get_or, codes}
use Rattle.std.specs.Fmt.{decimal}
use Rattle.mc_text.specs.Drawn.{drawn_text}
use Rattle.key_screen.specs.declared.cells.Attr.{Attr}
use Rattle.key_screen.specs.declared.cells.Attr.TheVariants.{Plain, Reverse}
use Rattle.screen_frame.specs.declared.panes.ListingLine.{ListingLine}
use Rattle.screen_frame.specs.declared.panes.Pane.{Pane}
use Rattle.screen_frame.specs.declared.panes.Shape.{Shape}
use Rattle.screen_frame.specs.declared.panes.Shape.TheVariants.{Full, Brief}
use Rattle.screen_frame.specs.declared.panes.Panes.{Panes}
use Rattle.screen_frame.specs.declared.panes.Panes.TheVariants.{Both, Whole}
use Rattle.screen_frame.specs.Pieces.{Piece, text_at, fitted_at, walled_pieces, edge, cut_text}

-- the first line of the current panel is in reverse
abbrev pub title_look : Pane → Attr
title_look pane = if pane.is_current then Reverse else Plain

-- row 1: `+`, the drawn title, cut as `fitted` does, `-` in the columns that are left, and `+`
abbrev pub title_row : ℕ → ℕ → Pane → List Piece
title_row column inside pane =
    text_at 1 column (edge inside) (title_look pane)
    ∷ text_at 1 (column + 1) (cut_text (drawn_text pane.title) inside) (title_look pane)
    ∷ []

-- a row of one item between walls, or of two: the first has half of what a third wall leaves, rounded down
abbrev pub items_in_row : Shape → ℕ → ℕ → ℕ → ListingLine → ListingLine → List Piece
items_in_row Full row column inside first second = walled_pieces row column inside first
items_in_row Brief row column inside first second =
    walled_pieces row column ((inside - 1) / 2) first
    ++ walled_pieces row (column + 1 + (inside - 1) / 2) (inside - 1 - (inside - 1) / 2) second

-- an item that isn't there is blank
abbrev pub no_item : ListingLine
no_item = record { text = []; look = Plain }

-- row 2: the heading of each column
abbrev pub heading_row : ℕ → ℕ → Pane → List Piece
heading_row column inside pane =
    items_in_row pane.shape 2 column inside (record { text = pane.heading; look = Plain })
    (record { text = pane.heading; look = Plain })

-- The rows from 3 on, so many of `height`. Each has the item of its place, and in the second column the one
-- that stands `height` further on.
abbrev pub item_row : ℕ → ℕ → ℕ → Pane → ℕ → List Piece
item_row column inside height pane place =
    items_in_row pane.shape (3 + place) column inside (get_or pane.items place no_item)
    (get_or pane.items (place + height) no_item)

abbrev pub item_rows : ℕ → ℕ → ℕ → Pane → ℕ → List Piece
item_rows column inside height pane zero = []
item_rows column inside height pane (suc place) =
    item_rows column inside height pane place ++ item_row column inside height pane place

-- what is said of names that can't be shown
abbrev pub unnamed_text : ℕ → List ℕ
unnamed_text count = if count == 0 then [] else 32 ∷ (decimal count ++ codes " unnamed")

-- the fourth row from below: the current name, fitted to what that text leaves of the inside, and the text
abbrev pub name_row : ℕ → ℕ → ℕ → Pane → List Piece
name_row row column inside pane =
    let room = inside - length (unnamed_text pane.unnamed) in
    text_at row column (124 ∷ []) Plain
    ∷ fitted_at row (column + 1) room pane.name Plain
    ∷ fitted_at row (column + 1 + room) (inside - room) (unnamed_text pane.unnamed) Plain
    ∷ text_at row (column + 1 + inside) (124 ∷ []) Plain
    ∷ []

-- all rows of a pane, on a screen of so many lines: the last two are the jobs' and the keys'
abbrev pub pane_rows : ℕ → ℕ → ℕ → Pane → List Piece
pane_rows lines column width pane =
    title_row column (width - 2) pane
    ++ (heading_row column (width - 2) pane
    ++ (item_rows column (width - 2) (lines - 6) pane (lines - 6)
    ++ (name_row (lines - 3) column (width - 2) pane
    ++ (text_at (lines - 2) column (edge (width - 2)) Plain ∷ []))))

-- the panes on a screen: the left one has half of the columns, rounded down, or one has them all
abbrev pub pane_pieces : ℕ → ℕ → Panes → List Piece
pane_pieces lines columns (Both left right) =
    pane_rows lines 1 (columns / 2) left ++ pane_rows lines (1 + columns / 2) (columns - columns / 2) right
pane_pieces lines columns (Whole pane) = pane_rows lines 1 columns pane
