-- How a box is painted over a screen: lines in a frame of `+`, `-` and `|`, in the middle. Own.
use Rattle.std.specs.Prelude.{ℕ, ◌+◌, ◌-◌, ◌/◌, min, List, [], ◌∷◌, ◌++◌, length, replicate}
use Rattle.mc_text.specs.Fit.{fitted_text}
use Rattle.mc_text.specs.Drawn.{drawn_text}
use Rattle.key_screen.specs.declared.cells.Attr.{Attr}
use Rattle.key_screen.specs.declared.cells.Attr.TheVariants.{Plain}
use Rattle.key_screen.specs.Grids.{CellGrid, written_at}
use Rattle.mc_dialogs.specs.declared.frame.Line.{Line}

-- a line of a box whose inside has so many columns: `| `, the fitted text, ` |`
abbrev pub with_line : CellGrid → ℕ → ℕ → ℕ → Line → CellGrid
with_line grid row column inside line =
    let left = written_at grid row column (124 ∷ 32 ∷ []) Plain in
    let text = written_at left row (column + 2) (fitted_text (drawn_text line.text) inside) line.attr in
    written_at text row (column + 2 + inside) (32 ∷ 124 ∷ []) Plain

-- its lines, each below the one before
abbrev pub with_lines : CellGrid → ℕ → ℕ → ℕ → List Line → CellGrid
with_lines grid row column inside [] = grid
with_lines grid row column inside (line ∷ lines) =
    with_lines (with_line grid row column inside line) (row + 1) column inside lines

-- its first line, and its last one
abbrev pub edge : ℕ → List ℕ
edge inside = 43 ∷ (replicate (inside + 2) 45 ++ 43 ∷ [])

-- the columns inside a box, on a screen of so many
abbrev pub columns_inside : ℕ → ℕ
columns_inside columns = min (columns - 4) 60

-- the first row and column of a box that takes so many lines or columns, of so many of the screen
abbrev pub middle : ℕ → ℕ → ℕ
middle whole part = (whole - part) / 2 + 1

-- a box with these lines over a screen
abbrev pub with_box : CellGrid → List Line → CellGrid
with_box grid lines =
    let inside = columns_inside grid.columns in
    let row = middle grid.lines (length lines + 2) in
    let column = middle grid.columns (inside + 4) in
    let top = written_at grid row column (edge inside) Plain in
    let filled = with_lines top (row + 1) column inside lines in
    written_at filled (row + 1 + length lines) column (edge inside) Plain
