-- What is shown of a text: so many lines, from the least one from which the point's line is among them,
-- and so many columns, from the least one from which the point's column is among them. Own; mcedit(1)
-- doesn't say what it shows.
use Rattle.std.specs.Prelude.{ℕ, zero, suc, ◌+◌, ◌-◌, ◌==◌, List, [], ◌∷◌, ◌++◌, length, if◌then◌else◌}
use Rattle.gap_text.specs.PointedText.{PointedText}
use Rattle.mc_edit.specs.Moves.{column_at}
use Rattle.mc_edit.specs.Lines.{line_start, line_end, line_at}
use Rattle.mc_edit.specs.Units.{units}
use Rattle.text_units.specs.Units.{piece_in_sight, unit_columns}

-- what is in sight of a line whose first unit stands in this column
abbrev pub row_of_units : ℕ → ℕ → ℕ → List (List ℕ) → List ℕ
row_of_units left right column [] = []
row_of_units left right column (unit ∷ rest) =
    piece_in_sight left right column unit ++ row_of_units left right (column + unit_columns column unit) rest

-- the row of the line that holds a place
abbrev pub row_at : List ℕ → ℕ → ℕ → ℕ → List ℕ
row_at bytes left right at = row_of_units left right 0 (units (line_at bytes at))

-- the rows of at most so many lines, from the one that holds a place on
abbrev pub rows_from : List ℕ → ℕ → ℕ → ℕ → ℕ → List (List ℕ)
rows_from bytes left right zero at = []
rows_from bytes left right (suc lines) at =
    row_at bytes left right at
    ∷ (if line_end bytes at == length bytes then []
    else rows_from bytes left right lines (line_end bytes at + 1))

-- where the line begins that stands so many lines above the one of a place, or the first one
abbrev pub top_of : List ℕ → ℕ → ℕ → ℕ
top_of bytes zero at = line_start bytes at
top_of bytes (suc lines) at =
    let start = line_start bytes at in
    if start == 0 then 0 else top_of bytes lines (start - 1)

-- how many lines stand above the one of a place, at most so many
abbrev pub lines_above : List ℕ → ℕ → ℕ → ℕ
lines_above bytes zero at = 0
lines_above bytes (suc lines) at =
    let start = line_start bytes at in
    if start == 0 then 0 else lines_above bytes lines (start - 1) + 1

-- the first column in sight
abbrev pub first_column : ℕ → ℕ → ℕ
first_column columns column = column + 1 - columns

-- the rows of a screen of so many lines and columns, two lines of which aren't the text's
abbrev pub page_rows : ℕ → ℕ → PointedText → List (List ℕ)
page_rows lines columns text =
    let left = first_column columns (column_at text.bytes text.point) in
    rows_from text.bytes left (left + columns) (lines - 2) (top_of text.bytes (lines - 3) text.point)

-- the column of the point on the page
abbrev pub page_column : ℕ → PointedText → ℕ
page_column columns text =
    column_at text.bytes text.point - first_column columns (column_at text.bytes text.point)
