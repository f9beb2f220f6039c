-- The columns of a line: where its units stand on the screen when the line begins in column 0 (own).
use Rattle.std.specs.Prelude.{ℕ, ◌+◌, nat_lt, nat_le, List, [], ◌∷◌, length, if◌then◌else◌}
use Rattle.text_units.specs.Units.{unit_columns}

-- the column in which the unit that holds the place begins, or the columns of the line; the first unit
-- begins at `start`, in column `column`
abbrev pub column_of : ℕ → ℕ → ℕ → List (List ℕ) → ℕ
column_of column start at [] = column
column_of column start at (unit ∷ rest) =
    let end = start + length unit in
    if nat_lt at end then column else column_of (column + unit_columns column unit) end at rest

-- the start of the last unit whose column isn't above the wanted one, or the end of a line that is shorter
abbrev pub place_in_column : ℕ → ℕ → ℕ → List (List ℕ) → ℕ
place_in_column column start wanted [] = start
place_in_column column start wanted (unit ∷ rest) =
    let next = column + unit_columns column unit in
    if nat_le next wanted then place_in_column next (start + length unit) wanted rest else start
