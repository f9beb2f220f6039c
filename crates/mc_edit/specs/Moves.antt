-- Where a point goes: by a unit, by a line, by a page. Own; mcedit(1) has the keys without their rules.
use Rattle.std.specs.Prelude.{ℕ, zero, suc, ◌+◌, ◌-◌, ◌==◌, nat_lt, List, length, if◌then◌else◌}
use Rattle.mc_edit.specs.Lines.{line_start, line_end, line_at}
use Rattle.mc_edit.specs.Units.{units, end_after, start_before}
use Rattle.mc_edit.specs.Columns.{column_of, place_in_column}

-- one unit on, where the newline is a unit too; at the text's end it stays
abbrev pub right_of : List ℕ → ℕ → ℕ
right_of bytes at =
    let start = line_start bytes at in
    if at == line_end bytes at then (if nat_lt at (length bytes) then at + 1 else at)
    else start + end_after 0 (at - start) (units (line_at bytes at))

-- one unit back; at the text's start it stays
abbrev pub left_of : List ℕ → ℕ → ℕ
left_of bytes at =
    let start = line_start bytes at in
    if at == start then at - 1 else start + start_before 0 (at - start) (units (line_at bytes at))

-- the column of a place in its line
abbrev pub column_at : List ℕ → ℕ → ℕ
column_at bytes at = column_of 0 0 (at - line_start bytes at) (units (line_at bytes at))

-- the place in that column of the line that holds `within`
abbrev pub place_at : List ℕ → ℕ → ℕ → ℕ
place_at bytes within column =
    line_start bytes within + place_in_column 0 0 column (units (line_at bytes within))

-- the line above, in the column of the place; in the first line it stays
abbrev pub up_of : List ℕ → ℕ → ℕ
up_of bytes at =
    let start = line_start bytes at in
    if start == 0 then at else place_at bytes (start - 1) (column_at bytes at)

-- the line below, in the column of the place; in the last line it stays
abbrev pub down_of : List ℕ → ℕ → ℕ
down_of bytes at =
    let end = line_end bytes at in
    if end == length bytes then at else place_at bytes (end + 1) (column_at bytes at)

-- so many times that move
abbrev pub repeated_move : (ℕ → ℕ) → ℕ → ℕ → ℕ
repeated_move move zero at = at
repeated_move move (suc count) at = move (repeated_move move count at)
