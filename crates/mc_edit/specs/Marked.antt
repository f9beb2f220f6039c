-- Which columns of a page a block has: those of its units, in each line from its first
-- one to its last one. Own.
use Rattle.std.specs.Prelude.{ℕ, zero, suc, ◌+◌, ◌-◌, ◌==◌, min, max, Option}
use Rattle.std.specs.Prelude.{Some, None, List, [], ◌∷◌, length, if◌then◌else◌}
use Rattle.gap_text.specs.PointedText.{PointedText}
use Rattle.mc_edit.specs.declared.block.Block.{Block}
use Rattle.mc_edit.specs.declared.marked.MarkedColumns.{MarkedColumns}
use Rattle.mc_edit.specs.Edits.{EditedText, block_span}
use Rattle.mc_edit.specs.Lines.{line_start, line_end}
use Rattle.mc_edit.specs.Moves.{column_at}
use Rattle.mc_edit.specs.Pages.{first_column, top_of}

-- a place, or the end of a line on that side of it
abbrev pub within_line : List ℕ → ℕ → ℕ → ℕ
within_line bytes at place = min (max place (line_start bytes at)) (line_end bytes at)

-- the column of a place in a line, counted from the first one in sight, or the edge of
-- the page on that side of it
abbrev pub seen_column : List ℕ → ℕ → ℕ → ℕ → ℕ → ℕ
seen_column bytes left right at place =
    min (max (column_at bytes (within_line bytes at place)) left) right - left

-- the columns that a block from one place up to another has in the line that holds a place
abbrev pub marked_in_line : List ℕ → ℕ → ℕ → ℕ → ℕ → ℕ → MarkedColumns
marked_in_line bytes left right start end at =
    record { from = seen_column bytes left right at start; to = seen_column bytes left right at end }

-- those in at most so many lines, from the one that holds a place on
abbrev pub marked_lines : List ℕ → ℕ → ℕ → ℕ → ℕ → ℕ → ℕ → List MarkedColumns
marked_lines bytes left right start end zero at = []
marked_lines bytes left right start end (suc lines) at =
    marked_in_line bytes left right start end at
    ∷ (if line_end bytes at == length bytes then []
    else marked_lines bytes left right start end lines (line_end bytes at + 1))

-- those of a block on the page of a screen of so many lines and columns; without a block there are none
abbrev pub marked_by : Option (ℕ × ℕ) → ℕ → ℕ → PointedText → List MarkedColumns
marked_by None lines columns text = []
marked_by (Some (start, end)) lines columns text =
    let left = first_column columns (column_at text.bytes text.point) in
    marked_lines text.bytes left (left + columns) start end (lines - 2)
    (top_of text.bytes (lines - 3) text.point)

abbrev pub marked_columns : ℕ → ℕ → EditedText → List MarkedColumns
marked_columns lines columns edited =
    marked_by (block_span edited.block edited.text.point) lines columns edited.text
