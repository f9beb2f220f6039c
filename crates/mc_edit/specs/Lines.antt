-- The lines of a text: where the line of a place begins and ends. A newline ends its line
-- and belongs to no other.
use Rattle.std.specs.Prelude.{ℕ, zero, suc, ◌+◌, ◌-◌, ◌==◌, min, Bool, not, List}
use Rattle.std.specs.Prelude.{length, take, drop, slice_range, if◌then◌else◌}
use Rattle.std.specs.List.{position_or_len, suffix_len}

abbrev pub is_newline : ℕ → Bool
is_newline byte = byte == 10

-- behind the last newline that stands before the place
abbrev pub line_start : List ℕ → ℕ → ℕ
line_start bytes at = at - suffix_len (λ byte. not (is_newline byte)) (take at bytes)

-- the first newline at or behind the place, or the text's end
abbrev pub line_end : List ℕ → ℕ → ℕ
line_end bytes at = at + position_or_len is_newline (drop at bytes)

-- the line of the place, without its newline
abbrev pub line_at : List ℕ → ℕ → List ℕ
line_at bytes at = slice_range bytes (line_start bytes at) (line_end bytes at)

-- where the next line begins, or the text's end
abbrev pub line_past : List ℕ → ℕ → ℕ
line_past bytes at = min (line_end bytes at + 1) (length bytes)

-- where a line begins that so many others stand before, or else the last line
abbrev pub start_of_line : ℕ → List ℕ → ℕ
start_of_line zero bytes = 0
start_of_line (suc line) bytes =
    let end = position_or_len is_newline bytes in
    if end == length bytes then 0 else end + 1 + start_of_line line (drop (end + 1) bytes)
