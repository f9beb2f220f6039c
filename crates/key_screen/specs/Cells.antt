-- The cells of a screen, row by row in one list, and what is put into them. Own: xterm leaves open what
-- becomes of a wide cluster that is half written over; here the other half is a blank.
use Rattle.std.specs.Prelude.{ℕ, ◌+◌, ◌-◌, Bool, true, false, if◌then◌else◌}
use Rattle.std.specs.Prelude.{List, Option, Some, None, slice_get, slice_set}
use Rattle.key_screen.specs.declared.cells.Attr.{Attr}
use Rattle.key_screen.specs.declared.cells.Attr.TheVariants.{Plain}
use Rattle.key_screen.specs.declared.cells.Glyph.{Glyph}
use Rattle.key_screen.specs.declared.cells.Glyph.TheVariants.{Blank, RightHalf}
use Rattle.key_screen.specs.declared.cells.Cell.{Cell}

-- a blank and plain cell
abbrev pub blank_cell : Cell
blank_cell = record { glyph = Blank; attr = Plain }

-- a glyph is the right half of a wide cluster
abbrev pub is_right_half : Glyph → Bool
is_right_half RightHalf = true
is_right_half glyph = false

-- the right half of a wide cluster stands at a place
abbrev pub right_half_in : Option Cell → Bool
right_half_in None = false
right_half_in (Some cell) = is_right_half cell.glyph

abbrev pub right_half_at : List Cell → ℕ → Bool
right_half_at cells at = right_half_in (slice_get cells at)

-- the cells with a blank at a place, which looks as it did
abbrev pub blanked_in : List Cell → ℕ → Option Cell → List Cell
blanked_in cells at None = cells
blanked_in cells at (Some cell) = slice_set cells at (record cell { glyph = Blank })

abbrev pub with_blank : List Cell → ℕ → List Cell
with_blank cells at = blanked_in cells at (slice_get cells at)

-- the cells before a place is written: a left half before it, or a right half after it, becomes a blank
abbrev pub left_freed : List Cell → ℕ → List Cell
left_freed cells at = if right_half_at cells at then with_blank cells (at - 1) else cells

abbrev pub right_freed : List Cell → ℕ → List Cell
right_freed cells at = if right_half_at cells (at + 1) then with_blank cells (at + 1) else cells

abbrev pub freed_cells : List Cell → ℕ → List Cell
freed_cells cells at = right_freed (left_freed cells at) at

-- a glyph of one column is put into its cell
abbrev pub put_narrow : List Cell → ℕ → Glyph → Attr → List Cell
put_narrow cells at glyph attr = slice_set (freed_cells cells at) at (record { glyph = glyph; attr = attr })

-- a glyph of two columns is put into its cells
abbrev pub put_wide : List Cell → ℕ → Glyph → Attr → List Cell
put_wide cells at glyph attr =
    slice_set (slice_set (freed_cells (freed_cells cells at) (at + 1)) at
    (record { glyph = glyph; attr = attr })) (at + 1)
    (record { glyph = RightHalf; attr = attr })
