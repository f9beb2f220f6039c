-- The cells in which a frame differs from the one that was drawn before.
use Rattle.std.specs.Prelude.{ℕ, ◌+◌, ◌<◌, Bool, true, false, not, ◌&&◌}
use Rattle.std.specs.Prelude.{if◌then◌else◌, List, [], ◌∷◌, slice_set}
use Rattle.std.specs.Str.{bytes_eq}
use Rattle.key_screen.specs.declared.cells.Attr.{Attr}
use Rattle.key_screen.specs.declared.cells.Attr.TheVariants.{Plain, Bold, Reverse}
use Rattle.key_screen.specs.declared.cells.Glyph.{Glyph}
use Rattle.key_screen.specs.declared.cells.Glyph.TheVariants.{Blank, Cluster, RightHalf}
use Rattle.key_screen.specs.declared.cells.Cell.{Cell}
use Rattle.screen_draw.specs.declared.changes.Change.{Change}

-- two looks are the same
abbrev pub is_same_attr : Attr → Attr → Bool
is_same_attr Plain Plain = true
is_same_attr Bold Bold = true
is_same_attr Reverse Reverse = true
is_same_attr _ _ = false

-- two glyphs are the same
abbrev pub is_same_glyph : Glyph → Glyph → Bool
is_same_glyph Blank Blank = true
is_same_glyph (Cluster text) (Cluster other) = bytes_eq text other
is_same_glyph RightHalf RightHalf = true
is_same_glyph _ _ = false

-- two cells hold the same and look the same
abbrev pub is_same_cell : Cell → Cell → Bool
is_same_cell cell other = is_same_attr cell.attr other.attr && is_same_glyph cell.glyph other.glyph

-- a cell of a frame is drawn: each one of the first frame, and then each that isn't as it was
abbrev pub is_due : Bool → Cell → Cell → Bool
is_due has_drawn was cell = not (has_drawn && is_same_cell was cell)

-- the cells that are drawn, each with its place; the first of the cells stands at this place
abbrev pub changes_from : Bool → ℕ → List Cell → List Cell → List Change
changes_from has_drawn at [] cells = []
changes_from has_drawn at (was ∷ before) [] = []
changes_from has_drawn at (was ∷ before) (cell ∷ cells) =
    if is_due has_drawn was cell
    then record { at = at; cell = cell } ∷ changes_from has_drawn (at + 1) before cells
    else changes_from has_drawn (at + 1) before cells

-- a change stands within so many cells
abbrev pub IsWithin : ℕ → Change → Type 0
IsWithin count change = change.at < count

-- cells with changes in their places
abbrev pub with_changes : List Cell → List Change → List Cell
with_changes cells [] = cells
with_changes cells (change ∷ changes) = with_changes (slice_set cells change.at change.cell) changes
