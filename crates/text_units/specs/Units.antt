-- What a unit of a text shows, in which columns, and what of it is in sight (own). A unit is a character, a
-- cluster, or a byte that belongs to none.
use Rattle.std.specs.Prelude.{ℕ, ◌+◌, ◌-◌, ◌%◌, ◌==◌, min, max, Bool, ◌&&◌}
use Rattle.std.specs.Prelude.{List, [], ◌∷◌, replicate, if◌then◌else◌}
use Rattle.std.specs.Str.{bytes_eq, is_utf8}
use Rattle.mc_text.specs.Fit.{cluster_columns}
use Rattle.mc_text.specs.Drawn.{is_drawable}

-- a unit that shows as itself: a text of one or two columns without a control character
abbrev pub is_shown : List ℕ → Bool
is_shown unit = is_utf8 unit && is_drawable unit

-- the columns of a unit that begins in this column: a tab goes to the next multiple of 8, and what
-- doesn't show as itself has one
unfoldable pub unit_columns : ℕ → List ℕ → ℕ
unit_columns column unit =
    if bytes_eq unit (9 ∷ []) then 8 - column % 8 else if is_shown unit then cluster_columns unit else 1

-- what a unit shows in its columns: itself, blanks for a tab, and else a dot
unfoldable pub unit_text : ℕ → List ℕ → List ℕ
unit_text columns unit =
    if bytes_eq unit (9 ∷ []) then replicate columns 32 else if is_shown unit then unit else 46 ∷ []

-- so many columns of a unit are in sight, from `left` up to `right`
abbrev pub columns_in_sight : ℕ → ℕ → ℕ → ℕ → ℕ
columns_in_sight left right column columns = min right (column + columns) - max left column

-- what is in sight of a unit: where it is cut, blanks
unfoldable pub piece_in_sight : ℕ → ℕ → ℕ → List ℕ → List ℕ
piece_in_sight left right column unit =
    let columns = unit_columns column unit in
    if columns_in_sight left right column columns == columns then unit_text columns unit
    else replicate (columns_in_sight left right column columns) 32
