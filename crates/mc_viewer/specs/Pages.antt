-- What a page shows (own).
use Rattle.std.specs.Prelude.{ℕ, zero, suc, ◌+◌, ◌-◌, ◌==◌, List, []}
use Rattle.std.specs.Prelude.{◌∷◌, ◌++◌, take, drop, map, if◌then◌else◌}
use Rattle.text_units.specs.HexRows.{hex_row}
use Rattle.mc_viewer.specs.declared.layout.Shape.{Shape}
use Rattle.mc_viewer.specs.declared.layout.Shape.TheVariants.{Wrapped, Unwrapped, Hex}
use Rattle.mc_viewer.specs.declared.layout.Layout.{Layout}
use Rattle.text_units.specs.Units.{unit_columns, piece_in_sight}
use Rattle.mc_viewer.specs.Units.{unit_length, first_unit}
use Rattle.mc_viewer.specs.Rows.{wrapped_length, all_rows, row_holding, rows_from}

-- What is in sight of a line, from the unit that stands in this column on. So many bytes more
-- belong to a unit before.
unfoldable pub line_in_sight : ℕ → ℕ → ℕ → ℕ → List ℕ → List ℕ
line_in_sight left right column skip [] = []
line_in_sight left right column (suc skip) (byte ∷ rest) = line_in_sight left right column skip rest
line_in_sight left right column zero (byte ∷ rest) =
    if byte == 10 then [] else
    piece_in_sight left right column (first_unit (byte ∷ rest))
    ++ line_in_sight left right (column + unit_columns column (first_unit (byte ∷ rest)))
    (unit_length (byte ∷ rest) - 1) rest

-- what the row shows that begins at an offset with these bytes
unfoldable pub row_text : Shape → ℕ → ℕ → ℕ → List ℕ → List ℕ
row_text Wrapped columns left offset bytes =
    line_in_sight 0 columns 0 0 (take (wrapped_length columns 0 0 bytes) bytes)
row_text Unwrapped columns left offset bytes = line_in_sight left (left + columns) 0 0 bytes
row_text Hex columns left offset bytes = hex_row columns offset (take 16 bytes)

-- what a row of the file shows
abbrev pub shown_row : Layout → List ℕ → ℕ → List ℕ
shown_row layout bytes row = row_text layout.shape layout.columns layout.left row (drop row bytes)

-- at most so many rows of the file, from the one that holds the top on
abbrev pub page_rows : Layout → ℕ → List ℕ → ℕ → List (List ℕ)
page_rows layout count bytes top =
    let rows = all_rows layout.shape layout.columns bytes in
    map (shown_row layout bytes)
    (take count (rows_from (row_holding layout.shape layout.columns bytes top) rows))
