-- The rows of a file: where each begins (own; mc(1) says only that the viewer wraps
-- lines and shows hexadecimal).
use Rattle.std.specs.Prelude.{ℕ, zero, suc, ◌+◌, ◌-◌, ◌==◌, nat_le, nat_lt, min, ◌≡◌, ◌<◌, ⊤}
use Rattle.std.specs.Prelude.{◌||◌, List, [], ◌∷◌, ◌++◌, length, drop, slice_index, if◌then◌else◌}
use Rattle.mc_viewer.specs.declared.layout.Shape.{Shape}
use Rattle.mc_viewer.specs.declared.layout.Shape.TheVariants.{Wrapped, Unwrapped, Hex}
use Rattle.text_units.specs.Units.{unit_columns}
use Rattle.mc_viewer.specs.Units.{unit_length, first_unit}

-- the bytes of the first line, with the newline that ends it
unfoldable pub line_length : List ℕ → ℕ
line_length [] = 0
line_length (byte ∷ rest) = if byte == 10 then 1 else suc (line_length rest)

-- a line begins at this place: the file begins there, or a newline stands before it
abbrev pub IsLineStart : List ℕ → ℕ → Type 0
IsLineStart bytes zero = ⊤
IsLineStart bytes (suc before) = (before < length bytes) × (slice_index bytes before ≡ 10)

-- The bytes of a row of at most so many columns, with the newline that ends its line, behind units that
-- take up the first of these columns: it takes units while they have room, at least one. So many bytes more
-- belong to the last unit taken.
unfoldable pub wrapped_length : ℕ → ℕ → ℕ → List ℕ → ℕ
wrapped_length columns column skip [] = 0
wrapped_length columns column (suc skip) (byte ∷ rest) = suc (wrapped_length columns column skip rest)
wrapped_length columns column zero (byte ∷ rest) =
    if byte == 10 then 1 else
    let next = column + unit_columns column (first_unit (byte ∷ rest)) in
    if column == 0 || nat_le next columns
    then suc (wrapped_length columns next (unit_length (byte ∷ rest) - 1) rest) else 0

-- the bytes of the first row
unfoldable pub row_length : Shape → ℕ → List ℕ → ℕ
row_length Wrapped columns bytes = wrapped_length columns 0 0 bytes
row_length Unwrapped columns bytes = line_length bytes
row_length Hex columns bytes = min 16 (length bytes)

-- the places where rows begin, in a rest of the file that begins at this one; so many bytes of
-- it belong to a row before
unfoldable pub row_starts : Shape → ℕ → ℕ → ℕ → List ℕ → List ℕ
row_starts shape columns at skip [] = []
row_starts shape columns at (suc skip) (byte ∷ rest) = row_starts shape columns (at + 1) skip rest
row_starts shape columns at zero (byte ∷ rest) =
    at ∷ row_starts shape columns (at + 1) (row_length shape columns (byte ∷ rest) - 1) rest

-- the places where the rows of the whole file begin
abbrev pub all_rows : Shape → ℕ → List ℕ → List ℕ
all_rows shape columns bytes = row_starts shape columns 0 0 bytes

-- the last of the rows that doesn't begin behind a byte; `found` where there is none
unfoldable pub last_row_to : ℕ → ℕ → List ℕ → ℕ
last_row_to byte found [] = found
last_row_to byte found (row ∷ rows) = if nat_le row byte then last_row_to byte row rows else found

-- the row that holds a byte, or the last row
abbrev pub row_holding : Shape → ℕ → List ℕ → ℕ → ℕ
row_holding shape columns bytes byte = last_row_to byte 0 (all_rows shape columns bytes)

-- the rows from this one on
unfoldable pub rows_from : ℕ → List ℕ → List ℕ
rows_from top [] = []
rows_from top (row ∷ rows) = if nat_lt row top then rows_from top rows else row ∷ rows

-- the first row behind a place, or that place where there is none
unfoldable pub row_after : ℕ → List ℕ → ℕ
row_after at [] = at
row_after at (row ∷ rows) = if nat_lt at row then row else row_after at rows

-- all rows begin before this place
abbrev pub AllBelow : ℕ → List ℕ → Type 0
AllBelow at [] = ⊤
AllBelow at (row ∷ rows) = (row < at) × AllBelow at rows

-- a row begins at this place, or the file ends there: the rows are those that begin before
-- it, and those from there on
pub record IsRow (shape : Shape) (columns : ℕ) (bytes : List ℕ) (at : ℕ) : Type 0 where
  pub before : List ℕ
  pub rows : all_rows shape columns bytes ≡ before ++ row_starts shape columns at 0 (drop at bytes)
  pub below : AllBelow at before

-- so many rows down
unfoldable pub rows_down : ℕ → List ℕ → ℕ → ℕ
rows_down zero rows row = row
rows_down (suc count) rows row = rows_down count rows (row_after row rows)

-- so many rows up: each time to the row that holds the byte before
unfoldable pub rows_up : ℕ → List ℕ → ℕ → ℕ
rows_up zero rows row = row
rows_up (suc count) rows row = rows_up count rows (last_row_to (row - 1) 0 rows)

-- where a line begins that so many others stand before, behind a place, or where the file ends
unfoldable pub line_behind : ℕ → List ℕ → ℕ → ℕ
line_behind zero bytes at = at
line_behind (suc lines) bytes at = line_behind lines bytes (at + line_length (drop at bytes))
