-- What the text of a format means (own, after mc(1), "Listing format": user). Bytes: tab 9, blank 32,
-- comma 44, colon 58, bar 124.
use Rattle.std.specs.Prelude.{ℕ, ◌+◌, ◌-◌, ◌*◌, Bool, true, false, not, ◌||◌, ◌&&◌, ◌==◌}
use Rattle.std.specs.Prelude.{nat_le, nat_lt, if◌then◌else◌, List, [], ◌∷◌, ◌++◌, length}
use Rattle.std.specs.Prelude.{drop, codes, Option, Some, None, option_map, Result, Ok, Err}
use Rattle.std.specs.List.{before_first, position}
use Rattle.std.specs.Str.{bytes_eq}
use Rattle.panel_listing.specs.declared.error.FormatError.{FormatError}
use Rattle.panel_listing.specs.declared.error.FormatError.TheVariants.{NoSize, UnknownField, BadWidth}
use Rattle.panel_listing.specs.declared.format.Field.{Field}
use Rattle.panel_listing.specs.declared.format.Field.TheVariants.{Name, Size, FileSize, TypeLetter}
use Rattle.panel_listing.specs.declared.format.Field.TheVariants.{Mtime, Permissions, Mark, Space, Bar}
use Rattle.panel_listing.specs.declared.format.Column.{Column}

-- a format: whether the panel has the whole screen, and the columns from the left
pub record RowFormat : Type 0 where
  pub full : Bool
  pub columns : List Column

-- blanks, tabs and commas stand between fields
abbrev pub separates : ℕ → Bool
separates byte = (byte == 32) || (byte == 9) || (byte == 44)

-- A byte and the one behind it belong to one word. A bar is a word by itself, but it may have a width.
abbrev pub joins : ℕ → List ℕ → Bool
joins byte [] = false
joins byte (next ∷ rest) = if byte == 124 then next == 58 else not (separates next || (next == 124))

-- a word and where its first byte stands
pub record Word : Type 0 where
  pub at : ℕ
  pub text : List ℕ

-- a byte before the first of some words, or as a word before them
abbrev pub with_byte : Bool → ℕ → ℕ → List Word → List Word
with_byte false at byte words = record { at = at; text = byte ∷ [] } ∷ words
with_byte true at byte [] = record { at = at; text = byte ∷ [] } ∷ []
with_byte true at byte (word ∷ words) = record { at = at; text = byte ∷ word.text } ∷ words

-- the words of a text whose first byte stands at this place
abbrev pub words_from : ℕ → List ℕ → List Word
words_from at [] = []
words_from at (byte ∷ rest) =
    if separates byte then words_from (at + 1) rest
    else with_byte (joins byte rest) at byte (words_from (at + 1) rest)

-- what a word says before its first colon, and behind it
abbrev pub is_colon : ℕ → Bool
is_colon byte = byte == 58

abbrev pub before_colon : List ℕ → List ℕ
before_colon word = before_first is_colon word

abbrev pub behind_colon : List ℕ → Option (List ℕ)
behind_colon word = option_map (λ at. drop (at + 1) word) (position is_colon word)

-- the field of this name
unfoldable pub field_named : List ℕ → Option Field
field_named name =
    if bytes_eq name (codes "name") then Some Name else
    if bytes_eq name (codes "size") then Some Size else
    if bytes_eq name (codes "bsize") then Some FileSize else
    if bytes_eq name (codes "type") then Some TypeLetter else
    if bytes_eq name (codes "mtime") then Some Mtime else
    if bytes_eq name (codes "perm") then Some Permissions else
    if bytes_eq name (codes "mark") then Some Mark else
    if bytes_eq name (codes "space") then Some Space else
    if bytes_eq name (codes "|") then Some Bar else None

-- the number whose first digits say so much and whose others stand here, if they are digits
abbrev pub number_from : ℕ → List ℕ → Option ℕ
number_from so_far [] = Some so_far
number_from so_far (digit ∷ digits) =
    if nat_le 48 digit && nat_le digit 57 then number_from (so_far * 10 + (digit - 48)) digits else None

-- a width is a number from 1 to 255
abbrev pub in_range : Option ℕ → Option ℕ
in_range None = None
in_range (Some number) = if nat_le 1 number && nat_le number 255 then Some number else None

-- and has one to three digits
abbrev pub width_in : List ℕ → Option ℕ
width_in text = if nat_lt 3 (length text) then None else in_range (number_from 0 text)

-- a field with a width, which stands at this place
abbrev pub with_width : Field → ℕ → Option ℕ → Result Column FormatError
with_width field at None = Err (BadWidth at)
with_width field at (Some width) = Ok (record { field = field; width = Some width })

-- a field with what is told behind its colon, if there is one
abbrev pub with_told : Field → ℕ → Option (List ℕ) → Result Column FormatError
with_told field at None = Ok (record { field = field; width = None })
with_told field at (Some text) = with_width field at (width_in text)

-- the column that a word means, or why it means none
abbrev pub column_named : Option Field → Word → Result Column FormatError
column_named None word = Err (UnknownField word.at)
column_named (Some field) word =
    with_told field (word.at + length (before_colon word.text) + 1) (behind_colon word.text)

abbrev pub column_of : Word → Result Column FormatError
column_of word = column_named (field_named (before_colon word.text)) word

-- columns before others, if these have no fault
abbrev pub after_columns : List Column → Result (List Column) FormatError → Result (List Column) FormatError
after_columns prefix (Err fault) = Err fault
after_columns prefix (Ok columns) = Ok (prefix ++ columns)

abbrev pub and_then_columns : Result Column FormatError → Result (List Column) FormatError
    → Result (List Column) FormatError
and_then_columns (Err fault) columns = Err fault
and_then_columns (Ok column) columns = after_columns (column ∷ []) columns

-- the columns of words, or the first fault
abbrev pub columns_of : List Word → Result (List Column) FormatError
columns_of [] = Ok []
columns_of (word ∷ words) = and_then_columns (column_of word) (columns_of words)

-- the size that a format's first word tells, `half` or `full`
unfoldable pub size_named : List ℕ → Option Bool
size_named name =
    if bytes_eq name (codes "half") then Some false else
    if bytes_eq name (codes "full") then Some true else None

abbrev pub sized_format : Option Bool → Result (List Column) FormatError → Result RowFormat FormatError
sized_format None columns = Err (NoSize 0)
sized_format (Some full) (Err fault) = Err fault
sized_format (Some full) (Ok columns) = Ok (record { full = full; columns = columns })

abbrev pub format_in : List Word → Result RowFormat FormatError
format_in [] = Err (NoSize 0)
format_in (first ∷ words) = sized_format (size_named first.text) (columns_of words)

-- the format that a text means, or the first fault
unfoldable pub format_of : List ℕ → Result RowFormat FormatError
format_of text = format_in (words_from 0 text)
