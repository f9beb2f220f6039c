-- A row of at most sixteen bytes in hexadecimal (own).
use Rattle.std.specs.Prelude.{ℕ, zero, suc, ◌+◌, ◌-◌, ◌*◌, ◌/◌, ◌%◌, ◌^◌, ◌==◌, min, slice_index}
use Rattle.std.specs.Prelude.{nat_le, nat_lt, ◌&&◌, ◌||◌, List, [], ◌∷◌, length, if◌then◌else◌}

-- a digit below 16, in lower case
abbrev pub hex_digit : ℕ → ℕ
hex_digit digit = if nat_lt digit 10 then 48 + digit else 87 + digit

-- the digits of an offset: eight below 4 GiB, sixteen from there on
abbrev pub offset_digits : ℕ → ℕ
offset_digits offset = if nat_lt offset (2 ^ 32) then 8 else 16

-- a digit of a number; the last one has place 0
abbrev pub digit_at : ℕ → ℕ → ℕ
digit_at number place = hex_digit (number / 2 ^ (4 * place) % 16)

-- one of the digits of a byte, or the blank behind them; a byte that is missing is blank
abbrev pub byte_column : List ℕ → ℕ → ℕ → ℕ
byte_column bytes byte part =
    if nat_le (length bytes) byte || part == 2 then 32 else digit_at (slice_index bytes byte) (1 - part)

-- what stands in one of the 48 columns of the digits: three columns a byte, and one more behind the eighth
abbrev pub digits_column : List ℕ → ℕ → ℕ
digits_column bytes column =
    let place = if nat_lt column 24 then column else column - 1 in byte_column bytes (place / 3) (place % 3)

-- a byte as a character of ASCII that can be printed, or a dot
abbrev pub printed_byte : ℕ → ℕ
printed_byte byte = if nat_le 32 byte && nat_le byte 126 then byte else 46

-- what stands in a column behind the offset: two blanks, the digits, two blanks, the bytes as characters
abbrev pub behind_offset : List ℕ → ℕ → ℕ
behind_offset bytes column =
    if nat_lt column 2 then 32 else if nat_lt column 50 then digits_column bytes (column - 2) else
    if nat_lt column 52 then 32 else printed_byte (slice_index bytes (column - 52))

-- what stands in a column of a row
unfoldable pub hex_column : ℕ → List ℕ → ℕ → ℕ
hex_column offset bytes column =
    let digits = offset_digits offset in
    if nat_lt column digits then digit_at offset (digits - 1 - column)
    else behind_offset bytes (column - digits)

-- so many columns of a row, from one on
unfoldable pub hex_columns : ℕ → List ℕ → ℕ → ℕ → List ℕ
hex_columns offset bytes column zero = []
hex_columns offset bytes column (suc count) =
    hex_column offset bytes column ∷ hex_columns offset bytes (column + 1) count

-- the row of at most sixteen bytes, cut at the columns of the screen
abbrev pub hex_row : ℕ → ℕ → List ℕ → List ℕ
hex_row columns offset bytes =
    hex_columns offset bytes 0 (min columns (offset_digits offset + 52 + length bytes))
