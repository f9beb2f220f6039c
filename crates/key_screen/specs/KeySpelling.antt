-- How a terminal spells a key. The bytes of the cursor and function keys are those that xterm, putty and rxvt
-- send; how escape, digits and letters make a key is mc(1)'s, and what isn't read there is our own.
-- Characters are spelled in UTF-8, whose well-formed bytes are those of the Unicode Standard's table 3-7.
use Rattle.std.specs.Prelude.{◌<◌, ◌≤◌, ◌⊎◌, ℕ, ◌+◌, ◌-◌, ◌*◌, Bool, true, false, ◌&&◌, ◌||◌}
use Rattle.std.specs.Prelude.{◌==◌, nat_le, nat_lt, if◌then◌else◌, List, [], ◌∷◌, ◌++◌, length}
use Rattle.key_screen.specs.declared.keys.Base.{Base}
use Rattle.key_screen.specs.declared.keys.Base.TheVariants.{Char, Ctrl, F, Up, Down, Left, Right}
use Rattle.key_screen.specs.declared.keys.Base.TheVariants.{Home, End, Insert, Delete, PgUp, PgDn}
use Rattle.key_screen.specs.declared.keys.Base.TheVariants.{Enter, Tab, Backspace, Escape, Unknown}
use Rattle.key_screen.specs.declared.keys.Key.{Key}
use Rattle.key_screen.specs.declared.spelling.Spelling.{Spelling}
use Rattle.key_screen.specs.declared.spelling.Spelling.TheVariants.{Partial, Whole, Broken}

-- a key, with meta or without
abbrev pub key : Bool → Base → Key
key meta base = record { meta = meta; base = base }

-- the key of bytes that spell no other
abbrev pub unknown : Key
unknown = key false Unknown

-- a number lies between two others, or is one of them
abbrev pub is_within : ℕ → ℕ → ℕ → Bool
is_within low high n = nat_le low n && nat_le n high

-- a whole key is spelled, and no byte goes on from there
abbrev pub ends : Key → List ℕ → Spelling
ends k [] = Whole k
ends k (byte ∷ bytes) = Broken

-- a key of one byte below 128, as ASCII names it
abbrev pub ascii_base : ℕ → Base
ascii_base byte =
    if byte == 13 || byte == 10 then Enter
    else if byte == 9 then Tab
    else if byte == 127 || byte == 8 then Backspace
    else if nat_lt 0 byte && nat_le byte 26 then Ctrl (byte + 96)
    else if nat_lt byte 32 then Ctrl (byte + 64)
    else Char byte

-- a byte that goes on a character (80 to BF)
abbrev pub is_tail : ℕ → Bool
is_tail byte = is_within 128 191 byte

-- the second byte of a character, which the first one narrows: no long forms, no surrogates, none past 10FFFF
abbrev pub is_second : ℕ → ℕ → Bool
is_second first byte =
    if first == 224 then is_within 160 191 byte
    else if first == 237 then is_within 128 159 byte
    else if first == 240 then is_within 144 191 byte
    else if first == 244 then is_within 128 143 byte
    else is_tail byte

-- the code of a character, by its first byte less what marks it and the bytes after it
abbrev pub joined_code : ℕ → ℕ → ℕ
joined_code code byte = code * 64 + (byte - 128)

-- every last byte makes a character of this code: none is a surrogate (D800 to DFFF) or past 10FFFF
abbrev pub CanEnd : ℕ → Type 0
CanEnd code = (code < 864) ⊎ ((896 ≤ code) × (code < 17408))

-- the last byte of a character, after those that make this code
abbrev pub last_tail : Bool → ℕ → List ℕ → Spelling
last_tail meta code [] = Partial
last_tail meta code (byte ∷ bytes) =
    if is_tail byte then ends (key meta (Char (joined_code code byte))) bytes else Broken

-- the last two bytes of a character
abbrev pub two_tails : Bool → ℕ → List ℕ → Spelling
two_tails meta code [] = Partial
two_tails meta code (byte ∷ bytes) =
    if is_tail byte then last_tail meta (joined_code code byte) bytes else Broken

-- the bytes of a character of three, after the first
abbrev pub second_of_three : Bool → ℕ → List ℕ → Spelling
second_of_three meta first [] = Partial
second_of_three meta first (byte ∷ bytes) =
    if is_second first byte then last_tail meta (joined_code (first - 224) byte) bytes else Broken

-- the bytes of a character of four, after the first
abbrev pub second_of_four : Bool → ℕ → List ℕ → Spelling
second_of_four meta first [] = Partial
second_of_four meta first (byte ∷ bytes) =
    if is_second first byte then two_tails meta (joined_code (first - 240) byte) bytes else Broken

-- a key that begins with this byte, which is no escape: a control, or a character; a byte
-- that begins none is unknown
abbrev pub character : Bool → ℕ → List ℕ → Spelling
character meta first bytes =
    if nat_lt first 128 then ends (key meta (ascii_base first)) bytes
    else if is_within 194 223 first then last_tail meta (first - 192) bytes
    else if is_within 224 239 first then second_of_three meta first bytes
    else if is_within 240 244 first then second_of_four meta first bytes
    else ends unknown bytes

-- the cursor keys' last letters: `A` `B` `C` `D` `H` `F`
abbrev pub cursor_base : ℕ → Base
cursor_base letter =
    if letter == 65 then Up
    else if letter == 66 then Down
    else if letter == 67 then Right
    else if letter == 68 then Left
    else if letter == 72 then Home
    else if letter == 70 then End
    else Unknown

-- after ESC `O`: the cursor keys, and `P` `Q` `R` `S` for F1 to F4
abbrev pub letter_base : ℕ → Base
letter_base letter = if is_within 80 83 letter then F (letter - 79) else cursor_base letter

-- ESC `[`, one digit, `~`; Home and End are 1 and 4, or 7 and 8, as putty and rxvt have them
abbrev pub one_digit_base : ℕ → Base
one_digit_base digit =
    if digit == 49 || digit == 55 then Home
    else if digit == 50 then Insert
    else if digit == 51 then Delete
    else if digit == 52 || digit == 56 then End
    else if digit == 53 then PgUp
    else if digit == 54 then PgDn
    else Unknown

-- ESC `[`, two digits, `~`: 11 to 15, 17 to 19, 20 and 21 are F1 to F10
abbrev pub two_digits_base : ℕ → ℕ → Base
two_digits_base tens ones =
    if tens == 49 && is_within 49 53 ones then F (ones - 48)
    else if tens == 49 && is_within 55 57 ones then F (ones - 49)
    else if tens == 50 && is_within 48 49 ones then F (ones - 39)
    else Unknown

-- ESC `[`, these bytes before the last, and the last byte
abbrev pub sequence_base : List ℕ → ℕ → Base
sequence_base [] last = cursor_base last
sequence_base (digit ∷ []) last = if last == 126 then one_digit_base digit else Unknown
sequence_base (tens ∷ ones ∷ []) last = if last == 126 then two_digits_base tens ones else Unknown
sequence_base more last = Unknown

-- the bytes after ESC `[`: at most 16 of 30 to 3F, here with those that were read, and one of 40 to 7E
abbrev pub sequence : List ℕ → List ℕ → Spelling
sequence read [] = Partial
sequence read (byte ∷ bytes) =
    if is_within 64 126 byte then ends (key false (sequence_base read byte)) bytes
    else if is_within 48 63 byte && nat_lt (length read) 16 then sequence (read ++ byte ∷ []) bytes
    else Broken

-- the byte after ESC `O`
abbrev pub letter : List ℕ → Spelling
letter [] = Partial
letter (byte ∷ bytes) = if is_within 64 126 byte then ends (key false (letter_base byte)) bytes else Broken

-- the bytes after an escape
abbrev pub escape_spelling : List ℕ → Spelling
escape_spelling [] = Partial
escape_spelling (byte ∷ bytes) =
    if byte == 27 then ends (key false Escape) bytes
    else if byte == 91 then sequence [] bytes
    else if byte == 79 then letter bytes
    else if byte == 48 then ends (key false (F 10)) bytes
    else if is_within 49 57 byte then ends (key false (F (byte - 48))) bytes
    else character true byte bytes

-- what bytes are as the spelling of a key: the front of one, one whole, or neither
abbrev pub spelling_of : List ℕ → Spelling
spelling_of [] = Partial
spelling_of (byte ∷ bytes) = if byte == 27 then escape_spelling bytes else character false byte bytes
