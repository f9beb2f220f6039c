-- How a name is quoted for the shell (own; what the shell makes of it says `ShellWords`).
-- Bytes: - 45, . 46, / 47.
use Rattle.std.specs.Prelude.{ℕ, Bool, ◌==◌, ◌||◌, ◌&&◌, nat_le, if◌then◌else◌, List, [], ◌∷◌}
use Rattle.std.specs.List.{flat_map}

-- letters and digits
abbrev pub is_letter_or_digit : ℕ → Bool
is_letter_or_digit byte =
    (nat_le 97 byte && nat_le byte 122) || (nat_le 65 byte && nat_le byte 90)
    || (nat_le 48 byte && nat_le byte 57)

-- a byte that stands for itself: no ASCII, a letter, a digit, or one of _ . / - + ,
abbrev pub is_plain : ℕ → Bool
is_plain byte =
    nat_le 128 byte || is_letter_or_digit byte || byte == 95 || byte == 46 || byte == 47 || byte == 45
    || byte == 43 || byte == 44

-- a newline stands between quotes, a byte that isn't plain behind a backslash
abbrev pub quoted_byte : ℕ → List ℕ
quoted_byte byte = if byte == 10 then 39 ∷ 10 ∷ 39 ∷ [] else if is_plain byte then byte ∷ []
    else 92 ∷ byte ∷ []

-- the bytes of a text, quoted
abbrev pub quoted_bytes : List ℕ → List ℕ
quoted_bytes text = flat_map quoted_byte text

-- a name that no program takes for an option
abbrev pub as_operand : List ℕ → List ℕ
as_operand [] = []
as_operand (byte ∷ name) = if byte == 45 then 46 ∷ 47 ∷ byte ∷ name else byte ∷ name

-- a name as it stands in a command
abbrev pub name_in_quotes : List ℕ → List ℕ
name_in_quotes name = quoted_bytes (as_operand name)
