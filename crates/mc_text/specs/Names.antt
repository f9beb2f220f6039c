-- What a file name is (POSIX.1-2017, 3.170 Filename, with the limit NAME_MAX of 255 bytes and
-- without dot and dot-dot).
use Rattle.std.specs.Prelude.{ℕ, ◌+◌, Bool, ◌||◌, ◌==◌, nat_lt, if◌then◌else◌}
use Rattle.std.specs.Prelude.{List, [], ◌∷◌, length, Option, Some, None, is_some}
use Rattle.std.specs.Str.{bytes_eq}
use Rattle.mc_text.specs.declared.error.NameError.{NameError}
use Rattle.mc_text.specs.declared.error.NameError.TheVariants.{Empty, TooLong, Slash, Nul, Dots}

-- the first byte that no name holds, a slash or a NUL, with its position counted from `at`
abbrev pub first_bad_byte : ℕ → List ℕ → Option NameError
first_bad_byte at [] = None
first_bad_byte at (byte ∷ rest) =
    if byte == 47 then Some (Slash at) else if byte == 0 then Some (Nul at) else first_bad_byte (at + 1) rest

-- `.`, the folder itself, and `..`, the one that holds it
abbrev pub is_dots : List ℕ → Bool
is_dots text = bytes_eq text (46 ∷ []) || bytes_eq text (46 ∷ 46 ∷ [])

-- the first reason why a text is no name, or none
abbrev pub name_fault : List ℕ → Option NameError
name_fault text =
    if length text == 0 then Some Empty else
    if nat_lt 255 (length text) then Some (TooLong (length text)) else
    if is_some (first_bad_byte 0 text) then first_bad_byte 0 text else
    if is_dots text then Some Dots else None
