-- The units of a file: the characters of valid UTF-8, and each byte that belongs to none (own).
use Rattle.std.specs.Prelude.{ℕ, Bool, ◌&&◌, nat_le, List, take, if◌then◌else◌}
use Rattle.std.specs.Str.{is_utf8}

-- the bytes of the first unit: the shortest front that is UTF-8, of at most 4 bytes (RFC
-- 3629, section 3), or else one
unfoldable pub unit_length : List ℕ → ℕ
unit_length bytes =
    if is_utf8 (take 1 bytes) then 1 else
    if is_utf8 (take 2 bytes) then 2 else
    if is_utf8 (take 3 bytes) then 3 else
    if is_utf8 (take 4 bytes) then 4 else 1

-- the first unit
abbrev pub first_unit : List ℕ → List ℕ
first_unit bytes = take (unit_length bytes) bytes

-- a printable character of ASCII
abbrev pub is_plain : ℕ → Bool
is_plain byte = nat_le 32 byte && nat_le byte 126
