-- Which bracket belongs to which: brackets of one kind are counted, and others are passed over. Own;
-- mcedit(1) names the key alone.
use Rattle.std.specs.Prelude.{ℕ, ◌+◌, ◌-◌, ◌==◌, List, [], ◌∷◌, take, drop, reverse}
use Rattle.std.specs.Prelude.{slice_get, Option, Some, None, if◌then◌else◌}

-- what closes an opening bracket: ( by ), [ by ], { by }
abbrev pub closing_of : ℕ → Option ℕ
closing_of byte =
    if byte == 40 then Some 41 else if byte == 91 then Some 93 else if byte == 123 then Some 125 else None

-- what opens a closing bracket
abbrev pub opening_of : ℕ → Option ℕ
opening_of byte =
    if byte == 41 then Some 40 else if byte == 93 then Some 91 else if byte == 125 then Some 123 else None

-- how far away the partner of a bracket is, among the bytes that lie on its way; the first of them is
-- `away` far, and so many more of the same kind are open
abbrev pub partner_away : ℕ → ℕ → ℕ → ℕ → List ℕ → Option ℕ
partner_away ours partner open_ones away [] = None
partner_away ours partner open_ones away (byte ∷ rest) =
    if byte == ours then partner_away ours partner (open_ones + 1) (away + 1) rest
    else if byte == partner
    then (if open_ones == 0 then Some away else partner_away ours partner (open_ones - 1) (away + 1) rest)
    else partner_away ours partner open_ones (away + 1) rest

-- so far behind the place
abbrev pub place_behind : ℕ → Option ℕ → Option ℕ
place_behind at None = None
place_behind at (Some away) = Some (at + away)

-- so far before the place
abbrev pub place_before : ℕ → Option ℕ → Option ℕ
place_before at None = None
place_before at (Some away) = Some (at - away)

-- the partner of a byte that is opened by another, if it is one
abbrev pub partner_back : List ℕ → ℕ → ℕ → Option ℕ → Option ℕ
partner_back bytes at byte None = None
partner_back bytes at byte (Some opening) =
    place_before at (partner_away byte opening 0 1 (reverse (take at bytes)))

-- the partner of a byte that is closed by another, or else opened by it
abbrev pub partner_on : List ℕ → ℕ → ℕ → Option ℕ → Option ℕ
partner_on bytes at byte None = partner_back bytes at byte (opening_of byte)
partner_on bytes at byte (Some closing) =
    place_behind at (partner_away byte closing 0 1 (drop (at + 1) bytes))

-- the partner of what stands at the place
abbrev pub partner_of_byte : List ℕ → ℕ → Option ℕ → Option ℕ
partner_of_byte bytes at None = None
partner_of_byte bytes at (Some byte) = partner_on bytes at byte (closing_of byte)

-- the place of the bracket that belongs to the one at a place
abbrev pub partner_of : List ℕ → ℕ → Option ℕ
partner_of bytes at = partner_of_byte bytes at (slice_get bytes at)
