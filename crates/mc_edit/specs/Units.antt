-- The units of a line, by which a point moves: the extended grapheme clusters of UAX #29 where the line is
-- valid UTF-8, and else its bytes (own).
use Rattle.std.specs.Prelude.{ℕ, ◌+◌, nat_lt, true, List, [], ◌∷◌, ◌++◌, map, length, if◌then◌else◌}
use Rattle.std.specs.Str.{is_utf8}
use Rattle.unicode_segmentation.specs.Grapheme.{graphemes}
use Rattle.unicode_segmentation.specs.Iter.{graphemes_left}
use Rattle.mc_edit.specs.declared.units.Units.{Units}

-- each byte by itself
abbrev pub single_bytes : List ℕ → List (List ℕ)
single_bytes line = map (λ byte. byte ∷ []) line

-- the units of a line
unfoldable pub units : List ℕ → List (List ℕ)
units line = if is_utf8 line then graphemes true line else single_bytes line

-- the end of the unit that holds the place, or the end of the line; the first unit begins at `start`
abbrev pub end_after : ℕ → ℕ → List (List ℕ) → ℕ
end_after start at [] = start
end_after start at (unit ∷ rest) =
    let end = start + length unit in
    if nat_lt at end then end else end_after end at rest

-- the start of the last unit that begins before the place, or `start`, where the first unit begins
abbrev pub start_before : ℕ → ℕ → List (List ℕ) → ℕ
start_before start at [] = start
start_before start at (unit ∷ rest) =
    let end = start + length unit in
    if nat_lt end at then start_before end at rest else start

-- the units that an iterator has left
abbrev pub units_left : Units → List (List ℕ)
units_left units = graphemes_left units.clusters ++ single_bytes units.bytes.now
