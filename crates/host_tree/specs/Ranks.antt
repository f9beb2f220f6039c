-- The number by which names are put in order before their texts are read (own).
use Rattle.std.specs.Prelude.{ℕ, zero, suc, ◌+◌, ◌*◌, ◌<◌, List, drop, get_or}

-- these are bytes
abbrev pub AreBytes : List ℕ → Type 0
AreBytes bytes = (k : ℕ) → get_or bytes k 0 < 256

-- a number with so many more digits in base 256: the next bytes, or zeros where there are none
abbrev pub rank_from : ℕ → ℕ → List ℕ → ℕ
rank_from rank zero bytes = rank
rank_from rank (suc count) bytes = rank_from (rank * 256 + get_or bytes 0 0) count (drop 1 bytes)

-- the number that the first eight bytes of a name spell
abbrev pub rank_of : List ℕ → ℕ
rank_of name = rank_from 0 8 name
