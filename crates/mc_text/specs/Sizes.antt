-- A size in few bytes (own; the units are those of `ls -h` and of du(1)).
use Rattle.std.specs.Prelude.{ℕ, ◌/◌, ◌^◌, max, nat_le, List, [], ◌∷◌, ◌++◌, length, if◌then◌else◌}
use Rattle.std.specs.Fmt.{decimal}

-- a size in whole units of so many bytes, with the unit's letter
abbrev pub in_units : ℕ → ℕ → ℕ → List ℕ
in_units size bytes letter = decimal (size / bytes) ++ letter ∷ []

-- in units of 1024^k bytes, K, M, G, T, P and E
unfoldable pub unit_texts : ℕ → List (List ℕ)
unit_texts size =
    in_units size (1024 ^ 1) 75 ∷ in_units size (1024 ^ 2) 77 ∷ in_units size (1024 ^ 3) 71
    ∷ in_units size (1024 ^ 4) 84 ∷ in_units size (1024 ^ 5) 80 ∷ in_units size (1024 ^ 6) 69 ∷ []

-- the first text of at most so many bytes
abbrev pub first_within : ℕ → List (List ℕ) → List ℕ
first_within room [] = []
first_within room (text ∷ texts) = if nat_le (length text) room then text else first_within room texts

-- the first text of a size, in bytes or in units, that fits the columns, or four bytes where these are fewer
unfoldable pub size_text : ℕ → ℕ → List ℕ
size_text size columns = first_within (max columns 4) (decimal size ∷ unit_texts size)
