-- The size of the screen, as LINES and COLUMNS of the surroundings say it.
use Rattle.std.specs.Prelude.{ℕ, not, ◌&&◌, nat_lt, if◌then◌else◌, List, Option, Some, None}
use Rattle.main_words.specs.Numbers.{number_of}

-- lines, each of so many columns
pub record ScreenSize : Type 0 where
  pub lines : ℕ
  pub columns : ℕ

-- a number that isn't below the one nor above the other
abbrev pub kept_within : ℕ → ℕ → Option ℕ → Option ℕ
kept_within least most None = None
kept_within least most (Some n) = if not (nat_lt n least) && not (nat_lt most n) then Some n else None

-- the number within these bounds that a text of 1 to 3 decimal digits spells, where there is a text
abbrev pub number_within : ℕ → ℕ → Option (List ℕ) → Option ℕ
number_within least most None = None
number_within least most (Some text) = kept_within least most (number_of 3 text)

-- both numbers, or else 24 lines of 80 columns
abbrev pub size_or_usual : Option ℕ → Option ℕ → ScreenSize
size_or_usual None columns = record { lines = 24; columns = 80 }
size_or_usual (Some lines) None = record { lines = 24; columns = 80 }
size_or_usual (Some lines) (Some columns) = record { lines = lines; columns = columns }

-- LINES are 10 to 200 and COLUMNS 40 to 400; where either is missing or can't be read the screen is 24 by 80
abbrev pub size_said : Option (List ℕ) → Option (List ℕ) → ScreenSize
size_said lines columns = size_or_usual (number_within 10 200 lines) (number_within 40 400 columns)
