-- The bytes of a character that isn't ASCII (Unicode, table 3-6: each byte has its top bit set).
use Rattle.std.specs.Prelude.{ℕ, ◌≤◌, List}
use Rattle.std.specs.List.{AllByRecursion}

-- no byte of the text is ASCII
abbrev pub AreHigh : List ℕ → Type 0
AreHigh text = AllByRecursion (λ byte. 128 ≤ byte) text
