-- Where a regular expression is first found in a file, line by line (own: of what a line may have; its
-- meaning is that of the crate `regex`, in its form for bytes).
use Rattle.std.specs.Prelude.{◌≡◌, ℕ, zero, suc, ◌+◌, ◌==◌, Bool, false, nat_lt, List, [], ◌∷◌}
use Rattle.std.specs.Prelude.{length, Option, Some, None, is_some, option_map, chars, if◌then◌else◌}
use Rattle.std.specs.Option.{option_map_or}
use Rattle.regex.specs.Patterns.{Re, Config, default_config, SameCaptures, find}
use Rattle.regex_syntax.specs.Brackets.{Nested}
use Rattle.regex_syntax.specs.Grammar.{read, Names}
use Rattle.text_search.specs.declared.sought.Sought.{Sought}
use Rattle.text_search.specs.declared.sought.Sought.TheVariants.{At, Nowhere, TooLong, NoPattern}

-- the options of a regular expression that may find what is no UTF-8
abbrev pub bytes_config : Config
bytes_config = record default_config { utf8 = false }

-- the pattern, where it isn't nested past the limit
abbrev pub within : ℕ → Option (Nested Re × Names) → Option Re
within limit None = None
within limit (Some (re, names)) = if nat_lt limit re.depth then None else Some re.value

-- what the grammar reads in the text
unfoldable pub meaning_of : List ℕ → Option Re
meaning_of text = within bytes_config.nest_limit (read bytes_config (chars text))

-- the text is a regular expression
unfoldable pub is_pattern : List ℕ → Bool
is_pattern text = is_some (meaning_of text)

-- a compiled pattern finds what the text means
pub record IsMeantBy (text : List ℕ) (compiled : Re) : Type 0 where
  pub re : Re
  pub is : meaning_of text ≡ Some re
  pub same : SameCaptures compiled re

-- where what is found in a line begins
unfoldable pub line_place : List ℕ → List ℕ → Option ℕ
line_place text line = option_map_or (λ re. option_map (λ m. m.start) (find re line 0)) (meaning_of text) None

-- the bytes of the first line, without the newline behind it
unfoldable pub first_line : List ℕ → List ℕ
first_line [] = []
first_line (byte ∷ rest) = if byte == 10 then [] else byte ∷ first_line rest

-- what a line comes to that begins at a place, where `behind` is what comes of those behind it; one of more
-- than 1,048,576 bytes isn't searched
abbrev pub with_line : List ℕ → ℕ → List ℕ → Sought → Sought
with_line text at line behind =
    if nat_lt 1048576 (length line) then TooLong at
    else option_map_or (λ k. At (at + k)) (line_place text line) behind

-- what the lines of a rest of a file come to that begins at this place; so many bytes of
-- it belong to a line before
unfoldable pub in_lines : List ℕ → ℕ → ℕ → List ℕ → Sought
in_lines text at skip [] = Nowhere
in_lines text at (suc skip) (byte ∷ rest) = in_lines text (at + 1) skip rest
in_lines text at zero (byte ∷ rest) =
    let line = first_line (byte ∷ rest) in with_line text at line (in_lines text (at + 1) (length line) rest)

-- what a search for a regular expression comes to
abbrev pub lines_sought : List ℕ → ℕ → List ℕ → Sought
lines_sought text at rest = if is_pattern text then in_lines text at 0 rest else NoPattern
