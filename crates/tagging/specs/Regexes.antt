-- What a regular expression over names means, by the grammar and the search of the crate `regex`.
use Rattle.std.specs.Prelude.{◌≡◌, ℕ, Bool, false, nat_le, List, Option}
use Rattle.std.specs.Prelude.{Some, None, is_some, chars, if◌then◌else◌}
use Rattle.std.specs.Option.{option_map_or}
use Rattle.regex.specs.Patterns.{Re, default_config, SameCaptures, find_str}
use Rattle.regex_syntax.specs.Brackets.{Nested}
use Rattle.regex_syntax.specs.Grammar.{read, Names}

-- the pattern, where it isn't nested past the limit
abbrev pub within : ℕ → Option (Nested Re × Names) → Option Re
within limit None = None
within limit (Some (re, names)) = if nat_le re.depth limit then Some re.value else None

-- what the grammar reads in the text
unfoldable pub meaning_of : List ℕ → Option Re
meaning_of text = within default_config.nest_limit (read default_config (chars text))

-- the regular expression is found somewhere in the name
unfoldable pub found_in : List ℕ → List ℕ → Bool
found_in text name = option_map_or (λ re. is_some (find_str re name 0)) (meaning_of text) false

-- a compiled pattern finds and captures what the text means
pub record IsMeantBy (text : List ℕ) (compiled : Re) : Type 0 where
  pub re : Re
  pub is : meaning_of text ≡ Some re
  pub same : SameCaptures compiled re
