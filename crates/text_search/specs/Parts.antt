-- What the search of a part says of the whole rest of a file.
use Rattle.std.specs.Prelude.{◌≡◌, ⊤, ℕ, ◌+◌, ◌<◌, ◌≤◌, Bool, false, List, length, take, drop}
use Rattle.text_search.specs.Lines.{first_line, in_lines}
use Rattle.text_search.specs.declared.sought.Sought.TheVariants.{At, TooLong}
use Rattle.text_search.specs.declared.sought.Part.{Part}
use Rattle.text_search.specs.declared.sought.Part.TheVariants as part

-- what a part says of a rest of a file that begins with it, at this place
abbrev pub Answers : List ℕ → ℕ → List ℕ → Part → Type 0
Answers text at rest (part.Found k) = in_lines text at 0 rest ≡ At (at + k)
Answers text at rest (part.Passed count) =
    in_lines text at 0 rest ≡ in_lines text (at + count) 0 (drop count rest)
Answers text at rest part.TooLong = in_lines text at 0 rest ≡ TooLong at

-- what is found lies within the part, and what is passed is at least a byte of it and at most the
-- newline that would follow
abbrev pub IsWithin : List ℕ → Part → Type 0
IsWithin bytes (part.Found k) = k ≤ length bytes
IsWithin bytes (part.Passed count) = (1 ≤ count) × (count ≤ length bytes + 1)
IsWithin bytes part.TooLong = ⊤

-- so many bytes are the first line of a part; where the file doesn't end with the part a newline follows
pub record IsLine (part : List ℕ) (is_last : Bool) (count : ℕ) : Type 0 where
  pub line : first_line part ≡ take count part
  pub within : count ≤ length part
  pub ended : is_last ≡ false → count < length part
