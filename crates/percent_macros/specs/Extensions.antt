-- The extension of a name (own, after mc(1)): what stands behind its last dot that isn't its first byte.
use Rattle.std.specs.Prelude.{ℕ, ◌==◌, if◌then◌else◌, List, [], ◌∷◌, Option, Some, None}

-- a name's parts before and behind a dot
pub record NameParts : Type 0 where
  pub stem : List ℕ
  pub extension : List ℕ

-- a byte before the parts, or a dot that makes them
abbrev pub behind_byte : ℕ → List ℕ → Option NameParts → Option NameParts
behind_byte byte rest (Some parts) = Some (record { stem = byte ∷ parts.stem; extension = parts.extension })
behind_byte byte rest None = if byte == 46 then Some (record { stem = []; extension = rest }) else None

-- the parts of a text around its last dot
abbrev pub around_last_dot : List ℕ → Option NameParts
around_last_dot [] = None
around_last_dot (byte ∷ rest) = behind_byte byte rest (around_last_dot rest)

-- the parts behind a first byte; without a dot there all is stem
abbrev pub with_first : ℕ → List ℕ → Option NameParts → NameParts
with_first byte rest (Some parts) = record { stem = byte ∷ parts.stem; extension = parts.extension }
with_first byte rest None = record { stem = byte ∷ rest; extension = [] }

abbrev pub name_parts : List ℕ → NameParts
name_parts [] = record { stem = []; extension = [] }
name_parts (byte ∷ rest) = with_first byte rest (around_last_dot rest)
