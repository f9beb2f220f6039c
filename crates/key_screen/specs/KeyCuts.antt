-- Which cuts of a list of bytes into keys the grammar allows: each piece spells its key, or was broken off.
use Rattle.std.specs.Prelude.{◌≡◌, ◌⊎◌, ℕ, List, [], ◌∷◌, ◌++◌}
use Rattle.key_screen.specs.declared.keys.Key.{Key}
use Rattle.key_screen.specs.declared.spelling.Spelling.TheVariants.{Partial, Whole, Broken}
use Rattle.key_screen.specs.KeySpelling.{spelling_of, unknown}

-- bytes begin with one that can't go on the prefix of a key
abbrev pub BreaksOff : List ℕ → List ℕ → Type 0
BreaksOff prefix [] = ⊥
BreaksOff prefix (byte ∷ bytes) = spelling_of (prefix ++ byte ∷ []) ≡ Broken

-- a piece before other bytes is this key: it spells it, or it is the prefix of one,
-- broken off, and is unknown
abbrev pub IsKeyBefore : List ℕ → Key → List ℕ → Type 0
IsKeyBefore piece key after =
    (spelling_of piece ≡ Whole key)
    ⊎ ((spelling_of piece ≡ Partial) × BreaksOff piece after × (key ≡ unknown))

-- the bytes are cut into these keys, up to a rest that is the prefix of one
abbrev pub IsCut : List ℕ → List Key → List ℕ → Type 0
IsCut bytes [] rest = (bytes ≡ rest) × (spelling_of rest ≡ Partial)
IsCut bytes (key ∷ keys) rest =
    (piece : List ℕ) × (after : List ℕ) × (bytes ≡ piece ++ after) × IsKeyBefore piece key after
    × IsCut after keys rest
