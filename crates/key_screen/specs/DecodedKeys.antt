-- The only cut of a list of bytes into keys: what has come of a key is broken off by a
-- byte that can't go on it.
use Rattle.std.specs.Prelude.{◌≡◌, ℕ, List, [], ◌∷◌, ◌++◌, Option, Some, None}
use Rattle.key_screen.specs.declared.keys.Key.{Key}
use Rattle.key_screen.specs.declared.keys.Fed.{Fed}
use Rattle.key_screen.specs.declared.spelling.Spelling.{Spelling}
use Rattle.key_screen.specs.declared.spelling.Spelling.TheVariants.{Partial, Whole, Broken}
use Rattle.key_screen.specs.KeySpelling.{spelling_of, unknown}

-- the keys that bytes spell, and the bytes after the last of them, which are the prefix of a key
pub record Decoded : Type 0 where
  pub keys : List Key
  pub rest : List ℕ

-- no key, and the prefix of one
abbrev pub no_key : List ℕ → Decoded
no_key prefix = record { keys = []; rest = prefix }

-- one more key in front
abbrev pub with_key : Key → Decoded → Decoded
with_key key decoded = record decoded { keys = key ∷ decoded.keys }

-- a byte that begins a key, or is one, by what it spells alone; `after` decodes what
-- follows the prefix of a key
abbrev pub decoded_afresh : Spelling → ℕ → (List ℕ → Decoded) → Decoded
decoded_afresh Partial byte after = after (byte ∷ [])
decoded_afresh (Whole key) byte after = with_key key (after [])
decoded_afresh Broken byte after = after []

-- a byte that goes on the prefix of a key, makes it whole, or breaks it off and is read
-- afresh, by what they spell
abbrev pub decoded_next : Spelling → List ℕ → ℕ → (List ℕ → Decoded) → Decoded
decoded_next Partial prefix byte after = after (prefix ++ byte ∷ [])
decoded_next (Whole key) prefix byte after = with_key key (after [])
decoded_next Broken prefix byte after = with_key unknown (decoded_afresh (spelling_of (byte ∷ [])) byte after)

-- the keys of bytes that come after the prefix of a key
abbrev pub decoded_after : List ℕ → List ℕ → Decoded
decoded_after prefix [] = no_key prefix
decoded_after prefix (byte ∷ bytes) =
    decoded_next (spelling_of (prefix ++ byte ∷ [])) prefix byte (λ next. decoded_after next bytes)

-- the keys of a list of bytes
abbrev pub decoded_keys : List ℕ → Decoded
decoded_keys = decoded_after []

-- the keys that a byte completes
abbrev pub keys_completed : Option Key → Option Key → Fed
keys_completed first second = record { first = first; second = second }

-- an optional key as a list
abbrev pub list_of_key : Option Key → List Key
list_of_key None = []
list_of_key (Some key) = key ∷ []

-- the keys that a byte completed, in order
abbrev pub keys_fed : Fed → List Key
keys_fed f = list_of_key f.first ++ list_of_key f.second

-- the first of two keys is the unknown one
abbrev pub IsUnknownFirst : Fed → Type 0
IsUnknownFirst f = f.first ≡ Some unknown

-- a byte broke off the prefix of a key, and was read afresh
abbrev pub IsFedAfresh : ℕ → Fed → List ℕ → Type 0
IsFedAfresh byte f rest =
    with_key unknown (decoded_afresh (spelling_of (byte ∷ [])) byte no_key)
    ≡ record { keys = keys_fed f; rest = rest }

-- what follows is decoded behind the rest of what came before
abbrev pub followed_by : Decoded → (List ℕ → Decoded) → Decoded
followed_by before after = record (after before.rest) { keys = before.keys ++ (after before.rest).keys }

-- bytes that are fed one by one, behind the prefix of a key, each decoded with the rest of those before it
abbrev pub decoded_singly : List ℕ → List ℕ → Decoded
decoded_singly prefix [] = no_key prefix
decoded_singly prefix (byte ∷ bytes) =
    followed_by (decoded_keys (prefix ++ byte ∷ [])) (λ rest. decoded_singly rest bytes)
