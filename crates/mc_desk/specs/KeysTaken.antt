-- The keys of a session, by the bytes that it took.
use Rattle.std.specs.Prelude.{◌≡◌, ◌⊎◌, ℕ, ◌≤◌, Bool, true, List, [], ◌∷◌, ◌++◌, length, take}
use Rattle.key_screen.specs.declared.keys.Key.{Key as KeyType}
use Rattle.key_screen.specs.DecodedKeys.{decoded_keys}
use Rattle.session_entries.specs.declared.history.Entry.{Entry}
use Rattle.mc_desk.specs.KeysAndFaults.{keys_in}

-- the byte of C-c, the key that stops a search
abbrev pub stop_byte : ℕ
stop_byte = 3

-- the last of these bytes completed two keys, of which the history lacks the second
pub record LacksSecond (bytes : List ℕ) (newest : List Entry) : Type 0 where
  pub prefix : List ℕ
  pub last : ℕ
  pub first : KeyType
  pub second : KeyType
  pub bytes_are : bytes ≡ prefix ++ last ∷ []
  pub completed : (decoded_keys bytes).keys ≡ (decoded_keys prefix).keys ++ first ∷ second ∷ []
  pub has : keys_in newest ≡ (decoded_keys prefix).keys ++ first ∷ []

-- Of what the keyboard gives so many bytes were taken, a prefix of it, and their keys are those of the
-- history; in a closed session the history may lack the second of two that the last byte completed.
pub record Reads (bytes : List ℕ) (taken : ℕ) (closed : Bool) (newest : List Entry) : Type 0 where
  pub some : taken ≤ length bytes
  pub keys : ((decoded_keys (take taken bytes)).keys ≡ keys_in newest)
      ⊎ ((closed ≡ true) × LacksSecond (take taken bytes) newest)
