-- bytes after the prefix of a key are decoded as they are after the bytes of that front
use Rattle.std.proofs.Common.{◌≡◌, ℕ, List, [], ◌∷◌, ◌++◌, refl, sym, ◌∙◌, ap, append_assoc, append-nil, ◌<◌, ◌≤◌, ◌+◌, length, take, set, arith, length-append}
use Rattle.std.proofs.lemmas.List.{length-take-le}
use Rattle.std.proofs.lemmas.List.{take_more_set}
use Rattle.key_screen.specs.KeySpelling.{spelling_of}
use Rattle.key_screen.specs.DecodedKeys.{Decoded, decoded_after, decoded_keys, decoded_next, no_key, keys_fed}
use Rattle.key_screen.specs.declared.keys.Fed.{Fed}
use Rattle.key_screen.specs.declared.spelling.Spelling.{Spelling}
use Rattle.key_screen.specs.declared.spelling.Spelling.TheVariants.{Partial, Broken}
use Rattle.key_screen.proofs.FrontLemmas.{spelling_of-front, spelling_of-short}

-- the keys that a reader told, and the bytes that it holds
abbrev pub with_fed : Fed → List ℕ → Decoded
with_fed f rest = record { keys = keys_fed f; rest = rest }

-- a byte that goes on the prefix of a key is the last of a longer front
decoded_next-partial : (prefix : List ℕ) (byte : ℕ) (after : List ℕ → Decoded) → spelling_of (prefix ++ byte ∷ []) ≡ Partial
    → decoded_next (spelling_of (prefix ++ byte ∷ [])) prefix byte after ≡ after (prefix ++ byte ∷ [])
decoded_next-partial prefix byte after partial = ap (λ s. decoded_next s prefix byte after) partial

-- what begins the prefix of a key is the prefix of a key
pub front-front : (a b : List ℕ) → spelling_of (a ++ b) ≡ Partial → spelling_of a ≡ Partial
front-front a [] partial = ap spelling_of (sym (append-nil a)) ∙ partial
front-front a (byte ∷ b) partial = spelling_of-front a b byte (λ broken. let never : Partial ≡ Broken = sym partial ∙ broken in cc)

-- the prefix of a key may be read before the rest or with it
pub decoded_after-front : (a b bytes : List ℕ) → spelling_of (a ++ b) ≡ Partial → decoded_after a (b ++ bytes) ≡ decoded_after (a ++ b) bytes
decoded_after-front a [] bytes partial = ap (λ prefix. decoded_after prefix bytes) (sym (append-nil a))
decoded_after-front a (byte ∷ b) bytes partial =
    let all : spelling_of ((a ++ byte ∷ []) ++ b) ≡ Partial = rw append_assoc partial in
    decoded_next-partial a byte (λ prefix. decoded_after prefix (b ++ bytes)) (front-front (a ++ byte ∷ []) b all)
    ∙ decoded_after-front (a ++ byte ∷ []) b bytes all
    ∙ ap (λ prefix. decoded_after prefix bytes) (append_assoc a (byte ∷ []) b)

-- the keys of the prefix of a key and one more byte, by what they spell
pub decoded_keys-one_more : (prefix : List ℕ) (byte : ℕ) (s : Spelling) → spelling_of prefix ≡ Partial → spelling_of (prefix ++ byte ∷ []) ≡ s
    → decoded_keys (prefix ++ byte ∷ []) ≡ decoded_next s prefix byte no_key
decoded_keys-one_more prefix byte s partial is =
    decoded_after-front [] prefix (byte ∷ []) partial ∙ ap (λ spelling. decoded_next spelling prefix byte no_key) is

-- the bytes that a reader holds, with the next one behind them
pub spelling_of-held : (bytes : List ℕ) (count byte : ℕ) (prefix : List ℕ) (s : Spelling) → count < length bytes → take count bytes ≡ prefix
    → s ≡ spelling_of (take (count + 1) (set bytes count byte)) → spelling_of (prefix ++ byte ∷ []) ≡ s
spelling_of-held bytes count byte prefix s room held is =
    ap (λ f. spelling_of (f ++ byte ∷ [])) (sym held) ∙ ap spelling_of (sym (take_more_set bytes count byte room)) ∙ sym is

-- the first byte that a reader holds, alone
pub spelling_of-first : (bytes : List ℕ) (byte : ℕ) (s : Spelling) → 0 < length bytes
    → s ≡ spelling_of (take 1 (set bytes 0 byte)) → spelling_of (byte ∷ []) ≡ s
spelling_of-first bytes byte s room is = spelling_of-held bytes 0 byte [] s room refl is

-- the keys that a reader tells, and what it holds then
pub told : (f g : Fed) (held rest : List ℕ) → f ≡ g → held ≡ rest
    → with_fed g rest ≡ with_fed f held
told f g held rest same_keys same_rest = cc

-- a reader that holds the prefix of a key has room for one more byte
pub held-short : (bytes : List ℕ) (count byte : ℕ) → count < length bytes → spelling_of (take (count + 1) (set bytes count byte)) ≡ Partial → count + 1 ≤ 18
held-short bytes count byte room partial =
    let short : length (take count bytes ++ byte ∷ []) ≤ 18 = spelling_of-short _ (ap spelling_of (sym (take_more_set bytes count byte room)) ∙ partial) in
    let whole : count ≤ length bytes = omega arith in
    omega (arith, simp (length-append, length-take-le) at short)
