-- each byte goes on a front, ends a key, or breaks one off: these four cases give all that holds of the decoded keys
use Rattle.std.proofs.Common.{◌≡◌, ◌↔◌, inl, inr, ℕ, ◌≤◌, List, [], ◌∷◌, ◌++◌, length, refl, sym, ◌∙◌, ap, subst, arith, append_assoc, append-nil, length-append}
use Rattle.key_screen.specs.KeySpelling.{spelling_of, unknown}
use Rattle.key_screen.specs.DecodedKeys.{Decoded, decoded_after, decoded_afresh, decoded_keys, decoded_next, decoded_singly, followed_by, no_key, with_key}
use Rattle.key_screen.specs.KeyCuts.{IsCut, IsKeyBefore}
use Rattle.key_screen.specs.declared.keys.Key.{Key}
use Rattle.key_screen.specs.declared.spelling.Spelling.{Spelling}
use Rattle.key_screen.specs.declared.spelling.Spelling.TheVariants.{Partial, Whole, Broken}
use Rattle.key_screen.proofs.FrontLemmas.{spelling_of-front, spelling_of-one, spelling_of-short}
use Rattle.key_screen.proofs.DecodedLemmas.{decoded_after-front, decoded_keys-one_more}

-- what holds of a byte after a front, in each of the four cases, as a function of how what follows is decoded
record Cases (P : ((List ℕ → Decoded) → Decoded) → Type 0) (prefix : List ℕ) (byte : ℕ) : Type 0 where
  goes_on : spelling_of (prefix ++ byte ∷ []) ≡ Partial → P (λ after. after (prefix ++ byte ∷ []))
  ends : (key : Key) → spelling_of (prefix ++ byte ∷ []) ≡ Whole key → P (λ after. with_key key (after []))
  begins : spelling_of (prefix ++ byte ∷ []) ≡ Broken → spelling_of (byte ∷ []) ≡ Partial
      → P (λ after. with_key unknown (after (byte ∷ [])))
  alone : spelling_of (prefix ++ byte ∷ []) ≡ Broken → (key : Key) → spelling_of (byte ∷ []) ≡ Whole key
      → P (λ after. with_key unknown (with_key key (after [])))

broken_off : (P : ((List ℕ → Decoded) → Decoded) → Type 0) (prefix : List ℕ) (byte : ℕ) (s : Spelling) → spelling_of (byte ∷ []) ≡ s
    → spelling_of (prefix ++ byte ∷ []) ≡ Broken → Cases P prefix byte → P (λ after. with_key unknown (decoded_afresh s byte after))
broken_off P prefix byte Partial is broken cases = cases.begins broken is
broken_off P prefix byte (Whole key) is broken cases = cases.alone broken key is
broken_off P prefix byte Broken is broken cases = spelling_of-one byte is

by_case : (P : ((List ℕ → Decoded) → Decoded) → Type 0) (prefix : List ℕ) (byte : ℕ) (s : Spelling) → spelling_of (prefix ++ byte ∷ []) ≡ s
    → Cases P prefix byte → P (λ after. decoded_next s prefix byte after)
by_case P prefix byte Partial is cases = cases.goes_on is
by_case P prefix byte (Whole key) is cases = cases.ends key is
by_case P prefix byte Broken is cases = broken_off P prefix byte (spelling_of (byte ∷ [])) refl is cases

-- a byte after a front is one of the four
each_case : (P : ((List ℕ → Decoded) → Decoded) → Type 0) (prefix : List ℕ) (byte : ℕ) → Cases P prefix byte
    → P (λ after. decoded_next (spelling_of (prefix ++ byte ∷ [])) prefix byte after)
each_case P prefix byte cases = by_case P prefix byte (spelling_of (prefix ++ byte ∷ [])) refl cases

-- two runs of bytes behind a front
decoded_after-append : (prefix first second : List ℕ)
    → decoded_after prefix (first ++ second) ≡ followed_by (decoded_after prefix first) (λ rest. decoded_after rest second)
decoded_after-append prefix [] second = refl
decoded_after-append prefix (byte ∷ first) second =
    each_case (λ next. next (λ rest. decoded_after rest (first ++ second))
    ≡ followed_by (next (λ rest. decoded_after rest first)) (λ rest. decoded_after rest second)) prefix byte
    (record {
      goes_on = λ _. decoded_after-append (prefix ++ byte ∷ []) first second;
      ends = λ key _. ap (with_key key) (decoded_after-append [] first second);
      begins = λ _ _. ap (with_key unknown) (decoded_after-append (byte ∷ []) first second);
      alone = λ _ key _. ap (λ d. with_key unknown (with_key key d)) (decoded_after-append [] first second);
    })

-- the keys of the bytes behind a front are a cut of all of them
decoded_after-cut : (prefix bytes : List ℕ) → spelling_of prefix ≡ Partial
    → IsCut (prefix ++ bytes) (decoded_after prefix bytes).keys (decoded_after prefix bytes).rest
decoded_after-cut prefix [] partial = (append-nil prefix, partial)
decoded_after-cut prefix (byte ∷ bytes) partial =
    each_case (λ next. IsCut (prefix ++ byte ∷ bytes) (next (λ rest. decoded_after rest bytes)).keys (next (λ rest. decoded_after rest bytes)).rest) prefix byte
    (record {
      goes_on = λ is. subst (λ all. IsCut all (decoded_after (prefix ++ byte ∷ []) bytes).keys (decoded_after (prefix ++ byte ∷ []) bytes).rest)
          (append_assoc prefix (byte ∷ []) bytes) (decoded_after-cut (prefix ++ byte ∷ []) bytes is);
      ends = λ key is. (prefix ++ byte ∷ [], bytes, sym (append_assoc prefix (byte ∷ []) bytes), inl is, decoded_after-cut [] bytes refl);
      begins = λ broken is. (prefix, byte ∷ bytes, refl, inr (partial, broken, refl), decoded_after-cut (byte ∷ []) bytes is);
      alone = λ broken key is. (prefix, byte ∷ bytes, refl, inr (partial, broken, refl), (byte ∷ [], bytes, refl, inl is, decoded_after-cut [] bytes refl));
    })

-- the rest of a cut is the prefix of a key
cut-rest : (bytes : List ℕ) (keys : List Key) (rest : List ℕ) → IsCut bytes keys rest → spelling_of rest ≡ Partial
cut-rest bytes [] rest cut = cut.1
cut-rest bytes (key ∷ keys) rest cut = cut-rest cut.1 keys rest cut.4

-- what is left of any bytes is the prefix of a key
pub rest-partial : (bytes : List ℕ) → spelling_of (decoded_keys bytes).rest ≡ Partial
rest-partial bytes = cut-rest bytes (decoded_keys bytes).keys (decoded_keys bytes).rest (decoded_after-cut [] bytes refl)

-- bytes that come in two runs
pub decoded_keys-append : (first second : List ℕ)
    → decoded_keys (first ++ second) ≡ followed_by (decoded_keys first) (λ rest. decoded_keys (rest ++ second))
decoded_keys-append first second =
    let after : Decoded → Decoded = λ d. record d { keys = (decoded_keys first).keys ++ d.keys } in
    decoded_after-append [] first second ∙ ap after (sym (decoded_after-front [] (decoded_keys first).rest second (rest-partial first)))

-- bytes that come one by one
decoded_singly-after : (prefix bytes : List ℕ) → spelling_of prefix ≡ Partial → decoded_singly prefix bytes ≡ decoded_after prefix bytes
decoded_singly-after prefix [] partial = refl
decoded_singly-after prefix (byte ∷ bytes) partial =
    ap (λ d. followed_by d (λ rest. decoded_singly rest bytes)) (decoded_keys-one_more prefix byte (spelling_of (prefix ++ byte ∷ [])) partial refl)
    ∙ each_case (λ next. followed_by (next no_key) (λ rest. decoded_singly rest bytes) ≡ next (λ rest. decoded_after rest bytes)) prefix byte
    (record {
      goes_on = λ is. decoded_singly-after (prefix ++ byte ∷ []) bytes is;
      ends = λ key is. ap (with_key key) (decoded_singly-after [] bytes refl);
      begins = λ broken is. ap (with_key unknown) (decoded_singly-after (byte ∷ []) bytes is);
      alone = λ broken key is. ap (λ d. with_key unknown (with_key key d)) (decoded_singly-after [] bytes refl);
    })

pub decoded_singly-is : (bytes : List ℕ) → decoded_singly [] bytes ≡ decoded_keys bytes
decoded_singly-is bytes = decoded_singly-after [] bytes refl

-- the bytes of a whole key, and what follows them
decoded_after-whole : (prefix : List ℕ) (byte : ℕ) (piece after : List ℕ) (key : Key) → spelling_of (prefix ++ byte ∷ piece) ≡ Whole key
    → decoded_after prefix (byte ∷ piece ++ after) ≡ with_key key (decoded_keys after)
decoded_after-whole prefix byte [] after key whole = ap (λ s. decoded_next s prefix byte (λ rest. decoded_after rest after)) whole
decoded_after-whole prefix byte (next ∷ piece) after key whole =
    let all : spelling_of ((prefix ++ byte ∷ []) ++ next ∷ piece) ≡ Whole key = rw append_assoc whole in
    let partial : spelling_of (prefix ++ byte ∷ []) ≡ Partial =
    spelling_of-front (prefix ++ byte ∷ []) piece next (λ broken. let never : Whole key ≡ Broken = sym all ∙ broken in cc) in
    ap (λ s. decoded_next s prefix byte (λ rest. decoded_after rest (next ∷ piece ++ after))) partial
    ∙ decoded_after-whole (prefix ++ byte ∷ []) next piece after key all

-- a byte that is read afresh is read as the first one
afresh-first : (byte : ℕ) (bytes : List ℕ) (s : Spelling) → spelling_of (byte ∷ []) ≡ s
    → decoded_afresh s byte (λ rest. decoded_after rest bytes) ≡ decoded_next s [] byte (λ rest. decoded_after rest bytes)
afresh-first byte bytes Partial is = refl
afresh-first byte bytes (Whole key) is = refl
afresh-first byte bytes Broken is = spelling_of-one byte is

-- the first key of a cut, and what follows it
decoded_keys-first : (piece after : List ℕ) (key : Key) → IsKeyBefore piece key after → decoded_keys (piece ++ after) ≡ with_key key (decoded_keys after)
decoded_keys-first [] after key (inl whole) = absurd (let never : Partial ≡ Whole key = whole in cc)
decoded_keys-first (byte ∷ piece) after key (inl whole) = decoded_after-whole [] byte piece after key whole
decoded_keys-first piece [] key (inr broken) = absurd broken.1
decoded_keys-first piece (byte ∷ after) key (inr (partial, broken, is_unknown)) =
    decoded_after-front [] piece (byte ∷ after) partial
    ∙ ap (λ s. decoded_next s piece byte (λ rest. decoded_after rest after)) broken
    ∙ ap (with_key unknown) (afresh-first byte after (spelling_of (byte ∷ [])) refl)
    ∙ ap (λ k. with_key k (decoded_keys (byte ∷ after))) (sym is_unknown)

-- a cut is what is decoded
decoded_keys-cut : (bytes : List ℕ) (keys : List Key) (rest : List ℕ) → IsCut bytes keys rest → decoded_keys bytes ≡ record { keys = keys; rest = rest }
decoded_keys-cut bytes [] rest (same, partial) =
    ap decoded_keys (same ∙ sym (append-nil rest)) ∙ decoded_after-front [] rest [] partial
decoded_keys-cut bytes (key ∷ keys) rest (piece, after, same, first, cut) =
    ap decoded_keys same ∙ decoded_keys-first piece after key first ∙ ap (with_key key) (decoded_keys-cut after keys rest cut)

-- the grammar allows one cut
pub one_cut : (bytes rest : List ℕ) (keys : List Key) → IsCut bytes keys rest ↔ (decoded_keys bytes ≡ record { keys = keys; rest = rest })
one_cut bytes rest keys =
    (decoded_keys-cut bytes keys rest, λ is. subst (λ d. IsCut bytes d.keys d.rest) is (decoded_after-cut [] bytes refl))

-- a whole key is one byte longer than a front
whole-short : (prefix : List ℕ) (byte : ℕ) (piece : List ℕ) (key : Key) → spelling_of prefix ≡ Partial → spelling_of (prefix ++ byte ∷ piece) ≡ Whole key
    → length (prefix ++ byte ∷ piece) ≤ 19
whole-short prefix byte [] key partial whole = let short = spelling_of-short prefix partial in simp length-append (omega arith)
whole-short prefix byte (next ∷ piece) key partial whole =
    let all : spelling_of ((prefix ++ byte ∷ []) ++ next ∷ piece) ≡ Whole key = rw append_assoc whole in
    let longer : spelling_of (prefix ++ byte ∷ []) ≡ Partial =
    spelling_of-front (prefix ++ byte ∷ []) piece next (λ broken. let never : Whole key ≡ Broken = sym all ∙ broken in cc) in
    rw append_assoc at (whole-short (prefix ++ byte ∷ []) next piece key longer all)

-- no key has more than 19 bytes
pub key-short : (piece after : List ℕ) (key : Key) → IsKeyBefore piece key after → length piece ≤ 19
key-short [] after key is = omega arith
key-short (byte ∷ piece) after key (inl whole) = whole-short [] byte piece key refl whole
key-short (byte ∷ piece) after key (inr broken) = let short = spelling_of-short (byte ∷ piece) broken.0 in omega arith
