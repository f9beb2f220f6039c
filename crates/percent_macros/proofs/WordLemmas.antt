-- Each quoted byte is one byte of the word that the shell reads. Of the ASCII bytes this is tried one by one.
use Rattle.std.proofs.Common.{◌≡◌, ℕ, zero, suc, ◌≤◌, ◌<◌, Bool, false, true, cond, not, ◌==◌, ◌||◌, ◌&&◌, List, [], ◌∷◌, ◌++◌, Some, None, refl, ap, ◌∙◌, sym, arith, ⊎_elim, subst, ltb, lit<}
use Rattle.std.proofs.lemmas.Bool.Decides.{nat_tests}
use Rattle.std.specs.List.{list_any}
use Rattle.std.proofs.lemmas.Bool.{cases_lt}
use Rattle.percent_macros.specs.Quoting.{is_plain, quoted_byte, quoted_bytes}
use Rattle.percent_macros.specs.ShellWords.{is_special, Unquoted, BehindBackslash, InSingleQuotes, with_byte, word_in, shell_word}

-- what a plain byte is to the shell
record StandsForItself (byte : ℕ) : Type 0 where
  no_backslash : (byte == 92) ≡ false
  no_quote : (byte == 39) ≡ false
  not_special : is_special byte ≡ false

abbrev test : ℕ → Bool
test byte = not (is_plain byte) || (not (byte == 92) && not (byte == 39) && not (is_special byte))

abbrev all_below : ℕ → Bool
all_below zero = true
all_below (suc n) = test n && all_below n

all_ascii : all_below 128 ≡ true
all_ascii = refl

split : (a b : Bool) → (a && b) ≡ true → (a ≡ true) × (b ≡ true)
split true b e = (refl, e)
split false b e = absurd (cc)

at_byte : (n byte : ℕ) → byte < n → all_below n ≡ true → test byte ≡ true
at_byte zero byte below passes = absurd (omega arith)
at_byte (suc n) byte below passes =
    ⊎_elim (λ less. at_byte n byte less (split (test n) (all_below n) passes).1)
    (λ same. subst (λ k. test k ≡ true) (let e : n ≡ byte = omega arith in e) (split (test n) (all_below n) passes).0)
    (cases_lt byte n)

passed : (plain backslash quote special : Bool) → plain ≡ true → (not plain || (not backslash && not quote && not special)) ≡ true
    → (backslash ≡ false) × (quote ≡ false) × (special ≡ false)
passed true false false false is e = (refl, refl, refl)
passed true true quote special is e = absurd (cc)
passed true false true special is e = absurd (cc)
passed true false false true is e = absurd (cc)
passed false backslash quote special is e = absurd (cc)

abbrev all_small : List ℕ → Bool
all_small [] = true
all_small (k ∷ listed) = ltb k 128 && all_small listed

not_listed : (byte : ℕ) (listed : List ℕ) → 128 ≤ byte → all_small listed ≡ true → list_any (λ k. byte == k) listed ≡ false
not_listed byte [] high small = refl
not_listed byte (k ∷ listed) high small =
    let parts = split (ltb k 128) (all_small listed) small in
    ap (λ is. is || list_any (λ other. byte == other) listed) (differs k (small_at k parts.0)) ∙ not_listed byte listed high parts.1
  where
    differs : (k : ℕ) → k < 128 → (byte == k) ≡ false
    differs k below = grind arith

    small_at : (k : ℕ) → ltb k 128 ≡ true → k < 128
    small_at k is = grind (arith, nat_tests)

stands_high : (byte : ℕ) → 128 ≤ byte → StandsForItself byte
stands_high byte high = record {
  no_backslash = differs 92 (lit< tt);
  no_quote = differs 39 (lit< tt);
  not_special = not_listed byte (124 ∷ 38 ∷ 59 ∷ 60 ∷ 62 ∷ 40 ∷ 41 ∷ 36 ∷ 96 ∷ 34 ∷ 32 ∷ 9 ∷ 10 ∷ 42 ∷ 63 ∷ 91 ∷ 93 ∷ 35 ∷ 126 ∷ 61 ∷ 37 ∷ 123 ∷ 125 ∷ 33 ∷ []) high refl;
}
  where
    differs : (k : ℕ) → k < 128 → (byte == k) ≡ false
    differs k below = grind arith

stands : (byte : ℕ) → is_plain byte ≡ true → StandsForItself byte
stands byte plain =
    ⊎_elim (λ low.
    let found = passed (is_plain byte) (byte == 92) (byte == 39) (is_special byte) plain (at_byte 128 byte low all_ascii) in
    record { no_backslash = found.0; no_quote = found.1; not_special = found.2 })
    (λ high. stands_high byte high) (cases_lt byte 128)

-- one byte of the word
word_in-quoted_byte : (byte : ℕ) (rest : List ℕ) → word_in Unquoted (quoted_byte byte ++ rest) ≡ with_byte byte (word_in Unquoted rest)
word_in-quoted_byte byte rest = go (byte == 10) (is_plain byte) refl refl
  where
    same : (a b : ℕ) → (a == b) ≡ true → a ≡ b
    same a b is = grind (arith, nat_tests)

    go : (newline plain : Bool) → (byte == 10) ≡ newline → is_plain byte ≡ plain
        → word_in Unquoted (cond newline (39 ∷ 10 ∷ 39 ∷ []) (cond plain (byte ∷ []) (92 ∷ byte ∷ [])) ++ rest) ≡ with_byte byte (word_in Unquoted rest)
    go true plain is _ = ap (λ b. with_byte b (word_in Unquoted rest)) (sym (same byte 10 is))
    go false true is plain =
        let itself = stands byte plain in
        ap (λ t. cond t (word_in BehindBackslash rest) (cond (byte == 39) (word_in InSingleQuotes rest)
        (cond (is_special byte) None (with_byte byte (word_in Unquoted rest))))) itself.no_backslash
        ∙ ap (λ t. cond t (word_in InSingleQuotes rest) (cond (is_special byte) None (with_byte byte (word_in Unquoted rest)))) itself.no_quote
        ∙ ap (λ t. cond t None (with_byte byte (word_in Unquoted rest))) itself.not_special
    go false false is plain = ap (λ t. cond t (word_in Unquoted rest) (with_byte byte (word_in Unquoted rest))) is

-- the shell reads a quoted text as the text
pub shell_word-quoted : (text : List ℕ) → shell_word (quoted_bytes text) ≡ Some text
shell_word-quoted [] = refl
shell_word-quoted (byte ∷ text) =
    word_in-quoted_byte byte (quoted_bytes text) ∙ ap (with_byte byte) (shell_word-quoted text)
