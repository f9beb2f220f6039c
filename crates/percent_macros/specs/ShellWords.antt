-- What the shell makes of a word (POSIX.1-2017, XCU 2.2 Quoting, 2.2.1 Escape Character, 2.2.2
-- Single-Quotes, 2.3 Token Recognition, 2.6.7 Quote Removal), as far as no expansion is in it.
use Rattle.std.specs.Prelude.{ℕ, Bool, ◌==◌, if◌then◌else◌, List, [], ◌∷◌, Option, Some, None, option_map}
use Rattle.std.specs.List.{list_any}

-- the bytes that mean something else than themselves where nothing quotes them (XCU 2.2), and { } ! of 2.4:
-- | & ; < > ( ) $ ` " blank tab newline * ? [ ] # ~ = % { } ! (of the quotes themselves says `word_in`)
abbrev pub is_special : ℕ → Bool
is_special byte =
    list_any (λ special. byte == special)
    (124 ∷ 38 ∷ 59 ∷ 60 ∷ 62 ∷ 40 ∷ 41 ∷ 36 ∷ 96 ∷ 34 ∷ 32 ∷ 9 ∷ 10 ∷ 42 ∷ 63 ∷ 91 ∷ 93 ∷ 35 ∷ 126 ∷ 61 ∷ 37
    ∷ 123 ∷ 125 ∷ 33 ∷ [])

-- what quotes the next byte
pub data Quotes : Type 0 where
  Unquoted : Quotes
  BehindBackslash : Quotes
  InSingleQuotes : Quotes

-- one byte more in front of a word
abbrev pub with_byte : ℕ → Option (List ℕ) → Option (List ℕ)
with_byte byte = option_map (λ word. byte ∷ word)

-- the bytes that a text means as one word; none where it is no whole word, or the shell would
-- expand it. A backslash makes the byte behind it plain, and vanishes with a newline; quotes make
-- all plain up to the next quote.
abbrev pub word_in : Quotes → List ℕ → Option (List ℕ)
word_in Unquoted [] = Some []
word_in BehindBackslash [] = None
word_in InSingleQuotes [] = None
word_in Unquoted (byte ∷ text) =
    if byte == 92 then word_in BehindBackslash text else
    if byte == 39 then word_in InSingleQuotes text else
    if is_special byte then None else with_byte byte (word_in Unquoted text)
word_in BehindBackslash (byte ∷ text) =
    if byte == 10 then word_in Unquoted text else with_byte byte (word_in Unquoted text)
word_in InSingleQuotes (byte ∷ text) =
    if byte == 39 then word_in Unquoted text else with_byte byte (word_in InSingleQuotes text)

abbrev pub shell_word : List ℕ → Option (List ℕ)
shell_word = word_in Unquoted
