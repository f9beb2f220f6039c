-- The lines of a hotlist's file (own, after mc(1), "Hotlist"): ENTRY "label" URL "path", GROUP "label",
-- ENDGROUP. Bytes: tab 9, blank 32, " 34, # 35, \ 92.
use Rattle.std.specs.Prelude.{ℕ, Bool, true, false, ◌==◌, ◌||◌, if◌then◌else◌, List}
use Rattle.std.specs.Prelude.{[], ◌∷◌, Option, Some, None, option_and_then, codes}

-- what a line says: an entry, the begin of a group, or the end of one
pub data ParsedLine : Type 0 where
  EntryLine : (label path : List ℕ) → ParsedLine
  GroupLine : (label : List ℕ) → ParsedLine
  EndLine : ParsedLine

-- a line is passed over, or says something, or is bad
pub data LineReading : Type 0 where
  Passed : LineReading
  Parsed : ParsedLine → LineReading
  Bad : LineReading

-- words that are read from a text, and the text behind them
pub record ReadText : Type 0 where
  pub text : List ℕ
  pub rest : List ℕ

-- the text behind a word with which it begins
abbrev pub behind_word : List ℕ → List ℕ → Option (List ℕ)
behind_word [] text = Some text
behind_word (letter ∷ word) [] = None
behind_word (letter ∷ word) (byte ∷ text) = if byte == letter then behind_word word text else None

-- the text behind its leading blanks
abbrev pub without_blanks : List ℕ → List ℕ
without_blanks [] = []
without_blanks (byte ∷ text) = if byte == 32 then without_blanks text else byte ∷ text

-- the text behind blanks, of which there is one at least
abbrev pub behind_blanks : List ℕ → Option (List ℕ)
behind_blanks [] = None
behind_blanks (byte ∷ text) = if byte == 32 then Some (without_blanks text) else None

-- a byte more in front of a text that was read
abbrev pub with_byte : ℕ → Option ReadText → Option ReadText
with_byte byte None = None
with_byte byte (Some read) = Some (record { text = byte ∷ read.text; rest = read.rest })

-- a text up to the quote that ends it; a backslash stands before a quote or a
-- backslash, and before nothing else
abbrev pub up_to_quote : Bool → List ℕ → Option ReadText
up_to_quote escaped [] = None
up_to_quote true (byte ∷ text) =
    if byte == 34 || byte == 92 then with_byte byte (up_to_quote false text) else None
up_to_quote false (byte ∷ text) =
    if byte == 34 then Some (record { text = []; rest = text }) else
    if byte == 92 then up_to_quote true text else with_byte byte (up_to_quote false text)

-- a text in quotes
abbrev pub quoted_text : List ℕ → Option ReadText
quoted_text [] = None
quoted_text (byte ∷ text) = if byte == 34 then up_to_quote false text else None

-- a text in quotes behind blanks
abbrev pub spaced_text : List ℕ → Option ReadText
spaced_text text = option_and_then quoted_text (behind_blanks text)

-- nothing stands behind the last word
abbrev pub alone : ParsedLine → List ℕ → Option ParsedLine
alone line [] = Some line
alone line (byte ∷ rest) = None

-- an entry behind its label
abbrev pub entry_behind_label : ReadText → Option ParsedLine
entry_behind_label label =
    option_and_then (λ path. alone (EntryLine label.text path.text) path.rest)
    (option_and_then spaced_text (option_and_then (behind_word (codes "URL")) (behind_blanks label.rest)))

-- the line behind the word ENTRY, behind GROUP, and behind ENDGROUP
abbrev pub entry_line : List ℕ → Option ParsedLine
entry_line text = option_and_then entry_behind_label (spaced_text text)

abbrev pub group_line : List ℕ → Option ParsedLine
group_line text = option_and_then (λ label. alone (GroupLine label.text) label.rest) (spaced_text text)

abbrev pub parsed_or_bad : Option ParsedLine → LineReading
parsed_or_bad None = Bad
parsed_or_bad (Some line) = Parsed line

-- a line by its first word
abbrev pub behind_first_word : Option (List ℕ) → Option (List ℕ) → Option (List ℕ) → LineReading
behind_first_word (Some text) group end = parsed_or_bad (entry_line text)
behind_first_word None (Some text) end = parsed_or_bad (group_line text)
behind_first_word None None (Some text) = parsed_or_bad (alone EndLine text)
behind_first_word None None None = Bad

-- what a line without leading blanks and tabs says; an empty one and one that begins with # are passed over
abbrev pub reading_of_words : List ℕ → LineReading
reading_of_words [] = Passed
reading_of_words (byte ∷ text) =
    if byte == 35 then Passed else
    behind_first_word (behind_word (codes "ENTRY") (byte ∷ text)) (behind_word (codes "GROUP") (byte ∷ text))
    (behind_word (codes "ENDGROUP") (byte ∷ text))

-- what a line says
abbrev pub reading_of : List ℕ → LineReading
reading_of [] = reading_of_words []
reading_of (byte ∷ line) = if byte == 32 || byte == 9 then reading_of line else reading_of_words (byte ∷ line)
