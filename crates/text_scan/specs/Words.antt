-- Texts behind a word or white space with which they begin. Bytes: tab 9, blank 32.
use Rattle.std.specs.Prelude.{ℕ, Bool, ◌==◌, ◌||◌, if◌then◌else◌, List, [], ◌∷◌, Option, Some, None}
use Rattle.std.specs.Option.{option_or}

-- the text behind a word with which it begins
abbrev pub behind_word : List ℕ → List ℕ → Option (List ℕ)
behind_word [] text = Some text
behind_word (letter ∷ word) [] = None
behind_word (letter ∷ word) (byte ∷ text) = if byte == letter then behind_word word text else None

-- the text behind a blank or tab with which it begins
abbrev pub behind_indent : List ℕ → Option (List ℕ)
behind_indent text = option_or (behind_word (32 ∷ []) text) (behind_word (9 ∷ []) text)

-- white space between words
abbrev pub is_blank : ℕ → Bool
is_blank byte = byte == 32 || byte == 9

-- the text without leading blanks and tabs
abbrev pub unindented_text : List ℕ → List ℕ
unindented_text [] = []
unindented_text (byte ∷ text) = if is_blank byte then unindented_text text else byte ∷ text
