-- The first word of a text.
use Rattle.std.specs.Prelude.{ℕ, List, [], ◌∷◌, Option, Some, None}
use Rattle.std.specs.List.{before_first, after_first}
use Rattle.text_scan.specs.Words.{is_blank, unindented_text}

-- a word that was read, and the text behind the blank or tab that ends it
pub record FirstWord : Type 0 where
  pub word : List ℕ
  pub rest : List ℕ

-- the first word of a text without leading blanks
abbrev pub cut_word : List ℕ → Option FirstWord
cut_word [] = None
cut_word (byte ∷ text) =
    Some (record { word = before_first is_blank (byte ∷ text); rest = after_first is_blank (byte ∷ text) })

-- the first run of bytes without blanks and tabs
abbrev pub first_word : List ℕ → Option FirstWord
first_word text = cut_word (unindented_text text)
