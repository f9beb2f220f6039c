-- The word at the front of a text, cut off it.
use Rattle.std.specs.Prelude.{◌≡◌, ℕ, ◌+◌, ◌<◌, if◌then◌else◌, List, [], ◌∷◌, length}
use Rattle.panel_listing.specs.FormatTexts as texts
use Rattle.panel_listing.specs.FormatTexts.{joins, words_from}
use Rattle.panel_listing.specs.declared.words.Word.{Word}

-- how many bytes the word has that begins with the first byte
abbrev pub word_size : List ℕ → ℕ
word_size [] = 0
word_size (byte ∷ rest) = if joins byte rest then 1 + word_size rest else 1

abbrev pub word_in : Word → texts.Word
word_in word = record { at = word.at; text = word.text.now }

-- the first of the words, and the text behind it
pub record IsNextWord (at : ℕ) (text : List ℕ) (word : Word) (behind : List ℕ) : Type 0 where
  pub words : words_from at text ≡ word_in word ∷ words_from (word.at + length word.text.now) behind
  pub place : word.at + length word.text.now + length behind ≡ at + length text
  pub shorter : length behind < length text
