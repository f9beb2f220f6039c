-- The box that asks a question, which is answered by one of its letters, and what it makes of a key. Own.
use Rattle.std.specs.Prelude.{ℕ, Bool, true, false, ◌==◌, if◌then◌else◌, List, [], ◌∷◌}
use Rattle.std.specs.List.{list_any}
use Rattle.key_screen.specs.declared.keys.Base.{Base}
use Rattle.key_screen.specs.declared.keys.Base.TheVariants.{Char, Enter}
use Rattle.key_screen.specs.declared.keys.Key.{Key}
use Rattle.mc_dialogs.specs.declared.shut.Shut.{Shut}
use Rattle.mc_dialogs.specs.declared.shut.Shut.TheVariants.{Stay, Closed}
use Rattle.mc_dialogs.specs.declared.shut.Reply.{Reply}
use Rattle.mc_dialogs.specs.declared.shut.Reply.TheVariants.{Cancel, Letter}
use Rattle.key_screen.specs.declared.cells.Attr.TheVariants.{Plain}
use Rattle.mc_dialogs.specs.declared.frame.Line.{Line}
use Rattle.mc_dialogs.specs.CommonKeys.{cancels}

-- a question box: its lines, and the letters that answer it
pub record QuestionState : Type 0 where
  pub lines : List (List ℕ)
  pub letters : List ℕ

-- a letter is one of these
abbrev pub is_letter_of : List ℕ → ℕ → Bool
is_letter_of letters code = list_any (λ letter. letter == code) letters

-- the answer of Enter: the first letter, where there is one
abbrev pub first_letter : List ℕ → Reply
first_letter [] = Cancel
first_letter (letter ∷ letters) = Letter letter

abbrev pub question_closed : List ℕ → Base → Shut
question_closed letters (Char code) = if is_letter_of letters code then Closed (Letter code) else Stay
question_closed letters Enter = Closed (first_letter letters)
question_closed letters base = if cancels base then Closed Cancel else Stay

-- what a box with these letters answers to a key
abbrev pub letters_shut : List ℕ → Key → Shut
letters_shut letters key = if key.meta then Stay else question_closed letters key.base

-- what a question box answers to a key; it stays as it is
abbrev pub question_shut : QuestionState → Key → Shut
question_shut s key = letters_shut s.letters key

-- the lines of a question box
abbrev pub plain_lines : List (List ℕ) → List Line
plain_lines [] = []
plain_lines (text ∷ texts) = record { text = text; attr = Plain } ∷ plain_lines texts
