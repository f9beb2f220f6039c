-- What the code reads of a text, as the definitions say it.
use Rattle.std.specs.Prelude.{ℕ, List, Option, Some, None}
use denote.Ref.{Bor}
use Rattle.user_menu.specs.Words.{FirstWord}

abbrev pub word_view : Option (Bor (List ℕ) × Bor (List ℕ)) → Option FirstWord
word_view None = None
word_view (Some (word, rest)) = Some (record { word = word.now; rest = rest.now })
