-- What the code reads of a term, as the definitions say it.
use Rattle.std.specs.Prelude.{ℕ, List, Option, Some, None}
use denote.Ref.{Bor}
use Rattle.user_menu.specs.declared.condition.Term.{Term}
use Rattle.user_menu.specs.declared.term.Letter.{Letter}
use Rattle.user_menu.specs.Conditions.{FirstLetter, FirstTerm}

abbrev pub letter_view : Option (Letter × Bor (List ℕ)) → Option FirstLetter
letter_view None = None
letter_view (Some (letter, rest)) = Some (record { letter = letter; rest = rest.now })

abbrev pub term_view : Option (Term × Bor (List ℕ)) → Option FirstTerm
term_view None = None
term_view (Some (term, rest)) = Some (record { term = term; rest = rest.now })
