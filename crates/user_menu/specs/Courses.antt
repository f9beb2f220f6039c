-- Terms as far as a condition is read.
use Rattle.std.specs.Prelude.{ℕ, ◌<◌, List, ◌++◌, length, Option, Some, None, ⊤}
use Rattle.tagging.specs.declared.pattern.PatternKind.{PatternKind}
use Rattle.user_menu.specs.declared.condition.Joined.{Joined}
use Rattle.user_menu.specs.declared.reading.Course.{Course}
use Rattle.user_menu.specs.declared.reading.Course.TheVariants.{Ends, GoesOn, Breaks}
use Rattle.user_menu.specs.Conditions.{terms_of}

-- terms before others
abbrev pub onto_terms : List Joined → Option (List Joined) → Option (List Joined)
onto_terms prefix None = None
onto_terms prefix (Some more) = Some (prefix ++ more)

-- the terms so far with those to come
abbrev pub terms_at : PatternKind → List Joined → Course → Option (List Joined)
terms_at kind terms Ends = Some terms
terms_at kind terms (GoesOn joint rest) = onto_terms terms (terms_of kind joint rest.now)
terms_at kind terms Breaks = None

-- what is to come is shorter than a text
abbrev pub IsBehind : List ℕ → Course → Type 0
IsBehind text Ends = ⊤
IsBehind text (GoesOn joint rest) = length rest.now < length text
IsBehind text Breaks = ⊤
