-- A sources' mask that is a star alone.
use Rattle.std.specs.Prelude.{Bool, true, false, List, [], ◌∷◌}
use Rattle.tagging.specs.declared.glob.GlobPart.{GlobPart}
use Rattle.tagging.specs.declared.glob.GlobPart.TheVariants.{AnyText}

-- it matches each name
abbrev pub is_star : List GlobPart → Bool
is_star [] = false
is_star (AnyText ∷ []) = true
is_star (part ∷ parts) = false
