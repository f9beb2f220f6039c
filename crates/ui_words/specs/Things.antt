-- What boxes call the things that they ask of. Own.
use Rattle.std.specs.Prelude.{ℕ, ◌-◌, ◌==◌, nat_le, if◌then◌else◌, List, [], ◌∷◌, ◌++◌, length, codes}
use Rattle.std.specs.Option.{option_map_or}
use Rattle.std.specs.Fmt.{decimal}
use Rattle.mc_text.specs.Drawn.{drawn_text}
use Rattle.mc_text.specs.Fit.{columns_in, fitted_text}
use Rattle.mc_text.specs.Routes.{Route, last_of}

-- the name of a thing; the root has none
abbrev pub name_of : Route → List ℕ
name_of path = option_map_or (λ name. name) (last_of path) []

-- the name of the first of some things
abbrev pub first_name : List Route → List ℕ
first_name [] = []
first_name (path ∷ paths) = name_of path

-- one thing is called by its name, several by their number
abbrev pub called : List Route → List ℕ
called [] = decimal 0 ++ codes " things"
called (path ∷ []) = name_of path
called (path ∷ other ∷ more) = decimal (length (path ∷ other ∷ more)) ++ codes " things"

-- how many there are besides the first, where there are any
abbrev pub others_words : ℕ → List ℕ
others_words count = if count == 1 then [] else codes " and " ++ (decimal (count - 1) ++ codes " more")

-- a name that has room in so many columns, or as much of it as has
unfoldable pub fitted_beside : ℕ → List ℕ → List ℕ
fitted_beside room name =
    if nat_le (columns_in (drawn_text name)) room then name else fitted_text (drawn_text name) room

-- the name of the first of some things, and how many there are besides, in a line of so many columns
abbrev pub things_line : ℕ → List Route → List ℕ
things_line columns paths =
    let others = others_words (length paths) in
    fitted_beside (columns - length others) (first_name paths) ++ others
