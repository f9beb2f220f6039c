-- The way from a path to another at or below it.
use Rattle.std.specs.Prelude.{Bool, if◌then◌else◌, List, [], ◌∷◌, Option, Some, None, option_map}
use Rattle.mc_text.specs.Routes.{Route, same_path}

-- the way from `top` to a path at or below it: the names that come after those of `top`, the last one first
abbrev pub below : Route → Route → Option Route
below top [] = if same_path [] top then Some [] else None
below top (name ∷ folder) =
    if same_path (name ∷ folder) top then Some [] else option_map (λ rest. name ∷ rest) (below top folder)
