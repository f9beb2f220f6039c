-- The folder that holds a path, and paths but for one.
use Rattle.std.specs.Prelude.{not, List, filter, [], ◌∷◌}
use Rattle.mc_text.specs.Routes.{Route, same_path}

-- the folder that holds a path
abbrev pub folder_of : Route → Route
folder_of [] = []
folder_of (name ∷ folder) = folder

-- paths, but for this one
abbrev pub without : Route → List Route → List Route
without path paths = filter (λ kept. not (same_path kept path)) paths
