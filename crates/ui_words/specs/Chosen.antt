-- What can be chosen for a job.
use Rattle.std.specs.Prelude.{Bool, false, List, [], ◌∷◌, is_some}
use Rattle.std.specs.List.{list_all}
use Rattle.mc_text.specs.Routes.{Route, parent_of}

-- a thing that lies in a folder, as all do but the root
abbrev pub is_within : Route → Bool
is_within path = is_some (parent_of path)

-- at least one thing, each of which lies in a folder
abbrev pub can_be_chosen : List Route → Bool
can_be_chosen [] = false
can_be_chosen (path ∷ paths) = list_all is_within (path ∷ paths)
