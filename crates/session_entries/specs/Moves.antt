-- A move takes along all that lies in the thing that is moved: where a path below the one place
-- is then, below the other.
use Rattle.std.specs.Prelude.{Bool, not, ◌||◌, filter, map, List, [], ◌∷◌, if◌then◌else◌}
use Rattle.mc_text.specs.Routes.{Route, is_prefix, same_path}
use Rattle.job_reports.specs.declared.job.Pair.{Pair}

-- where something comes from that was copied or moved with what it lies in: as far below the source as
-- it lies below the target
abbrev pub moved_from : Route → Route → Route → Route
moved_from source target [] = source
moved_from source target (name ∷ up) =
    if same_path (name ∷ up) target then source else name ∷ moved_from source target up

-- a path of the thing that is moved, or of its target: one of the two, or one below it
abbrev pub is_of_move : Pair → Route → Bool
is_of_move pair path = is_prefix pair.source path || is_prefix pair.target path

-- those of these paths that lie at or below this one
abbrev pub paths_below : Route → List Route → List Route
paths_below top paths = filter (is_prefix top) paths

-- and all others
abbrev pub paths_off : Route → List Route → List Route
paths_off top paths = filter (λ path. not (is_prefix top path)) paths

-- where those of these paths are that were moved
abbrev pub paths_moved : Pair → List Route → List Route
paths_moved pair paths = map (moved_from pair.target pair.source) (paths_below pair.source paths)
