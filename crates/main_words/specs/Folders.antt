-- The path that a word names, below the folder in which the program was started (POSIX.1-2017,
-- 4.13 Pathname Resolution; that dot-dot takes the name before it away, with no look at the tree,
-- is as in `cd`). Dot is 46.
use Rattle.std.specs.Prelude.{ℕ, Bool, not, ◌||◌, nat_lt, is_none, is_some, if◌then◌else◌}
use Rattle.std.specs.Prelude.{List, [], ◌∷◌, length, filter, Option, Some, None, option_map}
use Rattle.std.specs.Str.{bytes_eq}
use Rattle.mc_text.specs.Names.{name_fault}
use Rattle.mc_text.specs.Routes.{Route, spelled_route, path_text, components_of}
use Rattle.mc_text.specs.Routes.{is_empty, begins_with_slash, path_fault, route_of}
use Rattle.main_words.specs.declared.folders.StartPath.{StartPath}

-- the folder in which the program was started; the root where its text is no absolute path
abbrev pub started_in : List ℕ → Route
started_in text = if is_none (path_fault text) then route_of text else []

-- HOME, where its text is an absolute path; else it counts as missing
abbrev pub home_in : Option (List ℕ) → Option Route
home_in None = None
home_in (Some text) = if is_none (path_fault text) then Some (route_of text) else None

-- the folder above; the root is its own
abbrev pub above : Route → Route
above [] = []
above (name ∷ folder) = folder

-- a folder can't have this entry: it is no name, or the path would be too long
abbrev pub is_refused_in : Route → List ℕ → Bool
is_refused_in folder component =
    is_some (name_fault component) || nat_lt 4096 (length (spelled_route (component ∷ folder)))

-- where a component leads: dot-dot to the folder above, any other to the folder's entry, if there can be one
abbrev pub step_below : Route → List ℕ → Option Route
step_below folder component =
    if bytes_eq component (46 ∷ 46 ∷ []) then Some (above folder) else
    if is_refused_in folder component then None else Some (component ∷ folder)

-- where components lead, one after the other
abbrev pub below : Option Route → List (List ℕ) → Option Route
below None components = None
below (Some folder) [] = Some folder
below (Some folder) (component ∷ rest) = below (step_below folder component) rest

-- a component that is passed over: an empty one, and dot
abbrev pub is_passed : List ℕ → Bool
is_passed component = is_empty component || bytes_eq component (46 ∷ [])

-- the components that a word leads through
abbrev pub steps_of : List ℕ → List (List ℕ)
steps_of word = filter (λ component. not (is_passed component)) (components_of word)

-- a word begins at the root where a slash stands first, and else in the folder in
-- which the program was started
abbrev pub begins_in : Route → List ℕ → Route
begins_in started word = if begins_with_slash word then [] else started

-- the folder that a word names, if there can be one
abbrev pub folder_named : Route → List ℕ → Option Route
folder_named started word = below (Some (begins_in started word)) (steps_of word)

-- a path, and how it was typed
abbrev pub typed_path : List ℕ → Route → StartPath
typed_path word path = record { typed = word; path = path }

-- the path that a word names, if there can be one
abbrev pub path_named : Route → List ℕ → Option StartPath
path_named started word = option_map (typed_path word) (folder_named started word)

-- the folder of a panel: the one that its word names, or without a word the one in
-- which the program was started
abbrev pub panel_folder : Route → Option (List ℕ) → Option StartPath
panel_folder started None = Some (typed_path (path_text started) started)
panel_folder started (Some word) = path_named started word
