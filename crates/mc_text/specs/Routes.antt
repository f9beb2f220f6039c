-- Absolute paths, as lists of names (POSIX.1-2017, 3.2 Absolute Pathname and 3.271 Pathname,
-- with PATH_MAX of 4,096).
use Rattle.std.specs.Prelude.{ℕ, ◌+◌, Bool, true, false, ◌||◌, ◌&&◌, not, ◌==◌, nat_lt, if◌then◌else◌}
use Rattle.std.specs.Prelude.{List, [], ◌∷◌, ◌++◌, length, reverse, filter, Option, Some, None, is_some}
use Rattle.std.specs.List.{slice_split}
use Rattle.std.specs.Str.{bytes_eq}
use Rattle.std.specs.Cmp.Lexicographic.{pointwise}
use Rattle.mc_text.specs.declared.error.PathError.{PathError}
use Rattle.mc_text.specs.declared.error.PathError.TheVariants.{NotAbsolute, TooLong, BadName}
use Rattle.mc_text.specs.Names.{name_fault}

-- The names of a path, the last one first: a thing in a folder is its name before the folder's
-- route. The root has none.
abbrev pub Route : Type 0
Route = List (List ℕ)

-- each name behind a slash; of the root nothing
abbrev pub spelled_route : Route → List ℕ
spelled_route [] = []
spelled_route (name ∷ folder) = spelled_route folder ++ 47 ∷ name

-- a path as it is written, the root as one slash
abbrev pub path_text : Route → List ℕ
path_text [] = 47 ∷ []
path_text (name ∷ folder) = spelled_route (name ∷ folder)

-- the folder that holds what stands at a path; the root has none
abbrev pub parent_of : Route → Option Route
parent_of [] = None
parent_of (name ∷ folder) = Some folder

-- the last name of a path
abbrev pub last_of : Route → Option (List ℕ)
last_of [] = None
last_of (name ∷ folder) = Some name

abbrev pub same_path : Route → Route → Bool
same_path = pointwise bytes_eq

-- a path begins with the names of another, or is it
abbrev pub is_prefix : Route → Route → Bool
is_prefix prefix [] = same_path prefix []
is_prefix prefix (name ∷ folder) = same_path prefix (name ∷ folder) || is_prefix prefix folder

-- what stands before, between and behind the slashes of a text
abbrev pub components_of : List ℕ → List (List ℕ)
components_of = slice_split (λ byte. byte == 47)

-- slashes that follow each other count as one (POSIX.1-2017, 4.13), so an empty component is no name
abbrev pub is_empty : List ℕ → Bool
is_empty [] = true
is_empty (byte ∷ rest) = false

-- the first component that is neither empty nor a name, by the position of its first byte, counted from `at`
abbrev pub bad_component : ℕ → List (List ℕ) → Option PathError
bad_component at [] = None
bad_component at (component ∷ rest) =
    if not (is_empty component) && is_some (name_fault component) then Some (BadName at)
    else bad_component (at + (length component + 1)) rest

abbrev pub begins_with_slash : List ℕ → Bool
begins_with_slash [] = false
begins_with_slash (byte ∷ rest) = byte == 47

-- the first reason why a text is no absolute path, or none
abbrev pub path_fault : List ℕ → Option PathError
path_fault text =
    if not (begins_with_slash text) then Some NotAbsolute else
    if nat_lt 4096 (length text) then Some (TooLong (length text)) else bad_component 0 (components_of text)

-- the path that a text means
abbrev pub route_of : List ℕ → Route
route_of text = reverse (filter (λ component. not (is_empty component)) (components_of text))
