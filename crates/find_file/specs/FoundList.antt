-- What a search comes to below a folder, in turn, as one list: each thing before what lies below it, a
-- folder's children in byte order of their names. The order and what is skipped are own (find(1) leaves the
-- order open; links aren't followed, as by its -P).
use Rattle.std.specs.Prelude.{ℕ, zero, suc, ◌==◌, Bool, false, not, ◌&&◌, ◌||◌, nat_lt, if◌then◌else◌}
use Rattle.std.specs.Prelude.{List, [], ◌∷◌, ◌++◌, length, take, flat_map, Option, Some, None}
use Rattle.std.specs.Str.{bytes_eq}
use Rattle.mc_text.specs.declared.kind.Kind.{Kind}
use Rattle.mc_text.specs.declared.kind.Kind.TheVariants as kinds
use Rattle.mc_text.specs.Routes.{Route, spelled_route}
use Rattle.tagging.specs.Patterns.{is_found}
use Rattle.tree_trait.specs.declared.file_system.FileSystem.{FileSystem}
use Rattle.tree_trait.specs.declared.calls.TreeError.{TreeError}
use Rattle.tree_trait.specs.Calls.{Stat, ListFolder, ReadAt}
use Rattle.tree_trait.specs.FileSystem.{node}
use Rattle.tree_trait.specs.Change.{found_node}
use Rattle.tree_trait.specs.Refusals.{refusal_of}
use Rattle.tree_rules.specs.Listed.{gathered_names}
use Rattle.find_file.specs.declared.search.Search.{Search}
use Rattle.find_file.specs.declared.found.Found.{Found}
use Rattle.find_file.specs.declared.found.Found.TheVariants.{Path, Skipped}

-- what comes in turn: a thing is looked at or a folder is listed, at a path; or an answer is told
pub data Turn : Type 0 where
  At : Route → Turn
  Tells : Found → Turn

-- the name alone decides: no content is asked for
abbrev pub is_by_name : Search → Bool
is_by_name search = length search.content == 0

-- a name that begins with a dot
abbrev pub is_hidden : List ℕ → Bool
is_hidden [] = false
is_hidden (byte ∷ rest) = byte == 46

-- a name that the search leaves out
abbrev pub leaves_out : Search → List ℕ → Bool
leaves_out search name = not search.hidden && is_hidden name

-- a thing that is passed over with all below it: its name is left out, or its path has more than 4,096 bytes
abbrev pub is_passed_over : Search → List ℕ → Route → Bool
is_passed_over search name folder =
    leaves_out search name || nat_lt 4096 (length (spelled_route (name ∷ folder)))

-- the content stands somewhere among the bytes
abbrev pub holds : List ℕ → List ℕ → Bool
holds content [] = length content == 0
holds content (byte ∷ bytes) = bytes_eq (take (length content) (byte ∷ bytes)) content || holds content bytes

-- what a call at a path brings, where it isn't refused; else the path is skipped
abbrev pub brings : Option TreeError → Route → List Turn → List Turn
brings None path turns = turns
brings (Some error) path turns = Tells (Skipped path error) ∷ []

-- the path, where it is found
abbrev pub path_if : Bool → Route → List Turn
path_if is path = if is then Tells (Path path) ∷ [] else []

-- what a file of these bytes brings where a content is sought; one without bytes isn't read
abbrev pub turns_of_bytes : FileSystem → Search → Route → List ℕ → List Turn
turns_of_bytes s search path [] = []
turns_of_bytes s search path (byte ∷ bytes) = brings (refusal_of s (ReadAt path 0 0)) path
    (path_if (holds search.content (byte ∷ bytes)) path)

-- what reading a file brings
abbrev pub read_turns : FileSystem → Search → Route → List Turn
read_turns s search path = turns_of_bytes s search path (node s (found_node s path)).bytes

-- what a thing of a kind brings once it was looked at; `below` is what comes of what lies below it
abbrev pub by_kind : Kind → FileSystem → Search → Bool → Route → List Turn → List Turn
by_kind kinds.Folder s search is_named path below = if search.recursive then below else []
by_kind kinds.File s search is_named path below =
    if is_named && not (is_by_name search) then read_turns s search path else []
by_kind kinds.Link s search is_named path below = []
by_kind kinds.Other s search is_named path below = []

-- a look at a thing, and what it brings: a folder what lies below it; a file itself, where the pattern
-- finds its name and its bytes hold the content that is looked for
abbrev pub look_turns : FileSystem → Search → Bool → Route → List Turn → List Turn
look_turns s search is_named path below =
    At path ∷ brings (refusal_of s (Stat path)) path
    (by_kind (node s (found_node s path)).kind s search is_named path below)

-- a child of a folder: it is found at once where the name alone decides; then it is looked at
abbrev pub child : FileSystem → Search → Bool → List ℕ → Route → List Turn → List Turn
child s search is_named name folder below =
    if is_passed_over search name folder then [] else
    path_if (is_named && is_by_name search) (name ∷ folder)
    ++ look_turns s search is_named (name ∷ folder) below

-- the names in a folder, in byte order
abbrev pub names_in : FileSystem → Route → List (List ℕ)
names_in s folder = gathered_names s (found_node s folder) s.names

-- the listing of a folder, and what it brings, where `below` says what comes of what lies below its children
abbrev pub listing_turns : FileSystem → Search → Route → (Route → List Turn) → List Turn
listing_turns s search folder below = At folder ∷ brings (refusal_of s (ListFolder folder)) folder
    (flat_map (λ name. child s search (is_found search.name name) name folder (below (name ∷ folder)))
    (names_in s folder))

-- what comes of a folder, so many levels down
unfoldable pub turns_within : ℕ → FileSystem → Search → Route → List Turn
turns_within zero s search folder = []
turns_within (suc levels) s search folder = listing_turns s search folder (turns_within levels s search)

-- What comes of a folder. A path of at most 4,096 bytes has fewer than 4,097 names, so all levels are met.
unfoldable pub turns_below : FileSystem → Search → Route → List Turn
turns_below s search start = turns_within 4097 s search start

-- what is told in these turns
unfoldable pub told_in : List Turn → List Found
told_in [] = []
told_in (At path ∷ turns) = told_in turns
told_in (Tells found ∷ turns) = found ∷ told_in turns

-- what a search finds below a folder
abbrev pub found_list : FileSystem → Search → Route → List Found
found_list s search start = told_in (turns_below s search start)
