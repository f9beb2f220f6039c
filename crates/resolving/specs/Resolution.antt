-- The path that a text leads to (POSIX.1-2017, 4.13 Pathname Resolution, with SYMLOOP_MAX of 40, PATH_MAX
-- of 4,096 and NAME_MAX of 255).
use Rattle.std.specs.Prelude.{ℕ, zero, suc, ◌≤◌, Bool, true, false, not, ◌||◌, nat_lt, if◌then◌else◌, List}
use Rattle.std.specs.Prelude.{[], ◌∷◌, ◌++◌, length, filter, Option, Some, None, is_some, Result, Ok, Err, ⊤}
use Rattle.std.specs.Str.{bytes_eq}
use Rattle.mc_text.specs.declared.kind.Kind.{Kind}
use Rattle.mc_text.specs.declared.kind.Kind.TheVariants.{File, Folder, Link, Other}
use Rattle.mc_text.specs.Names.{name_fault}
use Rattle.mc_text.specs.Routes.{Route, spelled_route, components_of, is_empty, begins_with_slash}
use Rattle.tree_trait.specs.declared.calls.TreeError.{TreeError}
use Rattle.tree_trait.specs.declared.calls.TreeError.TheVariants.{NotFolder}
use Rattle.tree_trait.specs.declared.file_system.Node.{Node}
use Rattle.tree_trait.specs.declared.file_system.FileSystem.{FileSystem}
use Rattle.tree_trait.specs.Calls.{Stat}
use Rattle.tree_trait.specs.FileSystem.{node}
use Rattle.tree_trait.specs.Refusals.{holder, refusal_of}
use Rattle.tree_trait.specs.Change.{found_node}
use Rattle.resolving.specs.declared.error.ResolveError.{ResolveError}
use Rattle.resolving.specs.declared.error.ResolveError.TheVariants.{Tree, TooManyLinks, TooLong, BadName}
use Rattle.resolving.specs.declared.looking.Step.{Step}
use Rattle.resolving.specs.declared.looking.Step.TheVariants.{Into, Up, Onto, Across}
use Rattle.resolving.specs.declared.walking.Wanted.{Wanted}
use Rattle.resolving.specs.declared.walking.Wanted.TheVariants.{FolderAlone, AnyThing}

-- a component that is passed over: an empty one, since slashes that follow each other count as one, and dot
abbrev pub is_passed : List ℕ → Bool
is_passed component = is_empty component || bytes_eq component (46 ∷ [])

-- the components that a text leads through
abbrev pub steps_of : List ℕ → List (List ℕ)
steps_of text = filter (λ component. not (is_passed component)) (components_of text)

-- a text begins at the root where a slash stands first, and else at a folder
abbrev pub start_of : Route → List ℕ → Route
start_of folder text = if begins_with_slash text then [] else folder

-- why a component can't be an entry of a folder, or none
abbrev pub entry_fault : Route → List ℕ → Option ResolveError
entry_fault folder component =
    if is_some (name_fault component) then Some BadName else
    if nat_lt 4096 (length (spelled_route (component ∷ folder))) then Some TooLong else None

-- where a thing leads by its kind: into a folder, across a link with this text, onto anything else
abbrev pub step_onto : Kind → Route → List ℕ → Step
step_onto Folder path text = Into path
step_onto Link path text = Across text
step_onto File path text = Onto path
step_onto Other path text = Onto path

-- what a tree tells of the thing at a path, which it may refuse
abbrev pub told_step : Option TreeError → Route → Node → Result Step ResolveError
told_step (Some e) path thing = Err (Tree path e)
told_step None path thing = Ok (step_onto thing.kind path thing.bytes)

abbrev pub look_at : FileSystem → Route → Result Step ResolveError
look_at s path = told_step (refusal_of s (Stat path)) path (node s (found_node s path))

-- the entry of a folder is looked at, if there can be one
abbrev pub look_unless : Option ResolveError → FileSystem → Route → Result Step ResolveError
look_unless (Some e) s path = Err e
look_unless None s path = look_at s path

-- One step: dot-dot leads to the folder above, which the root is itself, and any other
-- component to the folder's entry.
abbrev pub step_from : FileSystem → Route → List ℕ → Result Step ResolveError
step_from s folder component =
    if bytes_eq component (46 ∷ 46 ∷ []) then Ok (Up (holder folder)) else
    look_unless (entry_fault folder component) s (component ∷ folder)

-- no component is left
abbrev pub no_more : List (List ℕ) → Bool
no_more [] = true
no_more (component ∷ rest) = false

-- a thing that is no folder may end the walk where any thing is wanted, and nothing lies in it
abbrev pub end_at : Wanted → Bool → Route → Result Route ResolveError
end_at AnyThing true path = Ok path
end_at AnyThing false path = Err (Tree path NotFolder)
end_at FolderAlone true path = Err (Tree path NotFolder)
end_at FolderAlone false path = Err (Tree path NotFolder)

-- a walk may end at a folder, and at a thing of another kind where any thing is wanted
abbrev pub end_by_kind : Wanted → Kind → Route → Result Route ResolveError
end_by_kind wanted Folder path = Ok path
end_by_kind wanted File path = end_at wanted true path
end_by_kind wanted Link path = end_at wanted true path
end_by_kind wanted Other path = end_at wanted true path

-- what a tree tells of the thing at which a walk ends, which it may refuse
abbrev pub end_told : Option TreeError → Wanted → Kind → Route → Result Route ResolveError
end_told (Some e) wanted kind path = Err (Tree path e)
end_told None wanted kind path = end_by_kind wanted kind path

-- What a walk ends at has to be there, whatever the text ended with.
abbrev pub end_in : FileSystem → Wanted → Route → Result Route ResolveError
end_in s wanted path = end_told (refusal_of s (Stat path)) wanted (node s (found_node s path)).kind path

-- the answer where a step is refused, and what to do where it isn't
abbrev pub after_step : Result Step ResolveError → (into : Route → Result Route ResolveError)
    (across : List ℕ → Result Route ResolveError) (onto : Route → Result Route ResolveError)
    → Result Route ResolveError
after_step (Ok (Into path)) into across onto = into path
after_step (Ok (Up path)) into across onto = into path
after_step (Ok (Across text)) into across onto = across text
after_step (Ok (Onto path)) into across onto = onto path
after_step (Err e) into across onto = Err e

-- The walk along components, and what stands at its end. What is left is prefixed with a link's text, and
-- `follow` walks on from where that begins.
abbrev pub walk_along : FileSystem → Wanted → (follow : Route → List (List ℕ) → Result Route ResolveError)
    → Route → List (List ℕ) → Result Route ResolveError
walk_along s wanted follow folder [] = end_in s wanted folder
walk_along s wanted follow folder (component ∷ rest) =
    after_step (step_from s folder component)
    (λ path. walk_along s wanted follow path rest)
    (λ text. follow (start_of folder text) (steps_of text ++ rest))
    (λ path. end_at wanted (no_more rest) path)

-- the walk behind a link, where so many links may be followed, that one among them
unfoldable pub walk_on : FileSystem → Wanted → ℕ → Route → List (List ℕ) → Result Route ResolveError
walk_on s wanted zero folder ahead = Err TooManyLinks
walk_on s wanted (suc links) folder ahead = walk_along s wanted (walk_on s wanted links) folder ahead

-- the walk that may follow so many links
abbrev pub walk_from : FileSystem → Wanted → ℕ → Route → List (List ℕ) → Result Route ResolveError
walk_from s wanted links = walk_along s wanted (walk_on s wanted links)

-- the path that a text leads to from a folder, or the first refusal
abbrev pub resolved_path : FileSystem → Wanted → Route → List ℕ → Result Route ResolveError
resolved_path s wanted from typed = walk_from s wanted 40 (start_of from typed) (steps_of typed)

-- the text of a link has at most 4,095 bytes
abbrev pub IsShort : Step → Type 0
IsShort (Across text) = length text ≤ 4095
IsShort (Into path) = ⊤
IsShort (Up path) = ⊤
IsShort (Onto path) = ⊤
