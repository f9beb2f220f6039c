-- What a test says of two panels and a tree (mc(1), "Menu File Edit"). Bytes: d 100, l 108, n
-- 110, r 114, t 116, x 120.
use Rattle.std.specs.Prelude.{◌≡◌, ℕ, Bool, false, not, ◌&&◌, ◌==◌, nat_lt, is_none, is_some}
use Rattle.std.specs.Prelude.{if◌then◌else◌, List, ◌∷◌, length, Option, Some, None, bit_and, ⊤}
use Rattle.std.specs.List.{list_any}
use Rattle.std.specs.Option.{option_map_or}
use Rattle.mc_text.specs.declared.kind.Kind.{Kind}
use Rattle.mc_text.specs.Names.{name_fault}
use Rattle.mc_text.specs.Routes.{Route, spelled_route, path_text, path_fault, route_of, begins_with_slash}
use Rattle.tagging.specs.Patterns.{is_found}
use Rattle.tree_trait.specs.declared.file_system.FileSystem.{FileSystem}
use Rattle.tree_trait.specs.Calls.{Stat}
use Rattle.tree_trait.specs.Change.{CallLog, current, found_node}
use Rattle.tree_trait.specs.FileSystem.{node}
use Rattle.tree_trait.specs.Refusals.{refusal_of, file_kind, folder_kind, link_kind}
use Rattle.user_menu.specs.declared.condition.Panel.{Panel}
use Rattle.user_menu.specs.declared.condition.Panel.TheVariants.{Here, There}
use Rattle.user_menu.specs.declared.condition.Test.{Test}
use Rattle.user_menu.specs.declared.condition.Test.TheVariants.{Name, Folder, Types, Program, Never}
use Rattle.user_menu.specs.declared.fact.Fact.{Fact}

-- somebody may run the thing
abbrev pub is_runnable : Kind → ℕ → Bool
is_runnable kind mode = file_kind kind && not (bit_and mode 0o111 == 0)

-- the current thing has the type with this letter
abbrev pub has_type : Fact → ℕ → Bool
has_type fact letter =
    if letter == 110 then not (folder_kind fact.kind) else
    if letter == 114 then file_kind fact.kind else
    if letter == 100 then folder_kind fact.kind else
    if letter == 108 then link_kind fact.kind else
    if letter == 120 then is_runnable fact.kind fact.mode else
    if letter == 116 then fact.tagged else false

-- an absolute path
abbrev pub absolute_route : List ℕ → Option Route
absolute_route text = if is_some (path_fault text) then None else Some (route_of text)

-- a name in a folder, whose path has at most 4,096 bytes
abbrev pub entry_route : Route → List ℕ → Option Route
entry_route folder text =
    if is_some (name_fault text) then None else
    if nat_lt 4096 (length (spelled_route (text ∷ folder))) then None else Some (text ∷ folder)

-- the path that an argument asks for
abbrev pub route_asked : Route → List ℕ → Option Route
route_asked folder argument =
    if begins_with_slash argument then absolute_route argument else entry_route folder argument

-- the thing at a path can be looked at, and somebody may run it
abbrev pub stands_runnable : FileSystem → Route → Bool
stands_runnable s path =
    is_none (refusal_of s (Stat path))
    && is_runnable (node s (found_node s path)).kind (node s (found_node s path)).mode

-- the argument leads to a program
abbrev pub is_program : FileSystem → Route → List ℕ → Bool
is_program s folder argument = option_map_or (stands_runnable s) (route_asked folder argument) false

abbrev pub fact_of : Panel → Fact → Fact → Fact
fact_of Here here other = here
fact_of There here other = other

-- the test holds of two panels, over a file system
abbrev pub is_true : FileSystem → Test → Fact → Fact → Bool
is_true s (Name panel pattern) here other = is_found pattern (fact_of panel here other).name
is_true s (Folder panel pattern) here other = is_found pattern (path_text (fact_of panel here other).folder)
is_true s (Types panel types) here other = list_any (has_type (fact_of panel here other)) types
is_true s (Program argument) here other = is_program s here.folder argument
is_true s Never here other = false

-- a file system that a tree holds, as far as the test asks for it
abbrev pub IsAskedOf : Option CallLog → FileSystem → Test → Type 0
IsAskedOf contents s (Name panel pattern) = ⊤
IsAskedOf contents s (Folder panel pattern) = ⊤
IsAskedOf contents s (Types panel types) = ⊤
IsAskedOf contents s (Program argument) = (log : CallLog) × (contents ≡ Some log) × (current log ≡ s)
IsAskedOf contents s Never = ⊤

-- the test doesn't ask the tree
abbrev pub AsksNoTree : Test → Type 0
AsksNoTree (Name panel pattern) = ⊤
AsksNoTree (Folder panel pattern) = ⊤
AsksNoTree (Types panel types) = ⊤
AsksNoTree (Program argument) = ⊥
AsksNoTree Never = ⊤
