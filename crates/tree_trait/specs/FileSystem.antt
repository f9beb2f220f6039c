-- A file system of numbered nodes: where a path leads, and what stands there (POSIX.1-2017,
-- 4.13 Pathname Resolution).
use Rattle.std.specs.Prelude.{pos, ℕ, Bool, false, ◌&&◌, ◌==◌, if◌then◌else◌, List, [], ◌∷◌}
use Rattle.std.specs.Prelude.{Option, Some, None, unwrap_or, option_and_then, slice_get}
use Rattle.std.specs.Option.{option_map, option_map_or}
use Rattle.std.specs.List.{list_any}
use Rattle.std.specs.Str.{bytes_eq}
use Rattle.mc_text.specs.declared.kind.Kind.{Kind}
use Rattle.mc_text.specs.declared.kind.Kind.TheVariants.{Other}
use Rattle.mc_text.specs.Routes.{Route, same_path}
use Rattle.tree_trait.specs.declared.file_system.Node.{Node}
use Rattle.tree_trait.specs.declared.file_system.NameEdit.{NameEdit}
use Rattle.tree_trait.specs.declared.file_system.FileSystem.{FileSystem}

-- this edit is of that name of that folder
abbrev pub is_of : ℕ → List ℕ → NameEdit → Bool
is_of folder name e = (e.folder == folder) && bytes_eq e.name name

-- what a name of a folder leads to: what its newest edit says
abbrev pub lookup : List NameEdit → ℕ → List ℕ → Option ℕ
lookup [] folder name = None
lookup (e ∷ older) folder name = if is_of folder name e then e.to else lookup older folder name

-- the node that a path leads to: the root, or what the last name leads to in the folder of the rest
abbrev pub find : FileSystem → Route → Option ℕ
find s [] = Some 0
find s (name ∷ folder) = option_and_then (λ f. lookup s.names f name) (find s folder)

-- what stands for a node that isn't there
abbrev pub no_node : Node
no_node = record { kind = Other; bytes = []; mode = 0; mtime = pos 0; unnamed = 0 }

abbrev pub node : FileSystem → ℕ → Node
node s i = unwrap_or (slice_get s.nodes i) no_node

-- what can be seen of a node: all but its time
pub record Value : Type 0 where
  pub kind : Kind
  pub bytes : List ℕ
  pub mode : ℕ
  pub unnamed : ℕ

abbrev pub value : Node → Value
value n = record { kind = n.kind; bytes = n.bytes; mode = n.mode; unnamed = n.unnamed }

-- the value at a path, or none where it leads nowhere
abbrev pub value_at : FileSystem → Route → Option Value
value_at s path = option_map (λ i. value (node s i)) (find s path)

-- a mount begins at this node
abbrev pub starts_mount : FileSystem → ℕ → Bool
starts_mount s i = list_any (λ m. m.folder == i) s.mounts

-- what can be seen at a path: the value that stands there, and whether a mount begins there
pub record Spot : Type 0 where
  pub value : Option Value
  pub is_mount : Bool

-- a tree as it can be seen: what stands at each path
abbrev pub View : Type 0
View = Route → Spot

-- the tree of a file system as it can be seen
abbrev pub visible_tree : FileSystem → View
visible_tree s path =
    record { value = value_at s path; is_mount = option_map_or (starts_mount s) (find s path) false }

-- a view in which one path has another value; where mounts begin stays
abbrev pub view_with : View → Route → Option Value → View
view_with v path new p = if same_path p path then record (v p) { value = new } else v p
