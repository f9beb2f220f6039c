-- What keeps a thing from being put into the opening: what would refuse its making, but never a mode.
use Rattle.std.specs.Prelude.{◌≡◌, ◌≢◌, ℕ, ◌+◌, Bool, nat_lt, is_some, if◌then◌else◌, List, []}
use Rattle.std.specs.Prelude.{◌∷◌, length, map, ◌++◌, Option, Some, None, Result, MatchResult}
use Rattle.mc_text.specs.Routes.{Route}
use Rattle.tree_trait.specs.declared.file_system.Node.{Node}
use Rattle.tree_trait.specs.declared.file_system.FileSystem.{FileSystem}
use Rattle.tree_trait.specs.declared.calls.TreeError.{TreeError}
use Rattle.tree_trait.specs.declared.calls.TreeError.TheVariants.{Memory, NoSpace}
use Rattle.tree_trait.specs.Change.{Makes, after_change, of_name}
use Rattle.mem_tree.specs.Held.{folder_node}
use Rattle.tree_trait.specs.Calls.{MakeFolder}
use Rattle.tree_trait.specs.Refusals.{refusal_of, mount_of, capacity_of, used_by}

-- a node whose mode permits all
abbrev pub unlocked_node : Node → Node
unlocked_node n = record n { mode = 0o777 }

-- the file system if each mode permitted all
abbrev pub unlocked_system : FileSystem → FileSystem
unlocked_system s = record s { nodes = map unlocked_node s.nodes }

-- what refuses a folder: what would refuse `make_folder`, and for `make_file` it is the same
abbrev pub put_refusal : FileSystem → Route → Option TreeError
put_refusal s path = refusal_of (unlocked_system s) (MakeFolder path 0)

-- the mount of a path can't hold so many bytes more
abbrev pub is_full : FileSystem → Route → ℕ → Bool
is_full s path count =
    nat_lt (capacity_of s.mounts (mount_of s path)) (used_by (length s.nodes) s (mount_of s path) + count)

-- what refuses a file of so many bytes: what would refuse `make_file`, and then `write_at`
abbrev pub put_file_refusal : FileSystem → Route → ℕ → Option TreeError
put_file_refusal s path count =
    if is_some (put_refusal s path) then put_refusal s path
    else if is_full s path count then Some NoSpace else None

-- a call is refused by this, if it found the memory that it needed
abbrev pub IsRefusedBy : {A : Type 0} → Option TreeError → Result A TreeError → Type 0
IsRefusedBy refusal result = MatchResult result (λ _. refusal ≡ None) (λ e. e ≢ Memory → refusal ≡ Some e)

-- a mount more, which begins at this folder
abbrev pub with_mount : FileSystem → ℕ → ℕ → FileSystem
with_mount s folder capacity =
    record s { mounts = s.mounts ++ record { folder = folder; capacity = capacity } ∷ [] }

-- a folder more at a path, where a mount begins
abbrev pub mounted_system : FileSystem → Route → ℕ → FileSystem
mounted_system s path capacity =
    with_mount (after_change s (of_name s path (λ f name. Makes f name (folder_node 0o755 0))))
    (length s.nodes) capacity
