-- What the changing calls do: each is at most one change of numbered nodes.
use Rattle.std.specs.Prelude.{pos, ℕ, ◌+◌, ◌-◌, if◌then◌else◌, ℤ, List, [], ◌∷◌, ◌++◌, length}
use Rattle.std.specs.Prelude.{take, drop, replicate, Option, Some, None, unwrap_or, slice_set}
use Rattle.mc_text.specs.declared.kind.Kind.TheVariants.{File, Folder, Link}
use Rattle.tree_trait.specs.declared.file_system.Node.{Node}
use Rattle.tree_trait.specs.declared.file_system.NameEdit.{NameEdit}
use Rattle.tree_trait.specs.declared.file_system.FileSystem.{FileSystem}
use Rattle.tree_trait.specs.Calls.{Call, Stat, ListFolder, ReadAt, ReadLink, MakeFile}
use Rattle.tree_trait.specs.Calls.{WriteAt, SetMode, MakeFolder, MakeLink, Rename}
use Rattle.tree_trait.specs.Calls.{RemoveFile, RemoveFolder, SyncFile, SyncFolder}
use Rattle.mc_text.specs.Routes.{Route, same_path}
use Rattle.tree_trait.specs.FileSystem.{find, node}

pub data Change : Type 0 where
  Nothing : Change
  -- a new node under a name
  Makes : (folder : ℕ) (name : List ℕ) (made : Node) → Change
  -- the node leaves one name for another, where it may replace a node
  Moves : (from : ℕ) (old : List ℕ) (to : ℕ) (new : List ℕ) (moved : ℕ) (replaced : Option ℕ) → Change
  -- the name leads to no node any more
  Removes : (folder : ℕ) (name : List ℕ) (removed : ℕ) → Change
  Sets : (changed : ℕ) (mode : ℕ) → Change
  Writes : (written : ℕ) (bytes : List ℕ) (mtime : ℤ) → Change
  Syncs : (synced : ℕ) → Change

abbrev pub edit : ℕ → List ℕ → Option ℕ → NameEdit
edit folder name to = record { folder = folder; name = name; to = to }

abbrev pub with_bytes : FileSystem → ℕ → List ℕ → ℤ → FileSystem
with_bytes s i bytes mtime =
    record s { nodes = slice_set s.nodes i (record (node s i) { bytes = bytes; mtime = mtime }) }

-- the file system after a change
abbrev pub after_change : FileSystem → Change → FileSystem
after_change s Nothing = s
after_change s (Makes f name made) =
    record s { nodes = s.nodes ++ made ∷ []; names = edit f name (Some (length s.nodes)) ∷ s.names }
after_change s (Moves f old g new i replaced) =
    record s { names = edit g new (Some i) ∷ edit f old None ∷ s.names }
after_change s (Removes f name i) = record s { names = edit f name None ∷ s.names }
after_change s (Sets i mode) = record s { nodes = slice_set s.nodes i (record (node s i) { mode = mode }) }
after_change s (Writes i bytes mtime) = with_bytes s i bytes mtime
after_change s (Syncs i) = s

abbrev pub found_node : FileSystem → Route → ℕ
found_node s path = unwrap_or (find s path) 0

-- a change of the name of a path in its folder; the root has none
abbrev pub of_name : FileSystem → Route → (ℕ → List ℕ → Change) → Change
of_name s [] change = Nothing
of_name s (name ∷ folder) change = change (found_node s folder) name

-- bytes with others written over them at an offset, zeros between
abbrev pub overwritten_bytes : List ℕ → ℕ → List ℕ → List ℕ
overwritten_bytes old offset bytes =
    take offset (old ++ replicate (offset - length old) 0) ++ bytes ++ drop (offset + length bytes) old

-- what a call does where no check of it fails, with the time that it gives to a file
abbrev pub change_of : FileSystem → Call → ℤ → Change
change_of s (Stat path) time = Nothing
change_of s (ListFolder path) time = Nothing
change_of s (ReadAt path offset count) time = Nothing
change_of s (ReadLink path) time = Nothing
change_of s (MakeFile path mode) time = of_name s path (λ f name.
    Makes f name (record { kind = File; bytes = []; mode = mode; mtime = time; unnamed = 0 }))
change_of s (WriteAt path offset bytes) time =
    Writes (found_node s path) (overwritten_bytes (node s (found_node s path)).bytes offset bytes) time
change_of s (SetMode path mode) time = Sets (found_node s path) mode
change_of s (MakeFolder path mode) time = of_name s path (λ f name.
    Makes f name (record { kind = Folder; bytes = []; mode = mode; mtime = pos 0; unnamed = 0 }))
change_of s (MakeLink path text) time = of_name s path (λ f name.
    Makes f name (record { kind = Link; bytes = text; mode = 0; mtime = pos 0; unnamed = 0 }))
change_of s (Rename from to) time =
    if same_path from to then Nothing else
    of_name s from (λ f old. of_name s to (λ g new. Moves f old g new (found_node s from) (find s to)))
change_of s (RemoveFile path) time = of_name s path (λ f name. Removes f name (found_node s path))
change_of s (RemoveFolder path) time = of_name s path (λ f name. Removes f name (found_node s path))
change_of s (SyncFile path) time = Syncs (found_node s path)
change_of s (SyncFolder path) time = Syncs (found_node s path)

-- what a write that failed leaves
abbrev pub torn_write : FileSystem → Call → List ℕ → Change
torn_write s (WriteAt path offset bytes) left = Writes (found_node s path) left (pos 0)
torn_write s call left = Nothing

abbrev pub after_changes : FileSystem → List Change → FileSystem
after_changes s [] = s
after_changes s (c ∷ later) = after_changes (after_change s c) later

-- What a tree has been through: its opening, and what each changing call since did to it, in order. A call
-- that was refused or failed did nothing.
pub record CallLog : Type 0 where
  pub opening : FileSystem
  pub changes : List Change

-- the file system as it stands
abbrev pub current : CallLog → FileSystem
current t = after_changes t.opening t.changes

-- the log with one call more
abbrev pub with_change : CallLog → Change → CallLog
with_change t c = record t { changes = t.changes ++ c ∷ [] }

-- the changes that are any
abbrev pub real : List Change → List Change
real [] = []
real (Nothing ∷ cs) = real cs
real (c ∷ cs) = c ∷ real cs
