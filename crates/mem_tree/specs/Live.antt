-- The names of a file system that lead to a node. A tree in memory keeps these, so that it needs
-- no memory to take one out.
use Rattle.std.specs.Prelude.{◌≡◌, ℕ, false, ⊤, is_some, if◌then◌else◌, List, [], ◌∷◌, Option}
use Rattle.std.specs.Prelude.{None, Some, ◌<◌, ◌≤◌, ◌-◌, true, drop, length, slice_get}
use Rattle.std.specs.List.{list_any}
use Rattle.tree_trait.specs.declared.file_system.NameEdit.{NameEdit}
use Rattle.tree_trait.specs.declared.file_system.FileSystem.{FileSystem}
use Rattle.tree_trait.specs.FileSystem.{is_of}

-- the edits of all names but this one
abbrev pub without_name : ℕ → List ℕ → List NameEdit → List NameEdit
without_name folder name [] = []
without_name folder name (e ∷ edits) =
    if is_of folder name e then without_name folder name edits else e ∷ without_name folder name edits

-- an edit before others, if it leads to a node
abbrev pub if_leading : NameEdit → List NameEdit → List NameEdit
if_leading e edits = if is_some e.to then e ∷ edits else edits

-- of each name its newest edit, if that leads to a node
abbrev pub leading : List NameEdit → List NameEdit
leading [] = []
leading (e ∷ older) = if_leading e (without_name e.folder e.name (leading older))

-- the same file system with these names alone
abbrev pub standing : FileSystem → FileSystem
standing s = record s { names = leading s.names }

-- each name stands once
abbrev pub IsOnce : List NameEdit → Type 0
IsOnce [] = ⊤
IsOnce (e ∷ edits) = (list_any (is_of e.folder e.name) edits ≡ false) × IsOnce edits

-- the place of a name among edits behind the first, or that it is none of theirs
abbrev pub IsPlaceBehind : ℕ → List ℕ → List NameEdit → Option ℕ → Type 0
IsPlaceBehind folder name edits None = list_any (is_of folder name) (drop 1 edits) ≡ false
IsPlaceBehind folder name edits (Some k) =
    (1 ≤ k) × (k < length edits)
    × ((e : NameEdit) × (slice_get (drop 1 edits) (k - 1) ≡ Some e) × (is_of folder name e ≡ true))
