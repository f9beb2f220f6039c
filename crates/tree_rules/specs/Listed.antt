-- The names of a folder, put in order one by one.
use Rattle.std.specs.Prelude.{ℕ, ◌&&◌, ◌==◌, is_some, if◌then◌else◌, List, [], ◌∷◌}
use Rattle.std.specs.declared.cmp.Ordering.TheVariants.{Less, Equal, Greater}
use Rattle.tree_trait.specs.declared.file_system.NameEdit.{NameEdit}
use Rattle.tree_trait.specs.declared.file_system.FileSystem.{FileSystem}
use Rattle.tree_trait.specs.FileSystem.{lookup}
use Rattle.tree_trait.specs.Answers.{name_cmp}

-- a name put among names in order
abbrev pub with_name : List ℕ → List (List ℕ) → List (List ℕ)
with_name name [] = name ∷ []
with_name name (first ∷ rest) = elim (name_cmp name first) [
  | Less ↦ name ∷ first ∷ rest
  | Equal ↦ first ∷ rest
  | Greater ↦ first ∷ with_name name rest
]

-- the names of these edits that lead to a node in a file system
abbrev pub gathered_names : FileSystem → ℕ → List NameEdit → List (List ℕ)
gathered_names s folder [] = []
gathered_names s folder (e ∷ edits) =
    if (e.folder == folder) && is_some (lookup s.names folder e.name)
    then with_name e.name (gathered_names s folder edits) else gathered_names s folder edits
