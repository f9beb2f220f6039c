-- The names that stand after a change are those of the tree after it.
use Rattle.std.proofs.Common.{◌≡◌, ℕ, List, [], ◌∷◌, length, refl, sym, ◌∙◌, ap, Some, None}
use Rattle.std.specs.Bool.{⊤}
use Rattle.tree_trait.specs.declared.file_system.NameEdit.{NameEdit}
use Rattle.tree_trait.specs.declared.file_system.FileSystem.{FileSystem}
use Rattle.tree_trait.specs.FileSystem.{lookup}
use Rattle.tree_trait.specs.Change.{Change, Nothing, Makes, Moves, Removes, Sets, Writes, Syncs, after_change, edit}
use Rattle.mem_tree.specs.Live.{without_name, leading, standing}
use Rattle.mem_tree.specs.CallSteps.{standing_after}
use Rattle.mem_tree.proofs.Leading.{absent}

-- a name that is made is new
abbrev pub IsNew : FileSystem → Change → Type 0
IsNew s Nothing = ⊤
IsNew s (Makes f name made) = lookup s.names f name ≡ None
IsNew s (Moves f old g new i replaced) = ⊤
IsNew s (Removes f name i) = ⊤
IsNew s (Sets i mode) = ⊤
IsNew s (Writes i bytes mtime) = ⊤
IsNew s (Syncs i) = ⊤

pub standing_change : (s : FileSystem) (c : Change) → IsNew s c → standing_after (standing s) c ≡ standing (after_change s c)
standing_change s Nothing new = refl
standing_change s (Makes f name made) new =
    ap (λ (es : List NameEdit). let t : FileSystem = record (after_change s (Makes f name made)) { names = edit f name (Some (length s.nodes)) ∷ es } in t) (sym (absent f name s.names new))
standing_change s (Moves f old g new i replaced) fresh = refl
standing_change s (Removes f name i) new = refl
standing_change s (Sets i mode) new = refl
standing_change s (Writes i bytes mtime) new = refl
standing_change s (Syncs i) new = refl
