-- What the definitions leave open, on small trees: wrong orders of calls lose a file.
use Rattle.std.proofs.Common.{◌≡◌, ℕ, pos, List, [], ◌∷◌, refl, sym, subst, inl, inr, Some, None}
use Rattle.mc_text.specs.declared.kind.Kind.TheVariants.{File, Folder}
use Rattle.tree_trait.specs.declared.file_system.Node.{Node}
use Rattle.tree_trait.specs.declared.file_system.FileSystem.{FileSystem}
use Rattle.tree_trait.specs.FileSystem.{Value, value_at}
use Rattle.tree_trait.specs.Change.{Change, Makes, Moves, Removes, Writes, Syncs, edit}
use Rattle.tree_trait.specs.CrashImages.{MayLeave}

folder : Node
folder = record { kind = Folder; bytes = []; mode = 0o755; mtime = pos 0; unnamed = 0 }

file : List ℕ → Node
file bytes = record { kind = File; bytes = bytes; mode = 0o644; mtime = pos 0; unnamed = 0 }

-- the root holds a file under the name 1
abbrev small : FileSystem
small = record { nodes = folder ∷ file (7 ∷ []) ∷ []; names = edit 0 (1 ∷ []) (Some 1) ∷ []; mounts = [] }

-- a folder 2 is made, and the file is moved into it as 3; nothing is synced
abbrev moved_too_soon : List Change
moved_too_soon = Makes 0 (2 ∷ []) folder ∷ Moves 0 (1 ∷ []) 2 (3 ∷ []) 1 None ∷ []

-- then a crash may lose the file: it is at neither place
lost_file : (image : FileSystem) × MayLeave small moved_too_soon image × (value_at image ((1 ∷ []) ∷ []) ≡ None) × (value_at image ((3 ∷ []) ∷ (2 ∷ []) ∷ []) ≡ None)
unfolding folder file
lost_file = (_, inr (refl, (_, refl, inl refl)), refl, refl)

-- a part 2 is made and written, and renamed over the file before it is synced
abbrev renamed_too_soon : List Change
renamed_too_soon = Makes 0 (2 ∷ []) (file []) ∷ Writes 2 (8 ∷ []) (pos 0) ∷ Moves 0 (2 ∷ []) 0 (1 ∷ []) 2 (Some 1) ∷ []

-- then the file may hold any bytes
any_bytes : (bytes : List ℕ) → (image : FileSystem) × MayLeave small renamed_too_soon image
    × (value_at image ((1 ∷ []) ∷ []) ≡ Some (let v : Value = record { kind = File; bytes = bytes; mode = 0o644; unnamed = 0 } in v))
unfolding folder file
any_bytes bytes = (_, inl (inr (refl, (_, (bytes, refl), inl refl))), refl)

-- a file that is removed, and its folder synced, is gone from each image
gone : (image : FileSystem) → MayLeave small (Removes 0 (1 ∷ []) 1 ∷ Syncs 0 ∷ []) image → value_at image ((1 ∷ []) ∷ []) ≡ None
unfolding folder file
gone image (inl (inl left)) = subst (λ (x : FileSystem). value_at x ((1 ∷ []) ∷ []) ≡ None) (sym left) refl
gone image (inl (inr lost)) = cc
gone image (inr lost) = cc
