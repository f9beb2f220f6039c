-- The shape of a tree: no node has two names, the root has none, only folders hold names, names lead to
-- nodes that are there, and mounts begin at folders, one of them at the root. Every file system that can be
-- reached has it; a crash image need not.
use Rattle.std.specs.Prelude.{◌≡◌, ℕ, ◌<◌, length, true, false, List, ◌∷◌, Some}
use Rattle.tree_trait.specs.declared.file_system.FileSystem.{FileSystem}
use Rattle.mc_text.specs.Routes.{Route}
use Rattle.tree_trait.specs.FileSystem.{lookup, find, node, starts_mount}
use Rattle.tree_trait.specs.Refusals.{is_folder}

pub record IsTree (s : FileSystem) : Type 0 where
  pub one_name : (f g : ℕ) (m n : List ℕ) (i : ℕ) → lookup s.names f m ≡ Some i → lookup s.names g n ≡ Some i
      → (f ≡ g) × (m ≡ n)
  pub no_name : (f : ℕ) (m : List ℕ) → lookup s.names f m ≡ Some 0 → ⊥
  pub in_folders : (f : ℕ) (m : List ℕ) (i : ℕ) → lookup s.names f m ≡ Some i → is_folder (node s f) ≡ true
  pub there : (f : ℕ) (m : List ℕ) (i : ℕ) → lookup s.names f m ≡ Some i → i < length s.nodes
  pub root : is_folder (node s 0) ≡ true
  pub mounts : (i : ℕ) → starts_mount s i ≡ true → is_folder (node s i) ≡ true
  pub mounted : starts_mount s 0 ≡ true

-- a file, or another thing that is no folder, stands under a name
pub record IsRemovable (s : FileSystem) (path : Route) : Type 0 where
  pub up : Route
  pub name : List ℕ
  pub f : ℕ
  pub i : ℕ
  pub path_is : path ≡ name ∷ up
  pub folder : find s up ≡ Some f
  pub leads : lookup s.names f name ≡ Some i
  pub no_folder : is_folder (node s i) ≡ false
