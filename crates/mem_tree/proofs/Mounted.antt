-- A tree that was not called yet, with a mount more, is kept.
use Rattle.std.proofs.Common.{◌≡◌, ℕ, ◌+◌, ◌<◌, ◌≤◌, List, [], ◌∷◌, ◌++◌, length, refl, sym, ◌∙◌, ap, subst, arith, length-append}
use Rattle.std.proofs.lemmas.Bool.{false≢true}
use Rattle.mc_text.specs.Routes.{Route}
use Rattle.tree_trait.specs.declared.file_system.FileSystem.{FileSystem}
use Rattle.tree_trait.specs.declared.file_system.Mount.{Mount}
use Rattle.tree_trait.specs.Change.{Makes, after_change, of_name, found_node}
use Rattle.mem_tree.specs.declared.record.Record.{Record}
use Rattle.mem_tree.specs.Records.{changes_by}
use Rattle.mem_tree.specs.Live.{standing}
use Rattle.mem_tree.specs.Sound.{FitsNode, IsSound}
use Rattle.mem_tree.specs.Held.{IsKept, folder_node}
use Rattle.mem_tree.specs.Puts.{mounted_system}
use Rattle.mem_tree.proofs.Sounds.{sound_change}

no_records : (records : List Record) → changes_by records ≡ [] → records ≡ []
no_records [] h = refl
no_records (r ∷ records) h = cc

folder_fits : FitsNode (folder_node 0o755 0)
folder_fits = record { mode = omega arith; size = omega arith; link = λ h. absurd (false≢true h) }

sound_folder : (s : FileSystem) (path : Route) → IsSound s → IsSound (after_change s (of_name s path (λ f name. Makes f name (folder_node 0o755 0))))
sound_folder s [] sound = sound
sound_folder s (name ∷ up) sound = sound_change s (Makes (found_node s up) name (folder_node 0o755 0)) sound folder_fits

same_mounts : (s : FileSystem) (path : Route) → (after_change s (of_name s path (λ f name. Makes f name (folder_node 0o755 0)))).mounts ≡ s.mounts
same_mounts s [] = refl
same_mounts s (name ∷ up) = refl

sound_mounted : (s : FileSystem) (path : Route) (capacity : ℕ) → IsSound s → length s.mounts < 1000 → IsSound (mounted_system s path capacity)
sound_mounted s path capacity sound few =
    let m : Mount = record { folder = length s.nodes; capacity = capacity } in
    let t : FileSystem = after_change s (of_name s path (λ f name. Makes f name (folder_node 0o755 0))) in
    let count = length-append t.mounts (m ∷ []) in
    let same = ap (λ (ms : List Mount). length ms) (same_mounts s path) in
    record { nodes = (sound_folder s path sound).nodes; mounts = omega (arith, count, same, few) }

pub kept_mount : (s new stands : FileSystem) (path : Route) (capacity : ℕ) (records : List Record) → IsSound s → length s.mounts < 1000 → changes_by records ≡ []
    → new ≡ mounted_system s path capacity → stands ≡ standing new → IsKept new records stands
kept_mount s new stands path capacity records sound few none is there =
    subst (λ (rs : List Record). IsKept new rs stands) (sym (no_records records none)) (record {
      stands_is = there;
      sound = subst (λ (t : FileSystem). IsSound t) (sym is) (sound_mounted s path capacity sound few);
      fits = tt;
      tree = λ t. t;
    })
