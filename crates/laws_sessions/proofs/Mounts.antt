-- Where a folder's mount begins: at the folder, or at one above it.
use Rattle.std.proofs.Common.{◌≡◌, ◌⊎◌, ℕ, Bool, true, false, List, [], ◌∷◌, ◌++◌, refl, sym, ◌∙◌, ap, inl, inr, Some, cond, append_assoc}
use Rattle.mc_text.specs.Routes.{Route}
use Rattle.tree_trait.specs.declared.file_system.FileSystem.{FileSystem}
use Rattle.tree_trait.specs.FileSystem.{find, lookup, starts_mount}
use Rattle.tree_trait.specs.Refusals.{mount_here, mount_of}
use Rattle.tree_trait.specs.Shape.{IsTree}
use Rattle.tree_trait.proofs.Finding.{and_then-some, find-once}

-- a mount begins at the path, or it lies on that of the folder around
step : (s : FileSystem) (name : List ℕ) (up : Route) (i : ℕ) → find s (name ∷ up) ≡ Some i → (mount_of s (name ∷ up) ≡ i) ⊎ (mount_of s (name ∷ up) ≡ mount_of s up)
step s name up i at = by (starts_mount s i) refl
  where
    by : (b : Bool) → starts_mount s i ≡ b → (mount_of s (name ∷ up) ≡ i) ⊎ (mount_of s (name ∷ up) ≡ mount_of s up)
    by true starts = inl (ap (λ o. mount_here s o (mount_of s up)) at ∙ ap (λ b. cond b i (mount_of s up)) starts)
    by false inside = inr (ap (λ o. mount_here s o (mount_of s up)) at ∙ ap (λ b. cond b i (mount_of s up)) inside)

-- the folder at which the mount begins that has this path
pub record MountAbove (s : FileSystem) (path : Route) : Type 0 where
  pub rest : Route
  pub root : Route
  pub path_is : path ≡ rest ++ root
  pub at : find s root ≡ Some (mount_of s path)

pub mount_above : (s : FileSystem) (path : Route) (i : ℕ) → find s path ≡ Some i → MountAbove s path
mount_above s [] i at = record { rest = []; root = []; path_is = refl; at = refl }
mount_above s (name ∷ up) i at = elim (step s name up i at) [
  | inl here ↦ record { rest = []; root = name ∷ up; path_is = refl; at = at ∙ ap (λ n. Some n) (sym here) }
  | inr outer ↦
      let h = and_then-some (find s up) (λ f. lookup s.names f name) i at in
      let above = mount_above s up h.0 h.1 in
      record { rest = name ∷ above.rest; root = above.root; path_is = ap (λ (q : Route). name ∷ q) above.path_is; at = above.at ∙ ap (λ n. Some n) (sym outer) }
]

-- It begins at or below a thing, or the path lies on the mount of the folder that holds the thing.
pub mount_within : (s : FileSystem) (thing : List ℕ) (up : Route) (rest : Route) (i : ℕ) → find s (rest ++ thing ∷ up) ≡ Some i
    → ((more : Route) × (find s (more ++ thing ∷ up) ≡ Some (mount_of s (rest ++ thing ∷ up)))) ⊎ (mount_of s (rest ++ thing ∷ up) ≡ mount_of s up)
mount_within s thing up [] i at = elim (step s thing up i at) [ inl here ↦ inl ([], at ∙ ap (λ n. Some n) (sym here)) | inr outer ↦ inr outer ]
mount_within s thing up (name ∷ rest) i at = elim (step s name (rest ++ thing ∷ up) i at) [
  | inl here ↦ inl (name ∷ rest, at ∙ ap (λ n. Some n) (sym here))
  | inr outer ↦
      let h = and_then-some (find s (rest ++ thing ∷ up)) (λ f. lookup s.names f name) i at in
      elim (mount_within s thing up rest h.0 h.1) [ inl inside ↦ inl (inside.0, inside.1 ∙ ap (λ n. Some n) (sym outer)) | inr same ↦ inr (outer ∙ same) ]
]

-- A path on the mount of one that lies at or below a thing lies there, too, or that is the mount of the folder that holds the thing.
pub mount_mates : (s : FileSystem) → IsTree s → (thing : List ℕ) (up rest : Route) (i : ℕ) → find s (rest ++ thing ∷ up) ≡ Some i → (q : Route) (g : ℕ) → find s q ≡ Some g → mount_of s q ≡ mount_of s (rest ++ thing ∷ up)
    → ((more : Route) × (q ≡ more ++ thing ∷ up)) ⊎ (mount_of s (rest ++ thing ∷ up) ≡ mount_of s up)
mount_mates s tree thing up rest i at q g there mount = elim (mount_within s thing up rest i at) [
  | inl inside ↦
      let above = mount_above s q g there in
      let root_is = find-once s tree above.root (inside.0 ++ thing ∷ up) (mount_of s q) above.at (inside.1 ∙ ap (λ n. Some n) (sym mount)) in
      inl (above.rest ++ inside.0, above.path_is ∙ (ap (λ p. above.rest ++ p) root_is ∙ sym (append_assoc above.rest inside.0 (thing ∷ up))))
  | inr around ↦ inr around
]
