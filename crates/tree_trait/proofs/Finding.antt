-- Where paths lead in a tree, and in one that lacks a name of it.
use Rattle.std.proofs.Common.{◌≡◌, ℕ, true, false, List, [], ◌∷◌, refl, sym, ◌∙◌, ap, subst, inl, inr, ◌⊎◌, Option, Some, None}
use Rattle.std.specs.Prelude.{option_and_then}
use Rattle.std.proofs.lemmas.Bool.{cases_Bool, and_parts, and_from, eq-eqb, eqb-true, false≢true}
use Rattle.std.proofs.lemmas.Slice.Eq.{bytes_eq-Decides}
use Rattle.tree_trait.specs.declared.file_system.FileSystem.{FileSystem}
use Rattle.mc_text.specs.Routes.{Route}
use Rattle.tree_trait.specs.FileSystem.{lookup, find, node, value_at}
use Rattle.tree_trait.specs.Refusals.{is_folder}
use Rattle.tree_trait.specs.Shape.{IsTree}
use Rattle.tree_trait.specs.CrashImages.{same_name}

pub same_name-true : (f g : ℕ) (m n : List ℕ) → same_name f m g n ≡ true → (f ≡ g) × (m ≡ n)
same_name-true f g m n h = (eqb-true f g (and_parts _ _ h).0, (bytes_eq-Decides m n).0 (and_parts _ _ h).1)

pub same_name-self : (f : ℕ) (m : List ℕ) → same_name f m f m ≡ true
same_name-self f m = and_from _ _ (eq-eqb f f refl) ((bytes_eq-Decides m m).1 refl)

pub and_then-some : (o : Option ℕ) (next : ℕ → Option ℕ) (x : ℕ) → option_and_then next o ≡ Some x → (g : ℕ) × (o ≡ Some g) × (next g ≡ Some x)
and_then-some None next x h = cc
and_then-some (Some g) next x h = (g, refl, h)

-- two paths to one node are one path
pub find-once : (s : FileSystem) → IsTree s → (u v : Route) (x : ℕ) → find s u ≡ Some x → find s v ≡ Some x → u ≡ v
find-once s tree [] [] x a b = refl
find-once s tree [] (n ∷ v) x a b =
    let q = and_then-some (find s v) (λ f. lookup s.names f n) x b in
    absurd (tree.no_name q.0 n (q.2 ∙ sym a))
find-once s tree (m ∷ u) [] x a b =
    let p = and_then-some (find s u) (λ f. lookup s.names f m) x a in
    absurd (tree.no_name p.0 m (p.2 ∙ sym b))
find-once s tree (m ∷ u) (n ∷ v) x a b =
    let p = and_then-some (find s u) (λ f. lookup s.names f m) x a in
    let q = and_then-some (find s v) (λ f. lookup s.names f n) x b in
    let same = tree.one_name p.0 q.0 m n x p.2 q.2 in
    let rest = find-once s tree u v q.0 (p.1 ∙ ap Some same.0) q.1 in
    cc

-- a store that differs from a tree at most in lacking one name
pub record IsNear (s image : FileSystem) (f : ℕ) (name : List ℕ) (i : ℕ) : Type 0 where
  pub nodes : image.nodes ≡ s.nodes
  pub there : (lookup image.names f name ≡ Some i) ⊎ (lookup image.names f name ≡ None)
  pub others : (g : ℕ) (m : List ℕ) → same_name f name g m ≡ false → lookup image.names g m ≡ lookup s.names g m

module _ (s image : FileSystem) (tree : IsTree s) (f : ℕ) (name : List ℕ) (i : ℕ) (up : Route) (at_folder : find s up ≡ Some f)
    (leads : lookup s.names f name ≡ Some i) (no_folder : is_folder (node s i) ≡ false) (near : IsNear s image f name i) where
  -- at a name, where the way to its folder is the same
  at_name : (m : List ℕ) (q : Route) (g : ℕ) → find s q ≡ Some g → find image q ≡ Some g
      → (find image (m ∷ q) ≡ find s (m ∷ q)) ⊎ (((m ∷ q) ≡ (name ∷ up)) × (find image (m ∷ q) ≡ None))
  at_name m q g was is =
      elim (cases_Bool (same_name f name g m)) [
        | inl here ↦
            let same = same_name-true f g name m here in
            let route : q ≡ up = find-once s tree q up f (was ∙ ap Some (sym same.0)) at_folder in
            elim near.there [
              | inl kept ↦ inl (rw (is, was) (subst (λ h. lookup image.names h m ≡ lookup s.names h m) same.0 (subst (λ n. lookup image.names f n ≡ lookup s.names f n) same.1 (kept ∙ sym leads))))
              | inr gone ↦ inr (cc, rw is (subst (λ h. lookup image.names h m ≡ None) same.0 (subst (λ n. lookup image.names f n ≡ None) same.1 gone)))
            ]
        | inr apart ↦ inl (rw (is, was) (near.others g m apart))
      ]

  below : (m : List ℕ) (q : Route) (o : Option ℕ) → find s q ≡ o → find image q ≡ o
      → (find image (m ∷ q) ≡ find s (m ∷ q)) ⊎ (((m ∷ q) ≡ (name ∷ up)) × (find image (m ∷ q) ≡ None))
  below m q None was is = inl (rw (is, was) refl)
  below m q (Some g) was is = at_name m q g was is

  none_below : (m : List ℕ) (o : Option ℕ) → lookup s.names i m ≡ o → lookup s.names i m ≡ None
  none_below m None h = h
  none_below m (Some x) h = absurd (false≢true (sym no_folder ∙ tree.in_folders i m x h))

  -- a path leads where it led, or it is the one that is gone
  pub find-near : (q : Route) → (find image q ≡ find s q) ⊎ ((q ≡ (name ∷ up)) × (find image q ≡ None))
  find-near [] = inl refl
  find-near (m ∷ q) =
      elim (find-near q) [
        | inl same ↦ below m q (find s q) refl same
        | inr gone ↦
            let was : find s q ≡ Some i = ap (find s) gone.0 ∙ (ap (option_and_then (λ g. lookup s.names g name)) at_folder ∙ leads) in
            inl (rw (gone.1, was) (sym (none_below m (lookup s.names i m) refl)))
      ]

  -- the view is the same but for the one path, where the thing is whole or missing
  pub value_at-near : (q : Route) → (value_at image q ≡ value_at s q) ⊎ ((q ≡ (name ∷ up)) × (value_at image q ≡ None))
  value_at-near q =
      elim (find-near q) [
        | inl same ↦ inl (rw (same, near.nodes) refl)
        | inr gone ↦ inr (gone.0, rw gone.1 refl)
      ]
