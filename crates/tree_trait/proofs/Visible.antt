-- What a removal makes of the tree that can be seen: one path has nothing any more.
use Rattle.std.proofs.Common.{◌≡◌, ℕ, ◌<◌, Bool, true, false, List, [], ◌∷◌, length, refl, sym, ◌∙◌, ap, subst, inl, inr, Option, Some, None, cond, arith}
use Rattle.std.specs.Prelude.{option_and_then, if◌then◌else◌, ℤ}
use Rattle.std.specs.Option.{option_map, option_map_or}
use Rattle.std.proofs.lemmas.Bool.{cases_Bool, cases_eq, false≢true, both_ways, false_from_ne_true}
use Rattle.std.proofs.lemmas.Slice.Eq.{bytes_eq-Decides, slice_eq-Decides}
use Rattle.mc_text.specs.Routes.{Route, same_path}
use Rattle.tree_trait.specs.declared.file_system.Node.{Node}
use Rattle.tree_trait.specs.declared.file_system.FileSystem.{FileSystem}
use Rattle.tree_trait.specs.Calls.{RemoveFile}
use Rattle.tree_trait.specs.FileSystem.{lookup, find, no_node, node, value, Spot, view_with, starts_mount, visible_tree}
use Rattle.tree_trait.specs.Refusals.{is_folder, refusal_of}
use Rattle.tree_trait.specs.Change.{Removes, after_change, change_of, found_node}
use Rattle.tree_trait.specs.CrashImages.{same_name}
use Rattle.tree_trait.specs.Shape.{IsTree, IsRemovable}
use Rattle.tree_trait.proofs.Finding.{same_name-true, same_name-self, find-once, and_then-some}
use Rattle.tree_trait.proofs.Steady.{at}
use Rattle.tree_trait.proofs.Walking.{removable}

pub same_path-true : (p q : Route) → same_path p q ≡ true → p ≡ q
same_path-true p q h = (slice_eq-Decides bytes_eq-Decides p q (same_path p q) refl).0 h

pub same_path-self : (p : Route) → same_path p p ≡ true
same_path-self p = (slice_eq-Decides bytes_eq-Decides p p (same_path p p) refl).1 refl

-- where paths lead once one of them leads elsewhere
abbrev moved_to : (Route → Option ℕ) → Route → Option ℕ → Route → Option ℕ
moved_to leads path to p = if same_path p path then to else leads p

at_past : (xs : List Node) → at xs (length xs) ≡ no_node
at_past [] = refl
at_past (x ∷ xs) = at_past xs

longer : (m : List ℕ) (path : Route) → same_path (m ∷ path) path ≡ false
longer m path = false_from_ne_true (same_path (m ∷ path) path) (λ h. let l = ap length (same_path-true (m ∷ path) path h) in absurd (omega arith))

module _ (s : FileSystem) (tree : IsTree s) where
  past_is_none : (k : ℕ) → k ≡ length s.nodes → is_folder (node s k) ≡ true → ⊥
  past_is_none k e h = false≢true (sym (ap is_folder (ap (at s.nodes) e ∙ at_past s.nodes)) ∙ h)

  some_there : (n : ℕ) → (length s.nodes ≡ 0 → ⊥) → 0 < length s.nodes
  some_there n h = elim (cases_eq (length s.nodes) 0) [ inl e ↦ absurd (h e) | inr ne ↦ omega arith ]

  -- what a path leads to is there
  found_there : (p : Route) (k : ℕ) → find s p ≡ Some k → k < length s.nodes
  found_there [] k h =
      let e : 0 ≡ k = cc in
      let z = some_there 0 (λ none. past_is_none 0 (sym none) tree.root) in omega arith
  found_there (m ∷ q) k h = let w = and_then-some (find s q) (λ f. lookup s.names f m) k h in tree.there w.0 m k w.2

  nameless : (k : ℕ) (m : List ℕ) (o : Option ℕ) → lookup s.names k m ≡ o → k ≡ length s.nodes → lookup s.names k m ≡ None
  nameless k m None is e = is
  nameless k m (Some x) is e = absurd (past_is_none k e (tree.in_folders k m x is))

  module _ (f : ℕ) (name : List ℕ) (up : Route) (folder : find s up ≡ Some f) where
    -- a name of a folder that is found is that of one path
    only_path : (k : ℕ) (m : List ℕ) (q : Route) → find s q ≡ Some k → same_name f name k m ≡ true → (m ∷ q) ≡ name ∷ up
    only_path k m q found_node on =
        let w = same_name-true f k name m on in
        let u : q ≡ up = find-once s tree q up k found_node (folder ∙ ap Some w.0) in cc

    only_name : (k : ℕ) (m : List ℕ) (q : Route) → find s q ≡ Some k → (m ∷ q) ≡ name ∷ up → same_name f name k m ≡ true
    only_name k m q found_node e =
        let q_is : q ≡ up = cc in
        let m_is : name ≡ m = cc in
        let found_up : find s up ≡ Some k = subst (λ r. find s r ≡ Some k) q_is found_node in
        let k_is : f ≡ k = cc in
        subst (λ j. same_name f name j m ≡ true) k_is (subst (λ n. same_name f name f n ≡ true) m_is (same_name-self f name))

    -- a name is edited: a path leads where its new edit says
    module _ (after : FileSystem) (to : Option ℕ) (here : lookup after.names f name ≡ to)
        (others : (k : ℕ) (m : List ℕ) → same_name f name k m ≡ false → lookup after.names k m ≡ lookup s.names k m)
        (bare : (i : ℕ) (m : List ℕ) → to ≡ Some i → lookup after.names i m ≡ None)
        (was_bare : (m : List ℕ) → find s (m ∷ name ∷ up) ≡ None) where
      at_name : (m : List ℕ) (k : ℕ) → same_name f name k m ≡ true → lookup after.names k m ≡ to
      at_name m k on = let w = same_name-true f k name m on in subst (λ j. lookup after.names j m ≡ to) w.0 (subst (λ n. lookup after.names f n ≡ to) w.1 here)

      below_path : (m : List ℕ) (o : Option ℕ) → to ≡ o → option_and_then (λ k. lookup after.names k m) to ≡ None
      below_path m None is = ap (option_and_then (λ k. lookup after.names k m)) is
      below_path m (Some i) is = ap (option_and_then (λ k. lookup after.names k m)) is ∙ bare i m is

      beside : (m : List ℕ) (q : Route) (o : Option ℕ) → find s q ≡ o → option_and_then (λ k. lookup after.names k m) (find s q) ≡ moved_to (find s) (name ∷ up) to (m ∷ q)
      beside m q None is =
          let off : same_path (m ∷ q) (name ∷ up) ≡ false = false_from_ne_true (same_path (m ∷ q) (name ∷ up)) (λ h.
          let e : (m ∷ q) ≡ name ∷ up = same_path-true (m ∷ q) (name ∷ up) h in
          let q_is : q ≡ up = cc in
          let found_up : find s up ≡ None = subst (λ r. find s r ≡ None) q_is is in cc) in
          rw (is, off) refl
      beside m q (Some k) is =
          elim (cases_Bool (same_name f name k m)) [
            | inl on ↦
                let e = only_path k m q is on in
                let same_is : same_path (m ∷ q) (name ∷ up) ≡ true = subst (λ r. same_path r (name ∷ up) ≡ true) (sym e) (same_path-self (name ∷ up)) in
                rw (same_is, is) (at_name m k on)
            | inr off ↦
                let off_path : same_path (m ∷ q) (name ∷ up) ≡ false = false_from_ne_true (same_path (m ∷ q) (name ∷ up)) (λ h.
                both_ways (same_name f name k m) off (only_name k m q is (same_path-true (m ∷ q) (name ∷ up) h))) in
                rw (off_path, is) (others k m off)
          ]

      find-edited : (p : Route) → find after p ≡ moved_to (find s) (name ∷ up) to p
      find-edited [] = refl
      find-edited (m ∷ q) =
          elim (cases_Bool (same_path q (name ∷ up))) [
            | inl on ↦
                let e : q ≡ name ∷ up = same_path-true q (name ∷ up) on in
                let step : find after q ≡ to = find-edited q ∙ rw on refl in
                let off : same_path (m ∷ q) (name ∷ up) ≡ false = subst (λ r. same_path (m ∷ r) (name ∷ up) ≡ false) (sym e) (longer m (name ∷ up)) in
                let none : find s (m ∷ q) ≡ None = subst (λ r. find s (m ∷ r) ≡ None) (sym e) (was_bare m) in
                let right : moved_to (find s) (name ∷ up) to (m ∷ q) ≡ None = ap (λ b. cond b to (find s (m ∷ q))) off ∙ none in
                ap (option_and_then (λ k. lookup after.names k m)) step ∙ (below_path m to refl ∙ sym right)
            | inr off ↦
                let step : find after q ≡ find s q = find-edited q ∙ rw off refl in
                ap (option_and_then (λ k. lookup after.names k m)) step ∙ beside m q (find s q) refl
          ]

-- what can be seen where a path leads
abbrev seen : FileSystem → Option ℕ → Spot
seen s o = record { value = option_map (λ i. value (node s i)) o; is_mount = option_map_or (starts_mount s) o false }

seen_gone : (s : FileSystem) (b : Bool) (o : Option ℕ) → (b ≡ true → option_map_or (starts_mount s) o false ≡ false)
    → seen s (cond b None o) ≡ cond b (record (seen s o) { value = None }) (seen s o)
seen_gone s true o h = ap (λ m. let spot : Spot = record { value = None; is_mount = m } in spot) (sym (h refl))
seen_gone s false o h = refl

not_true : (b : Bool) (c : Bool) → (b ≡ true → c ≡ true) → c ≡ false → b ≡ false
not_true true c h off = absurd (false≢true (sym off ∙ h refl))
not_true false c h off = refl

-- a removal that isn't refused leaves nothing at its path
pub removal_shows : (s : FileSystem) (path : Route) (time : ℤ) → IsTree s → refusal_of s (RemoveFile path) ≡ None
    → (p : Route) → visible_tree (after_change s (change_of s (RemoveFile path) time)) p ≡ view_with (visible_tree s) path None p
removal_shows s path time tree permits p =
    let r = removable s path tree permits in
    subst (λ q. visible_tree (after_change s (change_of s (RemoveFile q) time)) p ≡ view_with (visible_tree s) q None p) (sym r.path_is) (
    rw r.folder (
    ap (seen s) (find_is r) ∙ seen_gone s (same_path p (r.name ∷ r.up)) (find s p) (λ on. is_no_mount r on)))
  where
    bare : (r : IsRemovable s path) (m : List ℕ) (o : Option ℕ) → lookup s.names r.i m ≡ o → lookup s.names r.i m ≡ None
    bare r m None is = is
    bare r m (Some x) is = absurd (false≢true (sym r.no_folder ∙ tree.in_folders r.i m x is))

    find_is : (r : IsRemovable s path) → find (after_change s (Removes r.f r.name r.i)) p ≡ moved_to (find s) (r.name ∷ r.up) None p
    find_is r =
        find-edited s tree r.f r.name r.up r.folder (after_change s (Removes r.f r.name r.i)) None (rw (same_name-self r.f r.name) refl) (λ k m off. rw off refl)
        (λ j m e. cc)
        (λ m. ap (option_and_then (λ k. lookup s.names k m)) (ap (option_and_then (λ k. lookup s.names k r.name)) r.folder ∙ r.leads) ∙ bare r m (lookup s.names r.i m) refl) p

    is_no_mount : (r : IsRemovable s path) → same_path p (r.name ∷ r.up) ≡ true → option_map_or (starts_mount s) (find s p) false ≡ false
    is_no_mount r on =
        let e = same_path-true p (r.name ∷ r.up) on in
        let leads : find s p ≡ Some r.i = ap (find s) e ∙ (ap (option_and_then (λ k. lookup s.names k r.name)) r.folder ∙ r.leads) in
        ap (λ o. option_map_or (starts_mount s) o false) leads ∙ not_true (starts_mount s r.i) (is_folder (node s r.i)) (tree.mounts r.i) r.no_folder
