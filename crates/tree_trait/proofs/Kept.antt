-- A tree stays a tree as it changes.
use Rattle.std.proofs.Common.{◌≡◌, ℕ, ◌<◌, zero, suc, Bool, true, false, List, [], ◌∷◌, ◌++◌, length, refl, sym, ◌∙◌, ap, subst, inl, inr, ◌⊎◌, Option, Some, None, arith, length-append, cond}
use Rattle.std.specs.Prelude.{unwrap_or, slice_get, slice_set}
use Rattle.std.proofs.lemmas.List.{length-set}
use Rattle.std.proofs.lemmas.Bool.{cond-true, false≢true}
use Rattle.tree_trait.specs.declared.file_system.Node.{Node}
use Rattle.tree_trait.specs.declared.file_system.FileSystem.{FileSystem}
use Rattle.tree_trait.specs.FileSystem.{lookup, node, no_node}
use Rattle.tree_trait.specs.Refusals.{is_folder, folder_kind}
use Rattle.tree_trait.specs.Change.{Makes, Moves, Removes, Syncs, after_change}
use Rattle.tree_trait.specs.CrashImages.{same_name, MayLeave}
use Rattle.tree_trait.specs.Shape.{IsTree}
use Rattle.tree_trait.proofs.Finding.{same_name-true, same_name-self}

-- what is under a name after an edit: the edit's, or what was there
edited : (b : Bool) (to old : Option ℕ) (i : ℕ) → cond b to old ≡ Some i → ((b ≡ true) × (to ≡ Some i)) ⊎ ((b ≡ false) × (old ≡ Some i))
edited true to old i h = inl (refl, h)
edited false to old i h = inr (refl, h)

none_some : (i : ℕ) → (let o : Option ℕ = None in o) ≡ Some i → ⊥
none_some i h = cc

-- a name less
still : (b : Bool) (old : Option ℕ) (i : ℕ) → cond b None old ≡ Some i → old ≡ Some i
still true old i h = absurd (none_some i h)
still false old i h = h

pub tree_removed : (s : FileSystem) (g : ℕ) (name : List ℕ) (j : ℕ) → IsTree s → IsTree (after_change s (Removes g name j))
tree_removed s g name j tree = record {
  one_name = λ f h m n i a b. tree.one_name f h m n i (still _ _ i a) (still _ _ i b);
  no_name = λ f m a. tree.no_name f m (still _ _ 0 a);
  in_folders = λ f m i a. tree.in_folders f m i (still _ _ i a);
  there = λ f m i a. tree.there f m i (still _ _ i a);
  root = tree.root;
  mounts = tree.mounts;
  mounted = tree.mounted;
}

-- a node more changes no node that was there
pub at_more : (xs : List Node) (n : Node) (i : ℕ) → i < length xs → unwrap_or (slice_get (xs ++ n ∷ []) i) no_node ≡ unwrap_or (slice_get xs i) no_node
at_more [] n i h = absurd (omega (arith, h))
at_more (x ∷ xs) n zero h = refl
at_more (x ∷ xs) n (suc i) h = at_more xs n i (omega (arith, h))

-- only a node that is there is a folder
pub folder_there : (xs : List Node) (i : ℕ) → is_folder (unwrap_or (slice_get xs i) no_node) ≡ true → i < length xs
folder_there [] i h = absurd (false≢true h)
folder_there (x ∷ xs) zero h = omega arith
folder_there (x ∷ xs) (suc i) h = let t = folder_there xs i h in omega (arith, t)

module _ (s : FileSystem) (g : ℕ) (name : List ℕ) (made : Node) (tree : IsTree s) (folder : is_folder (node s g) ≡ true) where
  -- a name that led to a node leads there still, and the new one to the new node
  cases_made : (f : ℕ) (m : List ℕ) (i : ℕ) → lookup (after_change s (Makes g name made)).names f m ≡ Some i
      → ((f ≡ g) × (m ≡ name) × (i ≡ length s.nodes)) ⊎ (lookup s.names f m ≡ Some i)
  cases_made f m i h =
      elim (edited (same_name g name f m) (Some (length s.nodes)) (lookup s.names f m) i h) [
        | inl new ↦ let same = same_name-true g f name m new.0 in inl (sym same.0, sym same.1, (let e = new.1 in cc))
        | inr old ↦ inr old.1
      ]

  folder_stays : (f : ℕ) → is_folder (node s f) ≡ true → is_folder (node (after_change s (Makes g name made)) f) ≡ true
  folder_stays f h = ap is_folder (at_more s.nodes made f (folder_there s.nodes f h)) ∙ h

  apart : (f : ℕ) (m : List ℕ) (i : ℕ) → lookup s.names f m ≡ Some i → i ≡ length s.nodes → ⊥
  apart f m i a e = let t = tree.there f m i a in absurd (omega (arith, t, e))

  pub tree_made : IsTree (after_change s (Makes g name made))
  tree_made = record {
    one_name = λ f h m n i a b.
        elim (cases_made f m i a) [
          | inl x ↦ elim (cases_made h n i b) [ inl y ↦ (x.0 ∙ sym y.0, x.1 ∙ sym y.1) | inr y ↦ absurd (apart h n i y x.2) ]
          | inr x ↦ elim (cases_made h n i b) [ inl y ↦ absurd (apart f m i x y.2) | inr y ↦ tree.one_name f h m n i x y ]
        ];
    no_name = λ f m a. elim (cases_made f m 0 a) [
      | inl x ↦ let t = folder_there s.nodes 0 tree.root in let e = x.2 in absurd (omega (arith, t, e))
      | inr x ↦ tree.no_name f m x
    ];
    in_folders = λ f m i a. elim (cases_made f m i a) [
      | inl x ↦ folder_stays f (subst (λ j. is_folder (node s j) ≡ true) (sym x.0) folder)
      | inr x ↦ folder_stays f (tree.in_folders f m i x)
    ];
    there = λ f m i a. elim (cases_made f m i a) [
      | inl x ↦ let e = x.2 in omega (arith, e, length-append s.nodes (made ∷ []))
      | inr x ↦ let t = tree.there f m i x in omega (arith, t, length-append s.nodes (made ∷ []))
    ];
    root = folder_stays 0 tree.root;
    mounts = λ i h. folder_stays i (tree.mounts i h);
    mounted = tree.mounted;
  }

-- A thing that is moved, and neither at its old name nor at its new one, is lost. A crash never leaves that: the
-- moving is one change.
record IsSomewhere (f : ℕ) (old : List ℕ) (g : ℕ) (new : List ℕ) (i : ℕ) (s : FileSystem) : Type 0 where
  here : (lookup s.names f old ≡ Some i) ⊎ (lookup s.names g new ≡ Some i)

pub moved_whole : (f : ℕ) (old : List ℕ) (g : ℕ) (new : List ℕ) (i : ℕ) (s image : FileSystem) → lookup s.names f old ≡ Some i
    → MayLeave s (Moves f old g new i None ∷ Syncs g ∷ Syncs f ∷ []) image → (lookup image.names f old ≡ Some i) ⊎ (lookup image.names g new ≡ Some i)
moved_whole f old g new i s image at (inl (inl (inl left))) = inr (ap (λ (x : FileSystem). lookup x.names g new) left ∙ cond-true _ _ _ (same_name-self g new))
moved_whole f old g new i s image at (inr (p, (mid, same, inl (inl left)))) = inl (ap (λ (x : FileSystem). lookup x.names f old) (left ∙ same) ∙ at)
moved_whole f old g new i s image at (inl (inl (inr lost))) = absurd (false≢true lost.0)
moved_whole f old g new i s image at (inl (inr lost)) = absurd (false≢true lost.0)
moved_whole f old g new i s image at (inr (p, (mid, same, inl (inr lost)))) = absurd (false≢true lost.0)
moved_whole f old g new i s image at (inr (p, (mid, same, inr lost))) = absurd (false≢true lost.0)

module _ (s : FileSystem) (f : ℕ) (old : List ℕ) (g : ℕ) (new : List ℕ) (i : ℕ) (replaced : Option ℕ) (tree : IsTree s) (at : lookup s.names f old ≡ Some i) (folder : is_folder (node s g) ≡ true) where
  not_old : (h : ℕ) (m : List ℕ) (j : ℕ) (b : Bool) → same_name f old h m ≡ b → cond b None (lookup s.names h m) ≡ Some j → (lookup s.names h m ≡ Some j) × ((h ≡ f) × (m ≡ old) → ⊥)
  not_old h m j true is x = absurd (none_some j x)
  not_old h m j false is x = (x, λ p. false≢true (sym is ∙ subst (λ k. same_name f old k m ≡ true) (sym p.0) (subst (λ n. same_name f old f n ≡ true) (sym p.1) (same_name-self f old))))

  -- after a move a name leads to what was moved, or where it led, and then it isn't the old one
  cases_moved : (h : ℕ) (m : List ℕ) (j : ℕ) → lookup (after_change s (Moves f old g new i replaced)).names h m ≡ Some j
      → ((h ≡ g) × (m ≡ new) × (j ≡ i)) ⊎ ((lookup s.names h m ≡ Some j) × ((h ≡ f) × (m ≡ old) → ⊥))
  cases_moved h m j q =
      elim (edited (same_name g new h m) (Some i) (cond (same_name f old h m) None (lookup s.names h m)) j q) [
        | inl x ↦ let same = same_name-true g h new m x.0 in inl (sym same.0, sym same.1, (let e = x.1 in cc))
        | inr y ↦ inr (not_old h m j (same_name f old h m) refl y.1)
      ]

  moved_once : (h : ℕ) (m : List ℕ) (j : ℕ) → lookup s.names h m ≡ Some j → ((h ≡ f) × (m ≡ old) → ⊥) → j ≡ i → ⊥
  moved_once h m j a other e = other (tree.one_name h f m old i (a ∙ ap (λ k. Some k) e) at)

  pub tree_moved : IsTree (after_change s (Moves f old g new i replaced))
  tree_moved = record {
    one_name = λ h k m n j a b.
        elim (cases_moved h m j a) [
          | inl x ↦ elim (cases_moved k n j b) [ inl y ↦ (x.0 ∙ sym y.0, x.1 ∙ sym y.1) | inr y ↦ absurd (moved_once k n j y.0 y.1 x.2) ]
          | inr x ↦ elim (cases_moved k n j b) [ inl y ↦ absurd (moved_once h m j x.0 x.1 y.2) | inr y ↦ tree.one_name h k m n j x.0 y.0 ]
        ];
    no_name = λ h m a. elim (cases_moved h m 0 a) [
      | inl x ↦ tree.no_name f old (at ∙ ap (λ k. Some k) (sym x.2))
      | inr x ↦ tree.no_name h m x.0
    ];
    in_folders = λ h m j a. elim (cases_moved h m j a) [
      | inl x ↦ subst (λ k. is_folder (node s k) ≡ true) (sym x.0) folder
      | inr x ↦ tree.in_folders h m j x.0
    ];
    there = λ h m j a. elim (cases_moved h m j a) [
      | inl x ↦ subst (λ k. k < length s.nodes) (sym x.2) (tree.there f old i at)
      | inr x ↦ tree.there h m j x.0
    ];
    root = tree.root;
    mounts = tree.mounts;
    mounted = tree.mounted;
  }

-- a node that keeps its kind among nodes that keep theirs
pub kind_set : (xs : List Node) (j i : ℕ) (n : Node) → n.kind ≡ (unwrap_or (slice_get xs j) no_node).kind
    → (unwrap_or (slice_get (slice_set xs j n) i) no_node).kind ≡ (unwrap_or (slice_get xs i) no_node).kind
kind_set [] j i n h = refl
kind_set (x ∷ xs) zero zero n h = h
kind_set (x ∷ xs) zero (suc i) n h = refl
kind_set (x ∷ xs) (suc j) zero n h = refl
kind_set (x ∷ xs) (suc j) (suc i) n h = kind_set xs j i n h

pub tree_set : (s : FileSystem) (j : ℕ) (n : Node) → IsTree s → n.kind ≡ (node s j).kind → IsTree (record s { nodes = slice_set s.nodes j n })
tree_set s j n tree kind =
    let same : (i : ℕ) → is_folder (unwrap_or (slice_get (slice_set s.nodes j n) i) no_node) ≡ is_folder (node s i) = λ i. ap folder_kind (kind_set s.nodes j i n kind) in
    record {
      one_name = tree.one_name;
      no_name = tree.no_name;
      in_folders = λ f m i a. same f ∙ tree.in_folders f m i a;
      there = λ f m i a. subst (λ k. i < k) (sym (length-set s.nodes j n)) (tree.there f m i a);
      root = same 0 ∙ tree.root;
      mounts = λ i h. same i ∙ tree.mounts i h;
      mounted = tree.mounted;
    }
