-- What no pending change touches is in each image as it is now.
use Rattle.std.proofs.Common.{◌≡◌, ℕ, zero, suc, Bool, true, false, not, ◌&&◌, List, [], ◌∷◌, ◌++◌, length, refl, sym, ◌∙◌, ap, subst, inl, inr, Option, Some, None, arith}
use Rattle.std.specs.Prelude.{unwrap_or, slice_get, slice_set, ◌==◌}
use Rattle.std.specs.Option.{option_map}
use Rattle.std.proofs.lemmas.Bool.{and_parts, both_ways, false≢true, eq-eqb}
use Rattle.tree_trait.specs.declared.file_system.Node.{Node}
use Rattle.tree_trait.specs.declared.file_system.FileSystem.{FileSystem}
use Rattle.mc_text.specs.Routes.{Route}
use Rattle.tree_trait.specs.FileSystem.{lookup, find, node, no_node, value}
use Rattle.tree_trait.specs.Change.{Change, Nothing, Makes, Moves, Removes, Sets, Writes, Syncs, after_change, after_changes}
use Rattle.tree_trait.specs.CrashImages.{is_unsynced, Lost, MayLeave, may_lead, Among, alters, is_clean, Steady, SteadyLaw}
use Rattle.tree_trait.proofs.Names.{names_law, count_after, count-after_change, count-lost}

abbrev pub at : List Node → ℕ → Node
at xs i = unwrap_or (slice_get xs i) no_node

-- lists of one length that agree at i agree there after a like write
set_like : (xs ys : List Node) (i j : ℕ) (a b : Node) → length xs ≡ length ys → at xs i ≡ at ys i → (i ≡ j → a ≡ b) → at (slice_set xs j a) i ≡ at (slice_set ys j b) i
set_like [] [] i j a b l h e = h
set_like [] (y ∷ ys) i j a b l h e = absurd (omega (arith, l))
set_like (x ∷ xs) [] i j a b l h e = absurd (omega (arith, l))
set_like (x ∷ xs) (y ∷ ys) zero zero a b l h e = e refl
set_like (x ∷ xs) (y ∷ ys) zero (suc j) a b l h e = h
set_like (x ∷ xs) (y ∷ ys) (suc i) zero a b l h e = h
set_like (x ∷ xs) (y ∷ ys) (suc i) (suc j) a b l h e = set_like xs ys i j a b (omega (arith, l)) h (λ q. e (ap suc q))

pub set_other : (xs : List Node) (i j : ℕ) (a : Node) → (i ≡ j → ⊥) → at (slice_set xs j a) i ≡ at xs i
set_other [] i j a ne = refl
set_other (x ∷ xs) zero zero a ne = absurd (ne refl)
set_other (x ∷ xs) zero (suc j) a ne = refl
set_other (x ∷ xs) (suc i) zero a ne = refl
set_other (x ∷ xs) (suc i) (suc j) a ne = set_other xs i j a (λ q. ne (ap suc q))

more_like : (xs ys : List Node) (i : ℕ) (a : Node) → length xs ≡ length ys → at xs i ≡ at ys i → at (xs ++ a ∷ []) i ≡ at (ys ++ a ∷ []) i
more_like [] [] i a l h = refl
more_like [] (y ∷ ys) i a l h = absurd (omega (arith, l))
more_like (x ∷ xs) [] i a l h = absurd (omega (arith, l))
more_like (x ∷ xs) (y ∷ ys) zero a l h = h
more_like (x ∷ xs) (y ∷ ys) (suc i) a l h = more_like xs ys i a (omega (arith, l)) h

module _ (i : ℕ) where
  apply_like : (s mid : FileSystem) (c : Change) → length mid.nodes ≡ length s.nodes → node mid i ≡ node s i → node (after_change mid c) i ≡ node (after_change s c) i
  apply_like s mid Nothing l h = h
  apply_like s mid (Makes f name made) l h = more_like mid.nodes s.nodes i made l h
  apply_like s mid (Moves f old g new k r) l h = h
  apply_like s mid (Removes f name k) l h = h
  apply_like s mid (Sets k mode) l h =
      set_like mid.nodes s.nodes i k _ _ l h (λ e. ap (λ (n : Node). let m : Node = record n { mode = mode } in m) (subst (λ j. node mid j ≡ node s j) e h))
  apply_like s mid (Writes k bytes mtime) l h =
      set_like mid.nodes s.nodes i k _ _ l h (λ e. ap (λ (n : Node). let m : Node = record n { bytes = bytes; mtime = mtime } in m) (subst (λ j. node mid j ≡ node s j) e h))
  apply_like s mid (Syncs k) l h = h

  differs : (k : ℕ) → (k == i) ≡ false → i ≡ k → ⊥
  differs k apart e = both_ways (k == i) apart (eq-eqb k i (sym e))

  lost_like : (s mid next : FileSystem) (c : Change) → length mid.nodes ≡ length s.nodes → node mid i ≡ node s i → alters i c ≡ false → Lost mid c next → node next i ≡ node (after_change s c) i
  lost_like s mid next Nothing l h apart lost = ap (λ (x : FileSystem). node x i) lost ∙ h
  lost_like s mid next (Makes f name made) l h apart lost = ap (λ (x : FileSystem). node x i) lost ∙ more_like mid.nodes s.nodes i made l h
  lost_like s mid next (Moves f old g new k r) l h apart lost = ap (λ (x : FileSystem). node x i) lost ∙ h
  lost_like s mid next (Removes f name k) l h apart lost = ap (λ (x : FileSystem). node x i) lost ∙ h
  lost_like s mid next (Sets k mode) l h apart lost = ap (λ (x : FileSystem). node x i) lost ∙ (h ∙ sym (set_other s.nodes i k _ (differs k apart)))
  lost_like s mid next (Writes k bytes mtime) l h apart lost =
      ap (λ (x : FileSystem). node x i) lost.1 ∙ (set_other mid.nodes i k _ (differs k apart) ∙ (h ∙ sym (set_other s.nodes i k _ (differs k apart))))
  lost_like s mid next (Syncs k) l h apart lost = ap (λ (x : FileSystem). node x i) lost ∙ h

  not_altered : (a p : Bool) → not (a && p) ≡ true → p ≡ true → a ≡ false
  not_altered true true h e = absurd (false≢true h)
  not_altered true false h e = absurd (false≢true e)
  not_altered false p h e = refl

  pub node_law : (s mid image : FileSystem) (cs : List Change) → length mid.nodes ≡ length s.nodes → node mid i ≡ node s i → is_clean i cs ≡ true → MayLeave mid cs image
      → node image i ≡ node (after_changes s cs) i
  node_law s mid image [] l h clean left = ap (λ (x : FileSystem). node x i) left ∙ h
  node_law s mid image (c ∷ cs) l h clean (inl left) =
      node_law (after_change s c) (after_change mid c) image cs (count-after_change mid c ∙ (ap (count_after c) l ∙ sym (count-after_change s c))) (apply_like s mid c l h) (and_parts _ _ clean).1 left
  node_law s mid image (c ∷ cs) l h clean (inr lost) =
      node_law (after_change s c) lost.1.0 image cs (count-lost mid lost.1.0 c lost.1.1 ∙ (ap (count_after c) l ∙ sym (count-after_change s c)))
      (lost_like s mid lost.1.0 c l h (not_altered (alters i c) (is_unsynced c cs) (and_parts _ _ clean).0 lost.0) lost.1.1) (and_parts _ _ clean).1 lost.1.2

only_one : {A : Type 0} (xs : List A) (v x : A) → xs ≡ v ∷ [] → Among xs x → x ≡ v
only_one xs v x e h = elim (subst (λ ys. Among ys x) e h) [ inl same ↦ same | inr none ↦ absurd none ]

next_name : (s image : FileSystem) (cs : List Change) (name : List ℕ) (folder : Route) (o : Option ℕ) → MayLeave s cs image → find (after_changes s cs) folder ≡ o → find image folder ≡ o
    → ((f : ℕ) → find (after_changes s cs) folder ≡ Some f → may_lead f name [] s cs ≡ lookup (after_changes s cs).names f name ∷ [])
    → find image (name ∷ folder) ≡ find (after_changes s cs) (name ∷ folder)
next_name s image cs name folder None left was is steady = rw (is, was) refl
next_name s image cs name folder (Some f) left was is steady = rw (is, was) (only_one _ _ _ (steady f was) (names_law s image cs f name left))

pub find_law : (s image : FileSystem) (cs : List Change) (path : Route) → MayLeave s cs image → Steady s cs path → find image path ≡ find (after_changes s cs) path
find_law s image cs [] left steady = refl
find_law s image cs (name ∷ folder) left steady =
    next_name s image cs name folder (find (after_changes s cs) folder) left refl (find_law s image cs folder left steady.0) steady.1

shown : (s image : FileSystem) (cs : List Change) (o : Option ℕ) → MayLeave s cs image → ((i : ℕ) → o ≡ Some i → is_clean i cs ≡ true)
    → option_map (λ i. value (node image i)) o ≡ option_map (λ i. value (node (after_changes s cs) i)) o
shown s image cs None left clean = refl
shown s image cs (Some i) left clean = ap (λ n. Some (value n)) (node_law i s s image cs refl refl (clean i refl) left)

pub steady_law : SteadyLaw
steady_law s image cs path left steady clean =
    ap (option_map (λ i. value (node image i))) (find_law s image cs path left steady) ∙ shown s image cs (find (after_changes s cs) path) left clean
