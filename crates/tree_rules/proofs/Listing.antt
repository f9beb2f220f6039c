-- The names that are gathered are the names that lead to a node, in order.
use Rattle.std.proofs.Common.{◌≡◌, ℕ, Bool, true, false, ◌&&◌, List, [], ◌∷◌, ◌<◌, refl, sym, ◌∙◌, ap, subst, inl, inr, ◌⊎◌, cond, is_some}
use Rattle.std.specs.Prelude.{◌==◌}
use Rattle.std.specs.Ordering.{nat_cmp, ordering_then, ordering_reverse, MatchOrdering}
use Rattle.std.specs.Cmp.Lexicographic.{slice_cmp, nat_list_cmp_total}
use Rattle.std.specs.declared.cmp.Ordering.{Ordering}
use Rattle.std.specs.declared.cmp.Ordering.TheVariants.{Less, Equal, Greater}
use Rattle.std.proofs.lemmas.Bool.{and_parts, and_from, false≢true}
use Rattle.std.proofs.lemmas.Cmp.{ranked}
use Rattle.std.proofs.lemmas.Slice.Eq.{bytes_eq-Decides}
use Rattle.tree_trait.specs.declared.file_system.NameEdit.{NameEdit}
use Rattle.tree_trait.specs.declared.file_system.FileSystem.{FileSystem}
use Rattle.tree_trait.specs.declared.calls.Children.{Children}
use Rattle.tree_trait.specs.FileSystem.{lookup, node, is_of}
use Rattle.tree_trait.specs.CrashImages.{Among}
use Rattle.tree_trait.specs.Answers.{name_cmp, AllAfter, IsAscending, IsListing}
use Rattle.tree_rules.specs.Listed.{with_name, gathered_names}

then_equal : (a b : Ordering) → ordering_then a b ≡ Equal → (a ≡ Equal) × (b ≡ Equal)
then_equal Less b h = cc
then_equal Equal b h = (refl, h)
then_equal Greater b h = cc

nat_equal : (x y : ℕ) → nat_cmp x y ≡ Equal → x ≡ y
nat_equal x y h = subst (λ o. MatchOrdering o (x < y) (x ≡ y) (y < x)) h (ranked x y (nat_cmp x y) refl)

cmp_equal : (xs ys : List ℕ) → slice_cmp nat_cmp xs ys ≡ Equal → xs ≡ ys
cmp_equal [] [] h = refl
cmp_equal [] (y ∷ ys) h = cc
cmp_equal (x ∷ xs) [] h = cc
cmp_equal (x ∷ xs) (y ∷ ys) h =
    let p = then_equal (nat_cmp x y) (slice_cmp nat_cmp xs ys) h in
    let first = nat_equal x y p.0 in
    let rest = cmp_equal xs ys p.1 in
    cc

turned : (xs ys : List ℕ) → name_cmp xs ys ≡ Greater → name_cmp ys xs ≡ Less
turned xs ys h = nat_list_cmp_total.antisymm ys xs ∙ ap ordering_reverse h

module _ (n : List ℕ) where
  -- by what the first comparison answers
  abbrev put : List ℕ → List (List ℕ) → Ordering → List (List ℕ)
  put first rest o = elim o [ Less ↦ n ∷ first ∷ rest | Equal ↦ first ∷ rest | Greater ↦ first ∷ with_name n rest ]

  pub with_in : (xs : List (List ℕ)) (m : List ℕ) → Among xs m → Among (with_name n xs) m
  with_in [] m h = absurd h
  with_in (first ∷ rest) m h = go (name_cmp n first) (with_in rest m)
    where
      go : (o : Ordering) → (Among rest m → Among (with_name n rest) m) → Among (put first rest o) m
      go Less ih = inr h
      go Equal ih = h
      go Greater ih = elim h [ inl here ↦ inl here | inr later ↦ inr (ih later) ]

  pub with_self : (xs : List (List ℕ)) → Among (with_name n xs) n
  with_self [] = inl refl
  with_self (first ∷ rest) = go (name_cmp n first) refl (with_self rest)
    where
      go : (o : Ordering) → name_cmp n first ≡ o → Among (with_name n rest) n → Among (put first rest o) n
      go Less is ih = inl refl
      go Equal is ih = inl (cmp_equal n first is)
      go Greater is ih = inr ih

  pub with_only : (xs : List (List ℕ)) (m : List ℕ) → Among (with_name n xs) m → (m ≡ n) ⊎ Among xs m
  with_only [] m (inl h) = inl h
  with_only [] m (inr h) = absurd h
  with_only (first ∷ rest) m h = go (name_cmp n first) (with_only rest m) h
    where
      go : (o : Ordering) → (Among (with_name n rest) m → (m ≡ n) ⊎ Among rest m) → Among (put first rest o) m → (m ≡ n) ⊎ Among (first ∷ rest) m
      go Less ih h = h
      go Equal ih h = inr h
      go Greater ih (inl here) = inr (inl here)
      go Greater ih (inr later) = elim (ih later) [ inl same ↦ inl same | inr other ↦ inr (inr other) ]

  after_with : (first : List ℕ) (xs : List (List ℕ)) → name_cmp first n ≡ Less → AllAfter first xs → AllAfter first (with_name n xs)
  after_with first [] less h = (less, tt)
  after_with first (x ∷ xs) less h = go (name_cmp n x) (after_with first xs less h.1)
    where
      go : (o : Ordering) → AllAfter first (with_name n xs) → AllAfter first (put x xs o)
      go Less ih = (less, h)
      go Equal ih = h
      go Greater ih = (h.0, ih)

  all_after : (x : List ℕ) (xs : List (List ℕ)) → name_cmp n x ≡ Less → AllAfter x xs → AllAfter n xs
  all_after x [] less h = tt
  all_after x (y ∷ ys) less h = (nat_list_cmp_total.trans n x y less h.0, all_after x ys less h.1)

  pub with_ascends : (xs : List (List ℕ)) → IsAscending xs → IsAscending (with_name n xs)
  with_ascends [] h = (tt, tt)
  with_ascends (x ∷ xs) h = go (name_cmp n x) refl (with_ascends xs h.1)
    where
      go : (o : Ordering) → name_cmp n x ≡ o → IsAscending (with_name n xs) → IsAscending (put x xs o)
      go Less is ih = ((is, all_after x xs is h.0), h)
      go Equal is ih = h
      go Greater is ih = (after_with x xs (turned n x is) h.0, ih)

module _ (s : FileSystem) (f : ℕ) where
  pick : NameEdit → Bool
  pick e = (e.folder == f) && is_some (lookup s.names f e.name)

  pub gathered_ascends : (edits : List NameEdit) → IsAscending (gathered_names s f edits)
  gathered_ascends [] = tt
  gathered_ascends (e ∷ edits) = go ((e.folder == f) && is_some (lookup s.names f e.name)) (gathered_ascends edits)
    where
      go : (b : Bool) → IsAscending (gathered_names s f edits) → IsAscending (cond b (with_name e.name (gathered_names s f edits)) (gathered_names s f edits))
      go true ih = with_ascends e.name (gathered_names s f edits) ih
      go false ih = ih

  pub gathered_leads : (edits : List NameEdit) (m : List ℕ) → Among (gathered_names s f edits) m → is_some (lookup s.names f m) ≡ true
  gathered_leads [] m h = absurd h
  gathered_leads (e ∷ edits) m h = go ((e.folder == f) && is_some (lookup s.names f e.name)) refl (gathered_leads edits m) h
    where
      go : (b : Bool) → ((e.folder == f) && is_some (lookup s.names f e.name)) ≡ b → (Among (gathered_names s f edits) m → is_some (lookup s.names f m) ≡ true) → Among (cond b (with_name e.name (gathered_names s f edits)) (gathered_names s f edits)) m → is_some (lookup s.names f m) ≡ true
      go true is ih h = elim (with_only e.name (gathered_names s f edits) m h) [
        | inl same ↦ subst (λ n. is_some (lookup s.names f n) ≡ true) (sym same) (and_parts _ _ is).1
        | inr other ↦ ih other
      ]
      go false is ih h = ih h

  pub gathered_all : (edits : List NameEdit) (m : List ℕ) → is_some (lookup edits f m) ≡ true → is_some (lookup s.names f m) ≡ true → Among (gathered_names s f edits) m
  gathered_all [] m h leads = absurd (false≢true h)
  gathered_all (e ∷ edits) m h leads = go (is_of f m e) refl (λ rest. gathered_all edits m rest leads) h
    where
      keep : (b : Bool) → Among (gathered_names s f edits) m → Among (cond b (with_name e.name (gathered_names s f edits)) (gathered_names s f edits)) m
      keep true h = with_in e.name (gathered_names s f edits) m h
      keep false h = h

      take_it : (b : Bool) → b ≡ true → e.name ≡ m → Among (cond b (with_name e.name (gathered_names s f edits)) (gathered_names s f edits)) m
      take_it true is same = subst (λ n. Among (with_name e.name (gathered_names s f edits)) n) same (with_self e.name (gathered_names s f edits))
      take_it false is same = absurd (false≢true is)

      go : (b : Bool) → is_of f m e ≡ b → (is_some (lookup edits f m) ≡ true → Among (gathered_names s f edits) m) → is_some (cond b e.to (lookup edits f m)) ≡ true → Among (gathered_names s f (e ∷ edits)) m
      go true is ih h =
          let name : e.name ≡ m = (bytes_eq-Decides e.name m).0 (and_parts _ _ is).1 in
          take_it ((e.folder == f) && is_some (lookup s.names f e.name)) (and_from _ _ (and_parts _ _ is).0 (subst (λ n. is_some (lookup s.names f n) ≡ true) (sym name) leads)) name
      go false is ih h = keep ((e.folder == f) && is_some (lookup s.names f e.name)) (ih h)

pub listing : (s : FileSystem) (f : ℕ) (children : Children) → children.names ≡ gathered_names s f s.names → children.unnamed ≡ (node s f).unnamed → IsListing s f children
listing s f children names unnamed = record {
  names = λ m. (
    λ among. gathered_leads s f s.names m (subst (λ ns. Among ns m) names among),
    λ leads. subst (λ ns. Among ns m) (sym names) (gathered_all s f s.names m leads leads),
  );
  unnamed = unnamed;
}

pub listing_ascends : (s : FileSystem) (f : ℕ) (children : Children) → children.names ≡ gathered_names s f s.names → IsAscending children.names
listing_ascends s f children names = subst IsAscending (sym names) (gathered_ascends s f s.names)
