-- The names that lead to a node lead where all names lead; each is there once.
use Rattle.std.proofs.Common.{◌≡◌, ℕ, zero, suc, Bool, true, false, ◌&&◌, ◌||◌, List, [], ◌∷◌, length, take, drop, ◌≤◌, ◌-◌, arith, refl, sym, ◌∙◌, ap, subst, Option, Some, None, cond}
use Rattle.std.specs.Bool.{⊤}
use Rattle.std.specs.Prelude.{◌==◌, is_some, slice_get, remove, slice_index_or}
use Rattle.std.specs.List.{list_any}
use Rattle.std.specs.Str.{bytes_eq}
use Rattle.std.proofs.lemmas.List.{take_all}
use Rattle.std.proofs.lemmas.Bool.{and_parts, and_from, false≢true, true≢false, eqb-true, eq-eqb}
use Rattle.std.proofs.lemmas.Slice.Eq.{bytes_eq-Decides}
use Rattle.tree_trait.specs.declared.file_system.NameEdit.{NameEdit}
use Rattle.tree_trait.specs.declared.file_system.FileSystem.{FileSystem}
use Rattle.tree_trait.specs.FileSystem.{lookup, is_of}
use Rattle.mem_tree.specs.Live.{without_name, if_leading, leading, IsOnce}

-- an edit of this name
pub same_key : (f : ℕ) (n : List ℕ) (e : NameEdit) → is_of f n e ≡ true → (e.folder ≡ f) × (e.name ≡ n)
same_key f n e h = let p = and_parts (e.folder == f) (bytes_eq e.name n) h in (eqb-true e.folder f p.0, (bytes_eq-Decides e.name n).0 p.1)

pub own_key : (e : NameEdit) → is_of e.folder e.name e ≡ true
own_key e = and_from (e.folder == e.folder) (bytes_eq e.name e.name) (eq-eqb e.folder e.folder refl) ((bytes_eq-Decides e.name e.name).1 refl)

module _ (f : ℕ) (n : List ℕ) where
  pub none_left : (es : List NameEdit) → list_any (is_of f n) (without_name f n es) ≡ false
  none_left [] = refl
  none_left (e ∷ es) = go (is_of f n e) refl (none_left es)
    where
      go : (b : Bool) → is_of f n e ≡ b → list_any (is_of f n) (without_name f n es) ≡ false → list_any (is_of f n) (cond b (without_name f n es) (e ∷ without_name f n es)) ≡ false
      go true is ih = ih
      go false is ih = rw is ih

  pub nothing_out : (es : List NameEdit) → list_any (is_of f n) es ≡ false → without_name f n es ≡ es
  nothing_out [] h = refl
  nothing_out (e ∷ es) h = go (is_of f n e) h (nothing_out es)
    where
      go : (b : Bool) → (b || list_any (is_of f n) es) ≡ false → (list_any (is_of f n) es ≡ false → without_name f n es ≡ es) → cond b (without_name f n es) (e ∷ without_name f n es) ≡ e ∷ es
      go true h ih = absurd (true≢false h)
      go false h ih = ap (λ xs. e ∷ xs) (ih h)

  pub none_more : (g : ℕ) (m : List ℕ) (es : List NameEdit) → list_any (is_of g m) es ≡ false → list_any (is_of g m) (without_name f n es) ≡ false
  none_more g m [] h = refl
  none_more g m (e ∷ es) h = go (is_of f n e) (is_of g m e) refl h (none_more g m es)
    where
      go : (b d : Bool) → is_of g m e ≡ d → (d || list_any (is_of g m) es) ≡ false → (list_any (is_of g m) es ≡ false → list_any (is_of g m) (without_name f n es) ≡ false) → list_any (is_of g m) (cond b (without_name f n es) (e ∷ without_name f n es)) ≡ false
      go b true is h ih = absurd (true≢false h)
      go true false is h ih = ih h
      go false false is h ih = rw is (ih h)

  pub once_without : (es : List NameEdit) → IsOnce es → IsOnce (without_name f n es)
  once_without [] h = tt
  once_without (e ∷ es) h = go (is_of f n e) (once_without es h.1)
    where
      go : (b : Bool) → IsOnce (without_name f n es) → IsOnce (cond b (without_name f n es) (e ∷ without_name f n es))
      go true ih = ih
      go false ih = (none_more e.folder e.name es h.0, ih)

  pub lookup_out : (es : List NameEdit) → lookup (without_name f n es) f n ≡ None
  lookup_out [] = refl
  lookup_out (e ∷ es) = go (is_of f n e) refl (lookup_out es)
    where
      go : (b : Bool) → is_of f n e ≡ b → lookup (without_name f n es) f n ≡ None → lookup (cond b (without_name f n es) (e ∷ without_name f n es)) f n ≡ None
      go true is ih = ih
      go false is ih = rw is ih

  -- two different names
  apart : (e : NameEdit) (g : ℕ) (m : List ℕ) → is_of f n e ≡ true → ((f ≡ g) × (n ≡ m) → ⊥) → is_of g m e ≡ false
  apart e g m is ne = go (is_of g m e) refl
    where
      go : (b : Bool) → is_of g m e ≡ b → b ≡ false
      go true h = absurd (ne (sym (same_key f n e is).0 ∙ (same_key g m e h).0, sym (same_key f n e is).1 ∙ (same_key g m e h).1))
      go false h = refl

  pub lookup_other : (g : ℕ) (m : List ℕ) (es : List NameEdit) → ((f ≡ g) × (n ≡ m) → ⊥) → lookup (without_name f n es) g m ≡ lookup es g m
  lookup_other g m [] ne = refl
  lookup_other g m (e ∷ es) ne = go (is_of f n e) refl (lookup_other g m es ne)
    where
      go : (b : Bool) → is_of f n e ≡ b → lookup (without_name f n es) g m ≡ lookup es g m → lookup (cond b (without_name f n es) (e ∷ without_name f n es)) g m ≡ cond (is_of g m e) e.to (lookup es g m)
      go true is ih = rw (apart e g m is ne) ih
      go false is ih = ap (λ o. cond (is_of g m e) e.to o) ih

  -- what stands at a place is there
  pub any_at : (es : List NameEdit) (k : ℕ) (e : NameEdit) → slice_get es k ≡ Some e → is_of f n e ≡ true → list_any (is_of f n) es ≡ true
  any_at [] k e at is = cc
  any_at (x ∷ es) zero e at is = rw (subst (λ (y : NameEdit). is_of f n y ≡ true) (some_same e x (sym at)) is) refl
    where
      some_same : (a b : NameEdit) → Some a ≡ Some b → a ≡ b
      some_same a b h = cc
  any_at (x ∷ es) (suc k) e at is = go (is_of f n x) (any_at es k e at is)
    where
      go : (b : Bool) → list_any (is_of f n) es ≡ true → (b || list_any (is_of f n) es) ≡ true
      go true h = refl
      go false h = h

  -- to take the place of a name out takes the name out
  pub remove_out : (es : List NameEdit) (k : ℕ) (e : NameEdit) → IsOnce es → slice_get es k ≡ Some e → is_of f n e ≡ true → remove es k ≡ without_name f n es
  remove_out [] k e once at is = cc
  remove_out (x ∷ es) zero e once at is =
      let same : x ≡ e = cc in
      let here : is_of f n x ≡ true = subst (λ (y : NameEdit). is_of f n y ≡ true) (sym same) is in
      let key = same_key f n x here in
      let none : list_any (is_of f n) es ≡ false = subst (λ g. list_any (is_of g n) es ≡ false) key.0 (subst (λ m. list_any (is_of x.folder m) es ≡ false) key.1 once.0) in
      rw (here, nothing_out es none) refl
  remove_out (x ∷ es) (suc k) e once at is = go (is_of f n x) refl (remove_out es k e once.1 at is)
    where
      go : (b : Bool) → is_of f n x ≡ b → remove es k ≡ without_name f n es → x ∷ remove es k ≡ cond b (without_name f n es) (x ∷ without_name f n es)
      go true here ih =
          let key = same_key f n x here in
          let none : list_any (is_of f n) es ≡ false = subst (λ g. list_any (is_of g n) es ≡ false) key.0 (subst (λ m. list_any (is_of x.folder m) es ≡ false) key.1 once.0) in
          absurd (true≢false (sym (any_at es k e at is) ∙ none))
      go false here ih = ap (λ xs. x ∷ xs) ih

pub once_leading : (es : List NameEdit) → IsOnce (leading es)
once_leading [] = tt
once_leading (e ∷ es) = go (is_some e.to) (once_without e.folder e.name (leading es) (once_leading es))
  where
    go : (b : Bool) → IsOnce (without_name e.folder e.name (leading es)) → IsOnce (cond b (e ∷ without_name e.folder e.name (leading es)) (without_name e.folder e.name (leading es)))
    go true h = (none_left e.folder e.name (leading es), h)
    go false h = h

pub lookup_leading : (es : List NameEdit) (f : ℕ) (n : List ℕ) → lookup (leading es) f n ≡ lookup es f n
lookup_leading [] f n = refl
lookup_leading (e ∷ es) f n = go (is_of f n e) refl e.to refl (lookup_leading es f n)
  where
    rest : List NameEdit
    rest = without_name e.folder e.name (leading es)

    go : (b : Bool) → is_of f n e ≡ b → (o : Option ℕ) → e.to ≡ o → lookup (leading es) f n ≡ lookup es f n → lookup (cond (is_some e.to) (e ∷ without_name e.folder e.name (leading es)) (without_name e.folder e.name (leading es))) f n ≡ cond b e.to (lookup es f n)
    go true is (Some i) to ih = rw to (rw is refl)
    go true is None to ih =
        let key = same_key f n e is in
        rw to (subst (λ g. lookup (without_name e.folder e.name (leading es)) g n ≡ None) key.0 (subst (λ m. lookup (without_name e.folder e.name (leading es)) e.folder m ≡ None) key.1 (lookup_out e.folder e.name (leading es))))
    go false is (Some i) to ih = rw to (rw is (lookup_other e.folder e.name f n (leading es) (not_key is) ∙ ih))
      where
        not_key : is_of f n e ≡ false → (e.folder ≡ f) × (e.name ≡ n) → ⊥
        not_key h p = false≢true (sym h ∙ subst (λ g. is_of g n e ≡ true) p.0 (subst (λ m. is_of e.folder m e ≡ true) p.1 (own_key e)))
    go false is None to ih = rw to (lookup_other e.folder e.name f n (leading es) (not_key is) ∙ ih)
      where
        not_key : is_of f n e ≡ false → (e.folder ≡ f) × (e.name ≡ n) → ⊥
        not_key h p = false≢true (sym h ∙ subst (λ g. is_of g n e ≡ true) p.0 (subst (λ m. is_of e.folder m e ≡ true) p.1 (own_key e)))

-- each of these leads to a node
abbrev pub AllLead : List NameEdit → Type 0
AllLead [] = ⊤
AllLead (e ∷ es) = (is_some e.to ≡ true) × AllLead es

all_without : (f : ℕ) (n : List ℕ) (es : List NameEdit) → AllLead es → AllLead (without_name f n es)
all_without f n [] h = tt
all_without f n (e ∷ es) h = go (is_of f n e) (all_without f n es h.1)
  where
    go : (b : Bool) → AllLead (without_name f n es) → AllLead (cond b (without_name f n es) (e ∷ without_name f n es))
    go true ih = ih
    go false ih = (h.0, ih)

pub all_lead : (es : List NameEdit) → AllLead (leading es)
all_lead [] = tt
all_lead (e ∷ es) = go (is_some e.to) refl (all_without e.folder e.name (leading es) (all_lead es))
  where
    go : (b : Bool) → is_some e.to ≡ b → AllLead (without_name e.folder e.name (leading es)) → AllLead (cond b (e ∷ without_name e.folder e.name (leading es)) (without_name e.folder e.name (leading es)))
    go true is h = (is, h)
    go false is h = h

absent_among : (f : ℕ) (n : List ℕ) (es : List NameEdit) → AllLead es → lookup es f n ≡ None → list_any (is_of f n) es ≡ false
absent_among f n [] all h = refl
absent_among f n (e ∷ es) all h = go (is_of f n e) h (absent_among f n es all.1)
  where
    go : (b : Bool) → cond b e.to (lookup es f n) ≡ None → (lookup es f n ≡ None → list_any (is_of f n) es ≡ false) → (b || list_any (is_of f n) es) ≡ false
    go true h ih = absurd (true≢false (sym all.0 ∙ ap is_some h))
    go false h ih = ih h

-- a name that leads nowhere isn't among those that lead to a node
pub absent : (f : ℕ) (n : List ℕ) (es : List NameEdit) → lookup es f n ≡ None → without_name f n (leading es) ≡ leading es
absent f n es h = nothing_out f n (leading es) (absent_among f n (leading es) (all_lead es) (lookup_leading es f n ∙ h))

-- one edit more in front
pub step_leading : (es : List NameEdit) (e : NameEdit) (inner taken out : List NameEdit) → 1 ≤ length es → e ≡ slice_index_or es 0 e → inner ≡ leading (take (length es - 1) (drop 1 es))
    → (IsOnce inner → taken ≡ without_name e.folder e.name inner) → out ≡ if_leading e taken → out ≡ leading es
step_leading [] e inner taken out some first is took put = absurd (omega (arith, some))
step_leading (x ∷ es) e inner taken out some first is took put =
    let all : take (length (x ∷ es) - 1) es ≡ es = take_all (length (x ∷ es) - 1) es (omega arith) in
    let here : inner ≡ leading es = is ∙ ap (λ (ys : List NameEdit). leading ys) all in
    let there : taken ≡ without_name e.folder e.name (leading es) = took (rw here (once_leading es)) ∙ ap (without_name e.folder e.name) here in
    put ∙ (ap (if_leading e) there ∙ ap (λ (y : NameEdit). if_leading y (without_name y.folder y.name (leading es))) first)
