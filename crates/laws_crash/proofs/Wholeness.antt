-- A thing that is moved is whole in each image.
use Rattle.std.proofs.Common.{◌≡◌, ℕ, Bool, true, false, List, [], ◌∷◌, length, refl, sym, ◌∙◌, ap, subst, inl, inr, ◌⊎◌, Option, Some, None, cond}
use Rattle.std.specs.Prelude.{is_some, unwrap_or}
use Rattle.std.proofs.lemmas.Bool.{false≢true}
use Rattle.mc_text.specs.Routes.{Route}
use Rattle.tree_trait.specs.declared.file_system.FileSystem.{FileSystem}
use Rattle.tree_trait.specs.FileSystem.{lookup, find}
use Rattle.tree_trait.specs.Change.{Change, Nothing, Makes, Moves, Removes, Sets, Writes, Syncs, CallLog, after_change, current, with_change}
use Rattle.tree_trait.specs.CrashImages.{Lost, same_name, says}
use Rattle.tree_trait.proofs.Finding.{same_name-self}
use Rattle.tree_trait.proofs.Names.{grows_law, lookup-after_change, lookup-lost}
use Rattle.laws_crash.specs.Possible.{MayFind, IsImage}
use Rattle.laws_crash.specs.Guarded.{Marks, IsGuarded, IsSettledAt, Touches, IsUnder, IsNaming}
use Rattle.laws_crash.specs.Whole.{WholeLaw}
use Rattle.laws_crash.proofs.Leading.{find_law}

-- whether a change touches a name doesn't hang on how many nodes there are
said_any : (b : Bool) (x y : Option ℕ) → (let o : Option (Option ℕ) = cond b (Some x) None in o) ≡ None → (let o : Option (Option ℕ) = cond b (Some y) None in o) ≡ None
said_any true x y h = cc
said_any false x y h = refl

pub unsaid_any : (c : Change) (n k g : ℕ) (m : List ℕ) → says c n g m ≡ None → says c k g m ≡ None
unsaid_any Nothing n k g m h = refl
unsaid_any (Makes f name made) n k g m h = said_any (same_name f name g m) (Some n) (Some k) h
unsaid_any (Moves f old h' new i r) n k g m h = h
unsaid_any (Removes f name i) n k g m h = h
unsaid_any (Sets i mode) n k g m h = refl
unsaid_any (Writes i bytes time) n k g m h = refl
unsaid_any (Syncs i) n k g m h = refl

-- an image after one change more, and the one that it comes of
pub record Grown (log : CallLog) (c : Change) (image : FileSystem) : Type 0 where
  pub mid : FileSystem
  pub left : IsImage log mid
  pub how : (image ≡ after_change mid c) ⊎ Lost mid c image

pub grown : (log : CallLog) (c : Change) (image : FileSystem) → IsImage (with_change log c) image → Grown log c image
grown log c image left =
    let r = grows_law log.opening image log.changes c left in
    record { mid = r.0; left = r.1; how = elim r.2 [ inl kept ↦ inl kept | inr lost ↦ inr lost.1 ] }

module _ (log : CallLog) (c : Change) (image : FileSystem) (g : Grown log c image) where
  -- a name that isn't changed
  pub name_same : (k : ℕ) (m : List ℕ) → says c (length (current log).nodes) k m ≡ None → lookup image.names k m ≡ lookup g.mid.names k m
  name_same k m none =
      elim g.how [
        | inl kept ↦
            ap (λ (s : FileSystem). lookup s.names k m) kept ∙ (lookup-after_change g.mid c k m ∙ ap (λ o. unwrap_or o (lookup g.mid.names k m)) (unsaid_any c (length (current log).nodes) (length g.mid.nodes) k m none))
        | inr lost ↦ lookup-lost g.mid image c k m lost
      ]

  quiet_same : ((k : ℕ) (m : List ℕ) → says c (length (current log).nodes) k m ≡ None) → (p : Route) → find image p ≡ find g.mid p
  quiet_same none [] = refl
  quiet_same none (name ∷ folder) = at (find g.mid folder) refl (quiet_same none folder)
    where
      at : (o : Option ℕ) → find g.mid folder ≡ o → find image folder ≡ find g.mid folder → find image (name ∷ folder) ≡ find g.mid (name ∷ folder)
      at None was is = rw (is, was) refl
      at (Some k) was is = rw (is, was) (name_same k name (none k name))

module _ (marks : Marks) (log : CallLog) (c : Change) (image : FileSystem) (guarded : IsGuarded marks log) (naming : IsNaming marks log c) (g : Grown log c image) where
  -- a name on the way, in the folder that it is found in: it is changed only where the path goes through it
  not_said : (name : List ℕ) (folder : Route) (k : ℕ) (b : Option (Option ℕ)) → says c (length (current log).nodes) k name ≡ b → find g.mid folder ≡ Some k → (IsUnder log c (name ∷ folder) → ⊥)
      → says c (length (current log).nodes) k name ≡ None
  not_said name folder k None is at apart = is
  not_said name folder k (Some to) is at apart =
      let here = subst (λ x. MayFind log folder x) at (find_law log g.mid folder g.left) in
      let now : find (current log) folder ≡ Some k = (naming.anchored k name to folder is here).0 in
      absurd (apart (inr (subst (λ o. Touches log c o name) (sym now) (ap is_some is))))

  pub path_same : (p : Route) → (IsUnder log c p → ⊥) → find image p ≡ find g.mid p
  path_same [] apart = refl
  path_same (name ∷ folder) apart = at (find g.mid folder) refl (path_same folder (λ under. apart (inl under)))
    where
      at : (o : Option ℕ) → find g.mid folder ≡ o → find image folder ≡ find g.mid folder → find image (name ∷ folder) ≡ find g.mid (name ∷ folder)
      at None was is = rw (is, was) refl
      at (Some k) was is = rw (is, was) (name_same log c image g k name (not_said name folder k (says c (length (current log).nodes) k name) refl was apart))

settled_in : (log : CallLog) (image : FileSystem) (p : Route) (i : ℕ) → IsSettledAt log p → find (current log) p ≡ Some i → IsImage log image → find image p ≡ Some i
settled_in log image p i settled at left = settled (find image p) (find_law log image p left) ∙ at

either : (source target : Route) (i k : ℕ) (mid image : FileSystem) → find image source ≡ find mid source → find image target ≡ find mid target
    → (find mid source ≡ Some i) ⊎ (find mid target ≡ Some k) → (find image source ≡ Some i) ⊎ (find image target ≡ Some k)
either source target i k mid image s t (inl h) = inl (s ∙ h)
either source target i k mid image s t (inr h) = inr (t ∙ h)

pub whole_law : WholeLaw
whole_law = record {
  before = λ log source target i k settled at image left. inl (settled_in log image source i settled at left);
  after = λ log source target i k settled at image left. inr (settled_in log image target k settled at left);
  renamed = λ marks log f g i old new source folder replaced guarded naming settled at way leads apart image left.
      let c = Moves f old g new i replaced in
      let x = grown log c image left in
      renames marks log f g i old new source folder replaced image guarded naming settled at way leads apart x x.how;
  others = λ marks log c source target i k guarded naming one two whole image left.
      let x = grown log c image left in
      either source target i k x.mid image (path_same marks log c image guarded naming x source one) (path_same marks log c image guarded naming x target two) (whole x.mid x.left);
  quiet = λ marks log c source target i k quiet whole image left.
      let x = grown log c image left in
      either source target i k x.mid image (quiet_same log c image x quiet.names source) (quiet_same log c image x quiet.names target) (whole x.mid x.left);
}
  where
    renames : (marks : Marks) (log : CallLog) (f g i : ℕ) (old new : List ℕ) (source folder : Route) (replaced : Option ℕ) (image : FileSystem) → IsGuarded marks log
        → IsNaming marks log (Moves f old g new i replaced) → IsSettledAt log source → find (current log) source ≡ Some i
        → IsSettledAt log folder → find (current log) folder ≡ Some g → (IsUnder log (Moves f old g new i replaced) folder → ⊥)
        → (x : Grown log (Moves f old g new i replaced) image) → (image ≡ after_change x.mid (Moves f old g new i replaced)) ⊎ Lost x.mid (Moves f old g new i replaced) image
        → (find image source ≡ Some i) ⊎ (find image (new ∷ folder) ≡ Some i)
    renames marks log f g i old new source folder replaced image guarded naming settled at way leads apart x (inl kept) =
        let there : find image folder ≡ Some g = path_same marks log (Moves f old g new i replaced) image guarded naming x folder apart ∙ settled_in log x.mid folder g way leads x.left in
        let led : lookup image.names g new ≡ Some i = ap (λ (s : FileSystem). lookup s.names g new) kept ∙ moved_to (same_name g new g new) (same_name-self g new) (lookup (after_change x.mid (Removes f old i)).names g new) in
        inr (rw there led)
      where
        moved_to : (b : Bool) → b ≡ true → (o : Option ℕ) → cond b (Some i) o ≡ Some i
        moved_to true e o = refl
        moved_to false e o = absurd (false≢true e)
    renames marks log f g i old new source folder replaced image guarded naming settled at way leads apart x (inr lost) =
        inl (ap (λ (s : FileSystem). find s source) lost ∙ settled_in log x.mid source i settled at x.left)
