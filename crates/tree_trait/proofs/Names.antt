-- What a crash may leave of the names, and what one call more adds.
use Rattle.std.proofs.Common.{◌≡◌, ℕ, Bool, true, false, List, [], ◌∷◌, ◌++◌, length, refl, sym, ◌∙◌, ap, subst, inl, inr, Option, Some, None, cond, length-append, ◌+◌}
use Rattle.std.proofs.lemmas.List.{length-set}
use Rattle.std.specs.Prelude.{unwrap_or, is_none}
use Rattle.std.proofs.lemmas.Bool.{both_ways}
use Rattle.tree_trait.specs.declared.file_system.FileSystem.{FileSystem}
use Rattle.tree_trait.specs.FileSystem.{lookup}
use Rattle.tree_trait.specs.Change.{Change, Nothing, Makes, Moves, Removes, Sets, Writes, Syncs, after_change}
use Rattle.tree_trait.specs.CrashImages.{is_unsynced, Lost, MayLeave, same_name, says, may_lead, Among, NamesLaw, GrowsLaw}
use Rattle.tree_trait.proofs.Settled.{is_unsynced-more}

picked : (A : Type 0) (b : Bool) (x y : A) → cond b x y ≡ unwrap_or (cond b (Some x) None) y
picked A true x y = refl
picked A false x y = refl

picked_two : (A : Type 0) (a b : Bool) (x y z : A) → cond a x (cond b y z) ≡ unwrap_or (cond a (Some x) (cond b (Some y) None)) z
picked_two A true b x y z = refl
picked_two A false b x y z = picked A b y z

-- a name leads to what the change says of it, or else to what it led to
pub lookup-after_change : (s : FileSystem) (c : Change) (g : ℕ) (m : List ℕ) → lookup (after_change s c).names g m ≡ unwrap_or (says c (length s.nodes) g m) (lookup s.names g m)
lookup-after_change s Nothing g m = refl
lookup-after_change s (Makes f name made) g m = picked (Option ℕ) (same_name f name g m) (Some (length s.nodes)) (lookup s.names g m)
lookup-after_change s (Moves f old h new i r) g m = picked_two (Option ℕ) (same_name h new g m) (same_name f old g m) (Some i) None (lookup s.names g m)
lookup-after_change s (Removes f name i) g m = picked (Option ℕ) (same_name f name g m) None (lookup s.names g m)
lookup-after_change s (Sets i mode) g m = refl
lookup-after_change s (Writes i bytes mtime) g m = refl
lookup-after_change s (Syncs i) g m = refl

-- a change that is lost leaves the names
pub lookup-lost : (s mid : FileSystem) (c : Change) (g : ℕ) (m : List ℕ) → Lost s c mid → lookup mid.names g m ≡ lookup s.names g m
lookup-lost s mid Nothing g m lost = ap (λ (x : FileSystem). lookup x.names g m) lost
lookup-lost s mid (Makes f name made) g m lost = ap (λ (x : FileSystem). lookup x.names g m) lost
lookup-lost s mid (Moves f old h new i r) g m lost = ap (λ (x : FileSystem). lookup x.names g m) lost
lookup-lost s mid (Removes f name i) g m lost = ap (λ (x : FileSystem). lookup x.names g m) lost
lookup-lost s mid (Sets i mode) g m lost = ap (λ (x : FileSystem). lookup x.names g m) lost
lookup-lost s mid (Writes i bytes mtime) g m lost = ap (λ (x : FileSystem). lookup x.names g m) lost.1
lookup-lost s mid (Syncs i) g m lost = ap (λ (x : FileSystem). lookup x.names g m) lost

-- how many nodes there are after a change, whether it is lost or not
abbrev pub count_after : Change → ℕ → ℕ
count_after Nothing n = n
count_after (Makes f name made) n = n + 1
count_after (Moves f old h new i r) n = n
count_after (Removes f name i) n = n
count_after (Sets i mode) n = n
count_after (Writes i bytes mtime) n = n
count_after (Syncs i) n = n

pub count-after_change : (s : FileSystem) (c : Change) → length (after_change s c).nodes ≡ count_after c (length s.nodes)
count-after_change s Nothing = refl
count-after_change s (Makes f name made) = length-append s.nodes (made ∷ [])
count-after_change s (Moves f old h new i r) = refl
count-after_change s (Removes f name i) = refl
count-after_change s (Sets i mode) = length-set s.nodes i _
count-after_change s (Writes i bytes mtime) = length-set s.nodes i _
count-after_change s (Syncs i) = refl

pub count-lost : (s mid : FileSystem) (c : Change) → Lost s c mid → length mid.nodes ≡ count_after c (length s.nodes)
count-lost s mid Nothing lost = ap (λ (x : FileSystem). length x.nodes) lost
count-lost s mid (Makes f name made) lost = ap (λ (x : FileSystem). length x.nodes) lost ∙ length-append s.nodes (made ∷ [])
count-lost s mid (Moves f old h new i r) lost = ap (λ (x : FileSystem). length x.nodes) lost
count-lost s mid (Removes f name i) lost = ap (λ (x : FileSystem). length x.nodes) lost
count-lost s mid (Sets i mode) lost = ap (λ (x : FileSystem). length x.nodes) lost
count-lost s mid (Writes i bytes mtime) lost = ap (λ (x : FileSystem). length x.nodes) lost.1 ∙ length-set s.nodes i _
count-lost s mid (Syncs i) lost = ap (λ (x : FileSystem). length x.nodes) lost

module _ (g : ℕ) (m : List ℕ) where
  -- of a name that the change doesn't touch
  untouched : (s : FileSystem) (c : Change) → says c (length s.nodes) g m ≡ None → lookup (after_change s c).names g m ≡ lookup s.names g m
  untouched s c none = lookup-after_change s c g m ∙ ap (λ o. unwrap_or o (lookup s.names g m)) none

  touched : (s : FileSystem) (c : Change) (to : Option ℕ) → says c (length s.nodes) g m ≡ Some to → lookup (after_change s c).names g m ≡ to
  touched s c to some = lookup-after_change s c g m ∙ ap (λ o. unwrap_or o (lookup s.names g m)) some

  -- one change more, there or lost
  one : (had : List (Option ℕ)) (s mid image : FileSystem) (c : Change) (cs : List Change) (said : Option (Option ℕ)) (waits : Bool)
      → says c (length s.nodes) g m ≡ said → is_unsynced c cs ≡ waits → length mid.nodes ≡ length s.nodes
      → Among (lookup s.names g m ∷ had) (lookup mid.names g m) → MayLeave mid (c ∷ cs) image
      → (next : FileSystem) × (length next.nodes ≡ length (after_change s c).nodes)
      × Among (lookup (after_change s c).names g m ∷ cond (is_none said) had (cond waits (lookup s.names g m ∷ had) [])) (lookup next.names g m)
      × MayLeave next cs image
  one had s mid image c cs None waits said pending count among (inl left) = (
    after_change mid c,
    count-after_change mid c ∙ (ap (count_after c) count ∙ sym (count-after_change s c)),
    subst (λ o. Among (o ∷ had) (lookup (after_change mid c).names g m)) (sym (untouched s c said))
        (subst (λ o. Among (lookup s.names g m ∷ had) o) (sym (untouched mid c (ap (λ n. says c n g m) count ∙ said))) among),
    left,
  )
  one had s mid image c cs None waits said pending count among (inr lost) = (
    lost.1.0,
    count-lost mid lost.1.0 c lost.1.1 ∙ (ap (count_after c) count ∙ sym (count-after_change s c)),
    subst (λ o. Among (o ∷ had) (lookup lost.1.0.names g m)) (sym (untouched s c said))
        (subst (λ o. Among (lookup s.names g m ∷ had) o) (sym (lookup-lost mid lost.1.0 c g m lost.1.1)) among),
    lost.1.2,
  )
  one had s mid image c cs (Some to) waits said pending count among (inl left) = (
    after_change mid c,
    count-after_change mid c ∙ (ap (count_after c) count ∙ sym (count-after_change s c)),
    inl (touched mid c to (ap (λ n. says c n g m) count ∙ said) ∙ sym (touched s c to said)),
    left,
  )
  one had s mid image c cs (Some to) true said pending count among (inr lost) = (
    lost.1.0,
    count-lost mid lost.1.0 c lost.1.1 ∙ (ap (count_after c) count ∙ sym (count-after_change s c)),
    inr (subst (λ o. Among (lookup s.names g m ∷ had) o) (sym (lookup-lost mid lost.1.0 c g m lost.1.1)) among),
    lost.1.2,
  )
  one had s mid image c cs (Some to) false said pending count among (inr lost) = absurd (both_ways _ pending lost.0)

  -- image comes of mid, where s is the store that no crash met
  law : (had : List (Option ℕ)) (s mid image : FileSystem) (cs : List Change) → length mid.nodes ≡ length s.nodes
      → Among (lookup s.names g m ∷ had) (lookup mid.names g m) → MayLeave mid cs image → Among (may_lead g m had s cs) (lookup image.names g m)
  law had s mid image [] count among left = subst (λ (x : FileSystem). Among (lookup s.names g m ∷ had) (lookup x.names g m)) (sym left) among
  law had s mid image (c ∷ cs) count among left =
      let r = one had s mid image c cs (says c (length s.nodes) g m) (is_unsynced c cs) refl refl count among left in
      law (cond (is_none (says c (length s.nodes) g m)) had (cond (is_unsynced c cs) (lookup s.names g m ∷ had) [])) (after_change s c) r.0 image cs r.1 r.2 r.3

pub names_law : NamesLaw
names_law s image cs g m left = law g m [] s s image cs refl (inl refl) left

pub grows_law : GrowsLaw
grows_law s image [] c (inl left) = (s, refl, inl left)
grows_law s image [] c (inr lost) = (s, refl, inr (lost.0, subst (λ (x : FileSystem). Lost s c x) (sym lost.1.2) lost.1.1))
grows_law s image (x ∷ cs) c (inl left) =
    let r = grows_law (after_change s x) image cs c left in
    (r.0, inl r.1, r.2)
grows_law s image (x ∷ cs) c (inr lost) =
    let r = grows_law lost.1.0 image cs c lost.1.2 in
    (r.0, inr (still (is_unsynced x cs) (is_unsynced-more x cs (c ∷ [])) lost.0, (lost.1.0, lost.1.1, r.1)), r.2)
  where
    still : (b : Bool) → (b ≡ false → is_unsynced x (cs ++ c ∷ []) ≡ false) → is_unsynced x (cs ++ c ∷ []) ≡ true → b ≡ true
    still true f h = refl
    still false f h = absurd (both_ways _ (f refl) h)
