-- Where paths may lead after one call more.
use Rattle.std.proofs.Common.{◌≡◌, ℕ, Bool, true, false, not, ◌&&◌, List, [], ◌∷◌, ◌++◌, length, refl, sym, ◌∙◌, ap, subst, inl, inr, ◌⊎◌, Option, Some, None, cond}
use Rattle.std.specs.Prelude.{is_none, unwrap_or}
use Rattle.std.proofs.lemmas.Bool.{true≢false, and_parts, and_from}
use Rattle.tree_trait.specs.declared.file_system.FileSystem.{FileSystem}
use Rattle.tree_trait.specs.FileSystem.{lookup, find}
use Rattle.tree_trait.specs.Change.{Change, CallLog, after_change, after_changes, current, with_change}
use Rattle.tree_trait.specs.CrashImages.{is_unsynced, says, may_lead, Among, alters, is_clean}
use Rattle.tree_trait.proofs.Settled.{is_unsynced-more, after_changes-append}
use Rattle.tree_trait.proofs.Names.{names_law, lookup-after_change}
use Rattle.laws_crash.specs.Possible.{MayFind, FindLaw}

pub find_law : FindLaw
find_law log image [] left = refl
find_law log image (name ∷ folder) left = go (find image folder) refl (find_law log image folder left)
  where
    go : (o : Option ℕ) → find image folder ≡ o → MayFind log folder (find image folder) → MayFind log (name ∷ folder) (find image (name ∷ folder))
    go None is found = (None, subst (λ y. MayFind log folder y) is found, rw is refl)
    go (Some f) is found = (Some f, subst (λ y. MayFind log folder y) is found, subst (λ y. Among (may_lead f name [] log.opening log.changes) y) (sym (rw is refl)) (names_law log.opening image log.changes f name left))

-- all of the one list are of the other
abbrev pub Within : List (Option ℕ) → List (Option ℕ) → Type 0
Within xs ys = (x : Option ℕ) → Among xs x → Among ys x

one_more_had : (v : Option ℕ) (had had' : List (Option ℕ)) → Within had had' → Within (v ∷ had) (v ∷ had')
one_more_had v had had' within x (inl same) = inl same
one_more_had v had had' within x (inr more) = inr (within x more)

-- a change that comes earlier on the disk leaves less in doubt
had_less : (a b b' : Bool) (v : Option ℕ) (had had' : List (Option ℕ)) → (b' ≡ false → b ≡ false) → Within had had'
    → Within (cond a had (cond b (v ∷ had) [])) (cond a had' (cond b' (v ∷ had') []))
had_less true b b' v had had' f within x h = within x h
had_less false true true v had had' f within x h = one_more_had v had had' within x h
had_less false true false v had had' f within x h = absurd (true≢false (f refl))
had_less false false b' v had had' f within x h = absurd h

had_or_now : (a b : Bool) (v : Option ℕ) (had had' : List (Option ℕ)) → Within had had' → Within (cond a had (cond b (v ∷ had) [])) (v ∷ had')
had_or_now true b v had had' within x h = inr (within x h)
had_or_now false true v had had' within x h = one_more_had v had had' within x h
had_or_now false false v had had' within x h = absurd h

-- after one change more a name may lead where it leads then, or where it might before
pub lead_more : (g : ℕ) (m : List ℕ) (had had' : List (Option ℕ)) (s : FileSystem) (cs : List Change) (c : Change) (x : Option ℕ) → Within had had'
    → Among (may_lead g m had s (cs ++ c ∷ [])) x → (x ≡ lookup (after_change (after_changes s cs) c).names g m) ⊎ Among (may_lead g m had' s cs) x
lead_more g m had had' s [] c x within (inl same) = inl same
lead_more g m had had' s [] c x within (inr more) =
    inr (had_or_now (is_none (says c (length s.nodes) g m)) (is_unsynced c []) (lookup s.names g m) had had' within x more)
lead_more g m had had' s (d ∷ cs) c x within among =
    lead_more g m
    (cond (is_none (says d (length s.nodes) g m)) had (cond (is_unsynced d (cs ++ c ∷ [])) (lookup s.names g m ∷ had) []))
    (cond (is_none (says d (length s.nodes) g m)) had' (cond (is_unsynced d cs) (lookup s.names g m ∷ had') []))
    (after_change s d) cs c x
    (had_less (is_none (says d (length s.nodes) g m)) (is_unsynced d (cs ++ c ∷ [])) (is_unsynced d cs) (lookup s.names g m) had had' (is_unsynced-more d cs (c ∷ [])) within)
    among

-- a name may lead where it leads
pub leads_now : (g : ℕ) (m : List ℕ) (had : List (Option ℕ)) (s : FileSystem) (cs : List Change) → Among (may_lead g m had s cs) (lookup (after_changes s cs).names g m)
leads_now g m had s [] = inl refl
leads_now g m had s (d ∷ cs) = leads_now g m (cond (is_none (says d (length s.nodes) g m)) had (cond (is_unsynced d cs) (lookup s.names g m ∷ had) [])) (after_change s d) cs

pub current_more : (log : CallLog) (c : Change) → current (with_change log c) ≡ after_change (current log) c
current_more log c = after_changes-append log.opening log.changes (c ∷ [])

-- to what a name leads after one change more
pub lookup_more : (log : CallLog) (c : Change) (g : ℕ) (m : List ℕ)
    → lookup (current (with_change log c)).names g m ≡ unwrap_or (says c (length (current log).nodes) g m) (lookup (current log).names g m)
lookup_more log c g m = ap (λ (s : FileSystem). lookup s.names g m) (current_more log c) ∙ lookup-after_change (current log) c g m

-- where a name may lead after one change more
pub leads_more : (log : CallLog) (c : Change) (g : ℕ) (m : List ℕ) (x : Option ℕ) → Among (may_lead g m [] log.opening (with_change log c).changes) x
    → (x ≡ lookup (current (with_change log c)).names g m) ⊎ Among (may_lead g m [] log.opening log.changes) x
leads_more log c g m x among =
    elim (lead_more g m [] [] log.opening log.changes c x (λ y h. h) among) [
      | inl now ↦ inl (now ∙ ap (λ (s : FileSystem). lookup s.names g m) (sym (current_more log c)))
      | inr old ↦ inr old
    ]

still_not : (a b b' : Bool) → (b' ≡ false → b ≡ false) → not (a && b') ≡ true → not (a && b) ≡ true
still_not true true true f h = h
still_not true true false f h = absurd (true≢false (f refl))
still_not true false b' f h = refl
still_not false b b' f h = refl

-- a node that the change doesn't alter stays clean
pub clean_more : (i : ℕ) (cs : List Change) (c : Change) → alters i c ≡ false → is_clean i cs ≡ true → is_clean i (cs ++ c ∷ []) ≡ true
clean_more i [] c calm h = and_from _ _ (ap (λ b. not (b && is_unsynced c [])) calm) refl
clean_more i (d ∷ cs) c calm h =
    and_from _ _ (still_not (alters i d) (is_unsynced d (cs ++ c ∷ [])) (is_unsynced d cs) (is_unsynced-more d cs (c ∷ [])) (and_parts _ _ h).0) (clean_more i cs c calm (and_parts _ _ h).1)
