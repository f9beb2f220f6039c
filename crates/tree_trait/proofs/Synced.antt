-- What a sync of a folder makes of its names.
use Rattle.std.proofs.Common.{◌≡◌, ℕ, Bool, true, false, not, List, [], ◌∷◌, ◌++◌, length, refl, sym, ◌∙◌, ap, subst, Option, Some, None, cond}
use Rattle.std.specs.Prelude.{is_none}
use Rattle.std.proofs.lemmas.Bool.{or_right, or_left, eq-eqb, cond-false, false≢true}
use Rattle.tree_trait.specs.declared.file_system.FileSystem.{FileSystem}
use Rattle.tree_trait.specs.FileSystem.{lookup}
use Rattle.tree_trait.specs.Change.{Change, Nothing, Makes, Moves, Removes, Sets, Writes, Syncs, after_change, after_changes}
use Rattle.tree_trait.specs.CrashImages.{is_settled, same_name, may_lead, moves_none, SyncLaw}
use Rattle.tree_trait.proofs.Finding.{same_name-true}

pub is_settled-end : (f : ℕ) (later : List Change) → is_settled f (later ++ Syncs f ∷ []) ≡ true
is_settled-end f [] = or_left _ _ (eq-eqb f f refl)
is_settled-end f (Nothing ∷ later) = is_settled-end f later
is_settled-end f (Makes g name made ∷ later) = is_settled-end f later
is_settled-end f (Moves g old h new i None ∷ later) = is_settled-end f later
is_settled-end f (Moves g old h new i (Some j) ∷ later) = or_right _ _ (is_settled-end f later)
is_settled-end f (Removes g name i ∷ later) = or_right _ _ (is_settled-end f later)
is_settled-end f (Sets i mode ∷ later) = is_settled-end f later
is_settled-end f (Writes i bytes mtime ∷ later) = is_settled-end f later
is_settled-end f (Syncs i ∷ later) = or_right _ _ (is_settled-end f later)

none_had : (b : Bool) (x : List (Option ℕ)) (p : Bool) (to : Option ℕ) → (b ≡ true → p ≡ false)
    → cond (is_none (let o : Option (Option ℕ) = cond b (Some to) None in o)) [] (cond p x []) ≡ []
none_had true x p to f = cond-false p x [] (f refl)
none_had false x p to f = refl

module _ (f : ℕ) (m : List ℕ) where
  -- a change of a name of the folder waits for no other
  done : (g : ℕ) (name : List ℕ) (later : List Change) → same_name g name f m ≡ true → not (is_settled g (later ++ Syncs f ∷ [])) ≡ false
  done g name later h = subst (λ j. not (is_settled j (later ++ Syncs f ∷ [])) ≡ false) (sym (same_name-true g f name m h).0) (ap not (is_settled-end f later))

  pub steady_synced : (s : FileSystem) (cs : List Change) → moves_none cs ≡ true → may_lead f m [] s (cs ++ Syncs f ∷ []) ≡ lookup (after_changes s cs).names f m ∷ []
  steady_synced s [] h = refl
  steady_synced s (Nothing ∷ cs) h = steady_synced s cs h
  steady_synced s (Makes g name made ∷ cs) h =
      ap (λ had. may_lead f m had (after_change s (Makes g name made)) (cs ++ Syncs f ∷ []))
      (none_had (same_name g name f m) (lookup s.names f m ∷ []) (not (is_settled g (cs ++ Syncs f ∷ []))) (Some (length s.nodes)) (done g name cs))
      ∙ steady_synced (after_change s (Makes g name made)) cs h
  steady_synced s (Moves g old k new i r ∷ cs) h = absurd (false≢true h)
  steady_synced s (Removes g name i ∷ cs) h =
      ap (λ had. may_lead f m had (after_change s (Removes g name i)) (cs ++ Syncs f ∷ []))
      (none_had (same_name g name f m) (lookup s.names f m ∷ []) (not (is_settled g (cs ++ Syncs f ∷ []))) None (done g name cs))
      ∙ steady_synced (after_change s (Removes g name i)) cs h
  steady_synced s (Sets i mode ∷ cs) h = steady_synced (after_change s (Sets i mode)) cs h
  steady_synced s (Writes i bytes mtime ∷ cs) h = steady_synced (after_change s (Writes i bytes mtime)) cs h
  steady_synced s (Syncs i ∷ cs) h = steady_synced s cs h

pub sync_law : SyncLaw
sync_law s cs f m h = steady_synced f m s cs h
