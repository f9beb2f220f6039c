-- Syncs and writes.
use Rattle.mc_text.specs.Routes.{Route}
use Rattle.tree_trait.proofs.Steady.{set_other}
use Rattle.laws_crash.proofs.Tops.{find_below}
use Rattle.std.proofs.Common.{◌≡◌, ℕ, Bool, true, false, not, ◌&&◌, ◌||◌, List, [], ◌∷◌, ◌++◌, length, refl, sym, ◌∙◌, ap, subst, inl, inr, ◌⊎◌, Option, Some, None, cond}
use Rattle.std.specs.Prelude.{is_none, ◌==◌}
use Rattle.std.proofs.lemmas.List.{length-set}
use Rattle.std.proofs.lemmas.Bool.{false≢true, true≢false, and_parts, and_from, eqb-true, both_ways, eq-eqb}
use Rattle.tree_trait.specs.declared.file_system.FileSystem.{FileSystem}
use Rattle.tree_trait.specs.FileSystem.{lookup, node}
use Rattle.tree_trait.specs.Shape.{IsTree}
use Rattle.tree_trait.specs.Change.{Change, Nothing, Makes, Moves, Removes, Sets, Writes, Syncs, after_change, after_changes, current, with_change}
use Rattle.tree_trait.specs.CrashImages.{is_settled, is_unsynced, same_name, says, may_lead, Among, alters, is_clean}
use Rattle.tree_trait.proofs.Kept.{tree_set, at_more}
use Rattle.tree_trait.proofs.Settled.{is_settled-more}
use Rattle.tree_trait.proofs.Synced.{is_settled-end}
use Rattle.tree_trait.proofs.Finding.{same_name-true}
use Rattle.laws_crash.specs.Possible.{MayFind, Leads, MayFindFrom}
use Rattle.laws_crash.specs.NameKnowledge.{SyncedLaw, SyncLaw, WriteLaw, ModeLaw, FirmLaw, FrameLaw, is_near, BelowLaw, UnalteredLaw}
use Rattle.laws_crash.proofs.Leading.{current_more}
use Rattle.laws_crash.proofs.Guarding.{quiet_law, find_quiet, same_quiet, find_same, find_more, found_now}

pub sync_law : SyncLaw
sync_law marks log f guarded = quiet_law marks log (Syncs f) guarded (record {
  tree = subst IsTree (sym (current_more log (Syncs f))) guarded.tree;
  names = λ g m. refl;
  count = ap (λ (s : FileSystem). length s.nodes) (current_more log (Syncs f));
  others = λ i firm. refl;
})

other_node : (k i : ℕ) (loose : ℕ → Bool) → loose k ≡ true → loose i ≡ false → (b : Bool) → (k == i) ≡ b → b ≡ false
other_node k i loose is firm true same = absurd (true≢false (sym is ∙ (ap loose (eqb-true k i same) ∙ firm)))
other_node k i loose is firm false same = refl

pub write_law : WriteLaw
write_law marks log k bytes time loose guarded = quiet_law marks log (Writes k bytes time) guarded (record {
  tree = subst IsTree (sym (current_more log (Writes k bytes time))) (tree_set (current log) k _ guarded.tree refl);
  names = λ g m. refl;
  count = ap (λ (s : FileSystem). length s.nodes) (current_more log (Writes k bytes time)) ∙ length-set (current log).nodes k _;
  others = λ i firm. other_node k i marks.loose loose firm (k == i) refl;
})

pub mode_law : ModeLaw
mode_law marks log k mode loose guarded = quiet_law marks log (Sets k mode) guarded (record {
  tree = subst IsTree (sym (current_more log (Sets k mode))) (tree_set (current log) k _ guarded.tree refl);
  names = λ g m. refl;
  count = ap (λ (s : FileSystem). length s.nodes) (current_more log (Sets k mode)) ∙ length-set (current log).nodes k _;
  others = λ i firm. other_node k i marks.loose loose firm (k == i) refl;
})

pub calm : (a w : Bool) → (a ≡ true → w ≡ false) → not (a && w) ≡ true
calm true true h = absurd (true≢false (h refl))
calm true false h = refl
calm false w h = refl

-- a node's bytes and mode wait for nothing once it was synced
waits_not : (i : ℕ) (c : Change) (later : List Change) → alters i c ≡ true → is_settled i later ≡ true → is_unsynced c later ≡ false
waits_not i Nothing later a s = refl
waits_not i (Makes f name made) later a s = absurd (false≢true a)
waits_not i (Moves f old g new k r) later a s = absurd (false≢true a)
waits_not i (Removes f name k) later a s = absurd (false≢true a)
waits_not i (Sets k mode) later a s = ap not (subst (λ j. is_settled j later ≡ true) (sym (eqb-true k i a)) s)
waits_not i (Writes k bytes time) later a s = ap not (subst (λ j. is_settled j later ≡ true) (sym (eqb-true k i a)) s)
waits_not i (Syncs k) later a s = refl

clean_synced : (i : ℕ) (cs : List Change) → is_clean i (cs ++ Syncs i ∷ []) ≡ true
clean_synced i [] = refl
clean_synced i (c ∷ cs) = and_from _ _ (calm (alters i c) (is_unsynced c (cs ++ Syncs i ∷ [])) (λ a. waits_not i c (cs ++ Syncs i ∷ []) a (is_settled-end i cs))) (clean_synced i cs)

pub firm_law : FirmLaw
firm_law log i = clean_synced i log.changes

pub none_had : (n : Bool) (w : Bool) (x : List (Option ℕ)) → (n ≡ false → w ≡ false) → cond n [] (cond w x []) ≡ []
none_had true w x h = refl
none_had false true x h = absurd (true≢false (h refl))
none_had false false x h = refl

module _ (f : ℕ) (m : List ℕ) where
  one_said : (b : Bool) (to : Option ℕ) → is_none (let o : Option (Option ℕ) = cond b (Some to) None in o) ≡ false → b ≡ true
  one_said true to h = refl
  one_said false to h = absurd (true≢false h)

  two_said : (a b : Bool) (x y : Option ℕ) → is_none (let o : Option (Option ℕ) = cond a (Some x) (cond b (Some y) None) in o) ≡ false → (a ≡ true) ⊎ (b ≡ true)
  two_said true b x y h = inl refl
  two_said false b x y h = inr (one_said b y h)

  -- a change of a name of this folder alone
  in_folder : (g : ℕ) (name : List ℕ) (later : List Change) → same_name g name f m ≡ true → not (is_settled g (later ++ Syncs f ∷ [])) ≡ false
  in_folder g name later h = subst (λ j. not (is_settled j (later ++ Syncs f ∷ [])) ≡ false) (sym (same_name-true g f name m h).0) (ap not (is_settled-end f later))

  settled_or : (a : ℕ) (later : List Change) (b : Bool) → (a == f) ≡ b → (b || is_settled a later) ≡ true → is_settled a (later ++ Syncs f ∷ []) ≡ true
  settled_or a later true e h = subst (λ j. is_settled j (later ++ Syncs f ∷ []) ≡ true) (sym (eqb-true a f e)) (is_settled-end f later)
  settled_or a later false e h = is_settled-more a later (Syncs f ∷ []) h

  not_apart : (x y z : Bool) → ((not x && not y) || z) ≡ true → (y ≡ true) ⊎ (x ≡ true) → z ≡ true
  not_apart true y z h e = h
  not_apart false true z h e = h
  not_apart false false z h (inl e) = absurd (false≢true e)
  not_apart false false z h (inr e) = absurd (false≢true e)

  both : (a b : ℕ) (later : List Change) → (((a == f) || is_settled a later) && ((b == f) || is_settled b later)) ≡ true → not (is_settled a (later ++ Syncs f ∷ []) && is_settled b (later ++ Syncs f ∷ [])) ≡ false
  both a b later h = ap not (and_from _ _ (settled_or a later (a == f) refl (and_parts _ _ h).0) (settled_or b later (b == f) refl (and_parts _ _ h).1))

  pub steady_near : (s : FileSystem) (cs : List Change) → is_near f m cs ≡ true → may_lead f m [] s (cs ++ Syncs f ∷ []) ≡ lookup (after_changes s cs).names f m ∷ []
  steady_near s [] h = refl
  steady_near s (Nothing ∷ cs) h = steady_near s cs h
  steady_near s (Makes g name made ∷ cs) h =
      ap (λ had. may_lead f m had (after_change s (Makes g name made)) (cs ++ Syncs f ∷ []))
      (none_had (is_none (says (Makes g name made) (length s.nodes) f m)) (not (is_settled g (cs ++ Syncs f ∷ []))) (lookup s.names f m ∷ []) (λ e. in_folder g name cs (one_said (same_name g name f m) _ e)))
      ∙ steady_near (after_change s (Makes g name made)) cs h
  steady_near s (Moves a old b new i r ∷ cs) h =
      ap (λ had. may_lead f m had (after_change s (Moves a old b new i r)) (cs ++ Syncs f ∷ []))
      (none_had (is_none (says (Moves a old b new i r) (length s.nodes) f m)) (not (is_settled a (cs ++ Syncs f ∷ []) && is_settled b (cs ++ Syncs f ∷ []))) (lookup s.names f m ∷ [])
      (λ e. both a b cs (not_apart (same_name a old f m) (same_name b new f m) _ (and_parts _ _ h).0 (two_said (same_name b new f m) (same_name a old f m) _ _ e))))
      ∙ steady_near (after_change s (Moves a old b new i r)) cs (and_parts _ _ h).1
  steady_near s (Removes g name i ∷ cs) h =
      ap (λ had. may_lead f m had (after_change s (Removes g name i)) (cs ++ Syncs f ∷ []))
      (none_had (is_none (says (Removes g name i) (length s.nodes) f m)) (not (is_settled g (cs ++ Syncs f ∷ []))) (lookup s.names f m ∷ []) (λ e. in_folder g name cs (one_said (same_name g name f m) _ e)))
      ∙ steady_near (after_change s (Removes g name i)) cs h
  steady_near s (Sets i mode ∷ cs) h = steady_near (after_change s (Sets i mode)) cs h
  steady_near s (Writes i bytes time ∷ cs) h = steady_near (after_change s (Writes i bytes time)) cs h
  steady_near s (Syncs i ∷ cs) h = steady_near s cs h

pub only_one : {A : Type 0} (xs : List A) (v x : A) → xs ≡ v ∷ [] → Among xs x → x ≡ v
only_one xs v x e h = elim (subst (λ ys. Among ys x) e h) [ inl same ↦ same | inr none ↦ absurd none ]

pub synced_law : SyncedLaw
synced_law log up m f settled at near x (y, found, leads) =
    let is : y ≡ Some f = settled y (find_quiet log (Syncs f) (λ g n. refl) up y found) ∙ at in
    let leads_f = subst (λ o. Leads (with_change log (Syncs f)) o m x) is leads in
    only_one _ _ _ (steady_near f m log.opening log.changes near) leads_f ∙ sym (same_quiet log (Syncs f) (λ g n. refl) (m ∷ up) ∙ rw at refl)

pub frame_law : FrameLaw
frame_law marks log c p guarded naming apart =
    elim (find_same log c p) [
      | inl same ↦ (
        same,
        λ x found. elim (find_more marks log c guarded naming p x found) [
          | inl old ↦ old
          | inr new ↦ subst (λ o. MayFind log p o) (sym (new.0 ∙ same)) (found_now log p)
        ],
      )
      | inr under ↦ absurd (apart under)
    ]

pub below_law : BelowLaw
below_law log top i rest settled at below x found = below rest x (from rest x found) ∙ sym (find_below (current log) top i rest at)
  where
    from : (rest : Route) (x : Option ℕ) → MayFind log (rest ++ top) x → MayFindFrom log i rest x
    from [] x found = settled x found ∙ at
    from (name ∷ rest) x (y, found, leads) = (y, from rest y found, leads)

pub unaltered_law : UnalteredLaw
unaltered_law log c i same there = ap (λ (s : FileSystem). node s i) (current_more log c) ∙ at c same
  where
    apart : (k : ℕ) → (k == i) ≡ false → i ≡ k → ⊥
    apart k off e = both_ways (k == i) off (eq-eqb k i (sym e))

    at : (c : Change) → alters i c ≡ false → node (after_change (current log) c) i ≡ node (current log) i
    at Nothing h = refl
    at (Makes f name made) h = at_more (current log).nodes made i there
    at (Moves f old g new k r) h = refl
    at (Removes f name k) h = refl
    at (Sets k mode) h = set_other (current log).nodes i k _ (apart k h)
    at (Writes k bytes time) h = set_other (current log).nodes i k _ (apart k h)
    at (Syncs k) h = refl
