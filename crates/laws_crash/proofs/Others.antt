-- What stays so while others work, and what holds at an opening.
use Rattle.std.proofs.Common.{◌≡◌, ℕ, ◌<◌, ◌≤◌, true, List, [], ◌∷◌, ◌++◌, length, refl, sym, ◌∙◌, ap, subst, inl, inr, Option, Some, None, arith, Bool, false, ◌⊎◌}
use Rattle.std.specs.Prelude.{is_none}
use Rattle.std.proofs.lemmas.Bool.{and_parts, and_from, not-true}
use Rattle.mc_text.specs.Routes.{Route}
use Rattle.tree_trait.specs.declared.file_system.FileSystem.{FileSystem}
use Rattle.tree_trait.specs.FileSystem.{lookup, find, node}
use Rattle.tree_trait.specs.Shape.{IsTree}
use Rattle.tree_trait.specs.Refusals.{is_folder}
use Rattle.tree_trait.specs.Change.{Change, CallLog, after_change, after_changes, current, with_change, Moves, Syncs}
use Rattle.tree_trait.specs.CrashImages.{same_name, is_unsynced, says, may_lead, Among, alters, is_clean, all_settled}
use Rattle.tree_trait.proofs.Finding.{and_then-some, same_name-true}
use Rattle.tree_trait.proofs.Kept.{folder_there}
use Rattle.laws_crash.specs.Possible.{MayLead, MayFind, Leads}
use Rattle.laws_crash.specs.Guarded.{IsGuarded, IsUnder, Marks}
use Rattle.laws_crash.specs.NameKnowledge.{IsAnchored, HasTwoNames, NamesOfMovedLaw, is_near, OthersLaw, OpeningLaw, as_it_stands}
use Rattle.laws_crash.proofs.Leading.{leads_more, leads_now}
use Rattle.laws_crash.proofs.Placing.{two}
use Rattle.laws_crash.proofs.Guarding.{find_same, said, leads_as_before}
use Rattle.laws_crash.proofs.Syncing.{frame_law, none_had, calm, only_one, steady_near}

pub same_at : (log : CallLog) (c : Change) (p : Route) → (IsUnder log c p → ⊥) → find (current (with_change log c)) p ≡ find (current log) p
same_at log c p apart = elim (find_same log c p) [ inl same ↦ same | inr under ↦ absurd (apart under) ]

still_anchored : (marks : Marks) (log : CallLog) (c : Change) (up : Route) → (IsUnder log c up → ⊥) → IsAnchored marks log up → IsAnchored marks (with_change log c) up
still_anchored marks log c [] apart a = tt
still_anchored marks log c (name ∷ folder) apart a =
    (still_anchored marks log c folder (λ under. apart (inl under)) a.0, λ i at. a.1 i (sym (same_at log c (name ∷ folder) apart) ∙ at))

pub others_law : OthersLaw
others_law = record {
  stands = λ marks log c up f apart s. record { at = same_at log c up apart ∙ s.at; anchored = still_anchored marks log c up apart s.anchored };
  unworked = λ marks log c top apart u rest out.
      elim (u rest out) [ inl same ↦ inl (same_at log c (rest ++ top) (apart rest) ∙ same) | inr none ↦ inr (same_at log c (rest ++ top) (apart rest) ∙ none) ];
  settled = λ marks log c p guarded naming apart settled x found.
      let f = frame_law marks log c p guarded naming apart in
      settled x (f.1 x found) ∙ sym f.0;
}

lead_settled : (g : ℕ) (m : List ℕ) (s : FileSystem) (cs : List Change) → all_settled cs ≡ true → may_lead g m [] s cs ≡ lookup (after_changes s cs).names g m ∷ []
lead_settled g m s [] h = refl
lead_settled g m s (c ∷ cs) h =
    ap (λ had. may_lead g m had (after_change s c) cs)
    (none_had (is_none (says c (length s.nodes) g m)) (is_unsynced c cs) (lookup s.names g m ∷ []) (λ e. not-true _ (and_parts _ _ h).0))
    ∙ lead_settled g m (after_change s c) cs (and_parts _ _ h).1

clean_settled : (i : ℕ) (cs : List Change) → all_settled cs ≡ true → is_clean i cs ≡ true
clean_settled i [] h = refl
clean_settled i (c ∷ cs) h = and_from _ _ (calm (alters i c) (is_unsynced c cs) (λ a. not-true _ (and_parts _ _ h).0)) (clean_settled i cs (and_parts _ _ h).1)

module _ (log : CallLog) (tree : IsTree (current log)) (settled : all_settled log.changes ≡ true) where
  led : (g : ℕ) (m : List ℕ) (y : Option ℕ) → Among (may_lead g m [] log.opening log.changes) y → y ≡ lookup (current log).names g m
  led g m y among = only_one _ _ _ (lead_settled g m log.opening log.changes settled) among

  found : (p : Route) (x : Option ℕ) → MayFind log p x → x ≡ find (current log) p
  found [] x h = h
  found (name ∷ folder) x (y, h, leads) = at y (found folder y h) leads
    where
      at : (o : Option ℕ) → o ≡ find (current log) folder → Leads log o name x → x ≡ find (current log) (name ∷ folder)
      at None is leads = leads ∙ sym (rw (sym is) refl)
      at (Some g) is leads = led g name x leads ∙ sym (rw (sym is) refl)

  there : (p : Route) (i : ℕ) → find (current log) p ≡ Some i → i < length (current log).nodes
  there [] i is = folder_there (current log).nodes i (let e : 0 ≡ i = (let h = is in cc) in subst (λ k. is_folder (node (current log) k) ≡ true) e tree.root)
  there (name ∷ folder) i is = let h = and_then-some (find (current log) folder) (λ g. lookup (current log).names g name) i is in tree.there h.0 name i h.2

  no_names : (i : ℕ) (m : List ℕ) (o : Option ℕ) → lookup (current log).names i m ≡ o → length (current log).nodes ≤ i → o ≡ None
  no_names i m None is past = refl
  no_names i m (Some j) is past = let t = folder_there (current log).nodes i (tree.in_folders i m j is) in absurd (omega (arith, t, past))

  pub opening_kept : IsGuarded (as_it_stands log) log
  opening_kept = record {
    tree = tree;
    twofold = λ p x out h. inl (found p x h);
    clean = λ i firm. clean_settled i log.changes settled;
    firm = λ p i out h. inl refl;
    once = λ i g h m n stays one two. tree.one_name g h m n i (sym (led g m (Some i) one)) (sym (led h n (Some i) two));
    no_root = λ g m lead. tree.no_name g m (sym (led g m (Some 0) lead));
    named = λ g m i lead. tree.there g m i (sym (led g m (Some i) lead));
    there = λ p i h. there p i (sym (found p (Some i) h));
    empty = λ i m y past among. led i m y among ∙ no_names i m (lookup (current log).names i m) refl past;
  }

pub opening_law : OpeningLaw
opening_law log tree settled = opening_kept log tree settled

names_after : (log : CallLog) (c : Change) (i f g : ℕ) (old new : List ℕ) → ((h : ℕ) (n : List ℕ) → says c (length (current log).nodes) h n ≡ Some (Some i) → (h ≡ g) × (n ≡ new))
    → ((h : ℕ) (n : List ℕ) → MayLead log h n (Some i) → ((h ≡ f) × (n ≡ old)) ⊎ ((h ≡ g) × (n ≡ new))) → HasTwoNames (with_change log c) i f old g new
names_after log c i f g old new to_new was h n lead = at (says c (length (current log).nodes) h n) refl
  where
    at : (b : Option (Option ℕ)) → says c (length (current log).nodes) h n ≡ b → ((h ≡ f) × (n ≡ old)) ⊎ ((h ≡ g) × (n ≡ new))
    at None is = was h n (leads_as_before log c h n (Some i) is lead)
    at (Some to) is =
        elim (leads_more log c h n (Some i) lead) [
          | inl now ↦ inr (to_new h n (is ∙ ap (λ o. Some o) (sym (said log c h n to is) ∙ sym now)))
          | inr before ↦ was h n before
        ]

new_name_is : (g h : ℕ) (new n : List ℕ) (i : ℕ) (b : Bool) → (a : Bool) → a ≡ same_name g new h n → two a b i ≡ Some (Some i) → (h ≡ g) × (n ≡ new)
new_name_is g h new n i b true e is = let s = same_name-true g h new n (sym e) in (sym s.0, sym s.1)
new_name_is g h new n i true false e is = cc
new_name_is g h new n i false false e is = cc

pub names_of_moved_law : NamesOfMovedLaw
names_of_moved_law = record {
  renamed = λ marks log f g i old new r one at.
      names_after log (Moves f old g new i r) i f g old new (λ h n is. new_name_is g h new n i (same_name f old h n) (same_name g new h n) refl is)
      (λ h n lead. inl (one h f n old lead (subst (λ o. MayLead log f old o) at (leads_now f old [] log.opening log.changes))));
  others = λ log c i f g old new none names. names_after log c i f g old new (λ h n is. absurd (none h n is)) names;
  settled = λ log i f g old new names near gone a b m n one two.
      let here : (h : ℕ) (k : List ℕ) → MayLead (with_change log (Syncs f)) h k (Some i) → (h ≡ g) × (k ≡ new) = λ h k lead. elim (names h k (leads_as_before log (Syncs f) h k (Some i) refl lead)) [
        | inl at_old ↦ absurd (synced_away log i f old near gone h k at_old lead)
        | inr at_new ↦ at_new
      ] in
      let x = here a m one in
      let y = here b n two in
      (x.0 ∙ sym y.0, x.1 ∙ sym y.1);
}
  where
    synced_away : (log : CallLog) (i f : ℕ) (old : List ℕ) → is_near f old log.changes ≡ true → lookup (current log).names f old ≡ None → (h : ℕ) (k : List ℕ) → (h ≡ f) × (k ≡ old)
        → MayLead (with_change log (Syncs f)) h k (Some i) → ⊥
    synced_away log i f old near gone h k same lead =
        let there : MayLead (with_change log (Syncs f)) f old (Some i) = subst (λ n. MayLead (with_change log (Syncs f)) f n (Some i)) same.1 (subst (λ j. MayLead (with_change log (Syncs f)) j k (Some i)) same.0 lead) in
        let led = only_one _ _ _ (steady_near f old log.opening log.changes near) there in
        let never : (let o : Option ℕ = Some i in o) ≡ None = led ∙ gone in
        cc
