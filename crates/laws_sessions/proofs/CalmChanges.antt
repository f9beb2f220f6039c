-- What is calm stays so, whatever is made, placed or removed elsewhere; what is made is calm, and so is what is placed, where it was before.
use Rattle.std.proofs.Common.{◌≡◌, ◌⊎◌, ℕ, Bool, true, false, List, [], ◌∷◌, ◌++◌, length, refl, sym, ◌∙◌, ap, subst, inl, inr, Option, Some, None, arith, cond}
use Rattle.std.specs.Prelude.{option_and_then}
use Rattle.std.proofs.lemmas.Bool.{both_ways, false_from_ne_true}
use Rattle.mc_text.specs.Routes.{Route}
use Rattle.tree_trait.specs.declared.file_system.Node.{Node}
use Rattle.tree_trait.specs.Change.{Change, Makes, Moves, Removes, Syncs, CallLog, current, found_node, with_change}
use Rattle.tree_trait.specs.CrashImages.{alters, is_clean, same_name, says}
use Rattle.tree_trait.specs.FileSystem.{find, lookup, node}
use Rattle.tree_trait.specs.Refusals.{is_folder}
use Rattle.tree_trait.specs.Shape.{IsTree}
use Rattle.tree_trait.proofs.Finding.{same_name-self, same_name-true}
use Rattle.tree_trait.proofs.Kept.{folder_there}
use Rattle.laws_crash.proofs.Guarding.{find_same, same_quiet, said, unsaid}
use Rattle.laws_crash.proofs.Leading.{clean_more}
use Rattle.laws_crash.proofs.Syncing.{firm_law}
use Rattle.laws_crash.proofs.Tops.{none_below, not_longer, under_made, under_moved, under_removed}
use Rattle.job_reports.proofs.PermittedCalls.{IsMaking}
use Rattle.laws_sessions.proofs.Changing.{none_below_hollow}
use Rattle.laws_sessions.proofs.Resting.{IsOfFiles}
use Rattle.laws_sessions.proofs.Calm.{IsCalmOr}
use Rattle.laws_sessions.proofs.PartMade.{made_leads}

pub some_same : (x y : ℕ) → (let o : Option ℕ = Some x in o) ≡ Some y → y ≡ x
some_same x y h = cc

pub none_some : {A : Type 0} (x : ℕ) (o : Option ℕ) → o ≡ None → o ≡ Some x → A
none_some x o none some = absurd (let e : (let n : Option ℕ = None in n) ≡ Some x = sym none ∙ some in let f : ⊥ = cc in f)

-- what may hold besides is another thing
pub calm_map : (p : Route) (log : CallLog) (E F : Type 0) → (E → F) → IsCalmOr p log E → IsCalmOr p log F
calm_map p log E F f calm i at = elim (calm i at) [ inl clean ↦ inl clean | inr e ↦ inr (f e) ]

module _ (p : Route) (log : CallLog) (c : Change) (E F : Type 0) (calm : IsCalmOr p log E) where
  abbrev now : CallLog
  now = with_change log c

  -- the path leads where it led
  same_by : (i : ℕ) → (alters i c ≡ true → F) → (E → F) → (is_clean i log.changes ≡ true) ⊎ E → (b : Bool) → alters i c ≡ b → (is_clean i now.changes ≡ true) ⊎ F
  same_by i other f (inl clean) true is = inr (other is)
  same_by i other f (inl clean) false is = inl (clean_more i log.changes c is clean)
  same_by i other f (inr e) b is = inr (f e)

  pub calm_same : find (current now) p ≡ find (current log) p → ((i : ℕ) → find (current log) p ≡ Some i → alters i c ≡ true → F) → ((i : ℕ) → find (current now) p ≡ Some i → E → F) → IsCalmOr p now F
  calm_same same other f i at = let here = sym same ∙ at in same_by i (other i here) (f i at) (calm i here) (alters i c) refl

  -- no name changes
  pub calm_quiet : ((n g : ℕ) (m : List ℕ) → says c n g m ≡ None) → ((i : ℕ) → find (current log) p ≡ Some i → alters i c ≡ true → F) → (E → F) → IsCalmOr p now F
  calm_quiet none other f = calm_same (same_quiet log c (none (length (current log).nodes)) p) other (λ i at e. f e)

-- a sync of what stands at a path
pub calm_synced : (p : Route) (log : CallLog) (q : Route) (g : ℕ) (E F : Type 0) → find (current log) q ≡ Some g → (E → (p ≡ q) ⊎ F) → IsCalmOr p log E → IsCalmOr p (with_change log (Syncs g)) F
calm_synced p log q g E F at_q f calm i at = by (calm i here)
  where
    here : find (current log) p ≡ Some i
    here = sym (same_quiet log (Syncs g) (λ h m. refl) p) ∙ at

    by : (is_clean i log.changes ≡ true) ⊎ E → (is_clean i (with_change log (Syncs g)).changes ≡ true) ⊎ F
    by (inl clean) = inl (clean_more i log.changes (Syncs g) refl clean)
    by (inr e) = elim (f e) [
      | inl same ↦ inl (subst (λ j. is_clean j (with_change log (Syncs g)).changes ≡ true) (sym (some_same g i (sym at_q ∙ (ap (find (current log)) (sym same) ∙ here)))) (firm_law log g))
      | inr other ↦ inr other
    ]

-- a thing is made
module _ (log : CallLog) (tree : IsTree (current log)) (k : List ℕ) (up : Route) (made : Node) (making : IsMaking (current log) k up) where
  abbrev makes : Change
  makes = Makes (found_node (current log) up) k made

  abbrev after : CallLog
  after = with_change log makes

  abbrev new : ℕ
  new = length (current log).nodes

  -- nothing is in it
  none_new : (m : List ℕ) → lookup (current log).names new m ≡ None
  none_new m = by (lookup (current log).names new m) refl
    where
      by : (o : Option ℕ) → lookup (current log).names new m ≡ o → lookup (current log).names new m ≡ None
      by None is = is
      by (Some j) is = let there = folder_there (current log).nodes new (tree.in_folders new m j is) in absurd (omega (arith, there))

  none_then : (m : List ℕ) → lookup (current after).names new m ≡ None
  none_then m = unsaid log makes new m (by (same_name (found_node (current log) up) k new m) refl) ∙ none_new m
    where
      by : (b : Bool) → same_name (found_node (current log) up) k new m ≡ b → says makes (length (current log).nodes) new m ≡ None
      by true is =
          let e = (same_name-true (found_node (current log) up) new k m is).0 in
          let there = folder_there (current log).nodes (found_node (current log) up) making.holds in absurd (omega (arith, e, there))
      by false is = ap (λ b. (let o : Option (Option ℕ) = cond b (Some (Some new)) None in o)) is

  pub leads : find (current after) (k ∷ up) ≡ Some new
  leads = made_leads log tree k up made making

  -- so nothing stands below it
  pub below_made : (name : List ℕ) (rest : Route) → find (current after) (name ∷ rest ++ k ∷ up) ≡ None
  below_made name rest = none_below_hollow (current after) (k ∷ up) new leads none_then name rest

  module _ (p : Route) (files : IsOfFiles log) (E F : Type 0) (f : E → F) (calm : IsCalmOr p log E) where
    new_clean : is_clean new after.changes ≡ true
    new_clean = clean_more new log.changes makes refl (files.unborn new (omega arith))

    at_made : (rest : Route) (i : ℕ) → find (current after) (rest ++ k ∷ up) ≡ Some i → (is_clean i after.changes ≡ true) ⊎ F
    at_made [] i at = inl (subst (λ j. is_clean j after.changes ≡ true) (sym (some_same new i (sym leads ∙ at))) new_clean)
    at_made (name ∷ rest) i at = none_some i _ (below_made name rest) at

    pub calm_made : IsCalmOr p after F
    calm_made i at = elim (find_same log makes p) [
      | inl same ↦ calm_same p log makes E F calm same (λ j here is. absurd (let e : ⊥ = cc in e)) (λ j here e. f e) i at
      | inr under ↦ let u = under_made log tree up (found_node (current log) up) making.folder k made p under in at_made u.0 i (ap (find (current after)) (sym u.1) ∙ at)
    ]

-- A part goes to a free name beside it, or it is removed.
module _ (log : CallLog) (tree : IsTree (current log)) (up : Route) (g : ℕ) (at_up : find (current log) up ≡ Some g) (part : List ℕ) (i : ℕ) (leads : lookup (current log).names g part ≡ Some i)
    (file : is_folder (node (current log) i) ≡ false) where
  abbrev removes : Change
  removes = Removes g part i

  up_removed : find (current (with_change log removes)) up ≡ Some g
  up_removed = elim (find_same log removes up) [
    | inl same ↦ same ∙ at_up
    | inr under ↦ let u = under_removed log tree up g at_up part i up under in absurd (not_longer u.0 part up u.1)
  ]

  pub gone_removed : find (current (with_change log removes)) (part ∷ up) ≡ None
  gone_removed =
      ap (option_and_then (λ h. lookup (current (with_change log removes)).names h part)) up_removed
      ∙ said log removes g part None (ap (λ b. (let o : Option (Option ℕ) = cond b (Some None) None in o)) (same_name-self g part))

  module _ (target : List ℕ) (replaced : Option ℕ) (apart : part ≡ target → ⊥) where
    abbrev moves : Change
    moves = Moves g part g target i replaced

    abbrev then : CallLog
    then = with_change log moves

    not_same : same_name g target g part ≡ false
    not_same = false_from_ne_true _ (λ same. apart (sym (same_name-true g g target part same).1))

    up_moved : find (current then) up ≡ Some g
    up_moved = elim (find_same log moves up) [
      | inl same ↦ same ∙ at_up
      | inr under ↦ elim (under_moved log tree up g at_up part target i replaced up under) [ inl u ↦ absurd (not_longer u.0 target up u.1) | inr u ↦ absurd (not_longer u.0 part up u.1) ]
    ]

    pub gone_moved : find (current then) (part ∷ up) ≡ None
    gone_moved =
        ap (option_and_then (λ h. lookup (current then).names h part)) up_moved
        ∙ said log moves g part None
        (ap (λ b. (let o : Option (Option ℕ) = cond b (Some (Some i)) (cond (same_name g part g part) (Some None) None) in o)) not_same
        ∙ ap (λ b. (let o : Option (Option ℕ) = cond b (Some None) None in o)) (same_name-self g part))

    pub target_leads : find (current then) (target ∷ up) ≡ Some i
    target_leads =
        ap (option_and_then (λ h. lookup (current then).names h target)) up_moved
        ∙ said log moves g target (Some i) (ap (λ b. (let o : Option (Option ℕ) = cond b (Some (Some i)) (cond (same_name g part g target) (Some None) None) in o)) (same_name-self g target))

    -- what is no folder holds nothing
    none_in : (m : List ℕ) → lookup (current log).names i m ≡ None
    none_in m = by (lookup (current log).names i m) refl
      where
        by : (o : Option ℕ) → lookup (current log).names i m ≡ o → lookup (current log).names i m ≡ None
        by None is = is
        by (Some j) is = absurd (both_ways _ file (tree.in_folders i m j is))

    pub other_folder : g ≡ i → ⊥
    other_folder same = both_ways _ file (subst (λ h. is_folder (node (current log) h) ≡ true) same (tree.in_folders g part i leads))

    none_after : (m : List ℕ) → lookup (current then).names i m ≡ None
    none_after m = unsaid log moves i m (by (same_name g target i m) (same_name g part i m) refl refl) ∙ none_in m
      where
        by : (a b : Bool) → same_name g target i m ≡ a → same_name g part i m ≡ b → says moves (length (current log).nodes) i m ≡ None
        by true b is b_is = absurd (other_folder (same_name-true g i target m is).0)
        by false true is b_is = absurd (other_folder (same_name-true g i part m b_is).0)
        by false false is b_is =
            ap (λ x. (let o : Option (Option ℕ) = cond x (Some (Some i)) (cond (same_name g part i m) (Some None) None) in o)) is
            ∙ ap (λ x. (let o : Option (Option ℕ) = cond x (Some None) None in o)) b_is

    pub below_target : (name : List ℕ) (rest : Route) → find (current then) (name ∷ rest ++ target ∷ up) ≡ None
    below_target name rest = none_below_hollow (current then) (target ∷ up) i target_leads none_after name rest

  module _ (p : Route) (E F : Type 0) (f : E → (p ≡ part ∷ up) ⊎ F) (calm : IsCalmOr p log E) where
    none_there : (c : Change) (j : ℕ) → find (current (with_change log c)) (part ∷ up) ≡ None → find (current (with_change log c)) p ≡ Some j → E → F
    none_there c j gone at e = elim (f e) [ inl same ↦ none_some j _ (ap (find (current (with_change log c))) same ∙ gone) at | inr other ↦ other ]

    pub calm_removed : IsCalmOr p (with_change log removes) F
    calm_removed j at = elim (find_same log removes p) [
      | inl same ↦ calm_same p log removes E F calm same (λ k here is. absurd (let e : ⊥ = cc in e)) (λ k here e. none_there removes k gone_removed here e) j at
      | inr under ↦
          let u = under_removed log tree up g at_up part i p under in
          none_some j _ (ap (find (current (with_change log removes))) u.1 ∙ none_below (with_change log removes) u.0 (part ∷ up) gone_removed) at
    ]

    module _ (target : List ℕ) (replaced : Option ℕ) (apart : part ≡ target → ⊥) (clean : is_clean i log.changes ≡ true) where
      at_target : (rest : Route) (j : ℕ) → find (current (then target replaced apart)) (rest ++ target ∷ up) ≡ Some j → (is_clean j (then target replaced apart).changes ≡ true) ⊎ F
      at_target [] j at = inl (subst (λ k. is_clean k (then target replaced apart).changes ≡ true) (sym (some_same i j (sym (target_leads target replaced apart) ∙ at))) (clean_more i log.changes (moves target replaced apart) refl clean))
      at_target (name ∷ rest) j at = none_some j _ (below_target target replaced apart name rest) at

      pub calm_placed : IsCalmOr p (then target replaced apart) F
      calm_placed j at = elim (find_same log (moves target replaced apart) p) [
        | inl same ↦ calm_same p log (moves target replaced apart) E F calm same (λ k here is. absurd (let e : ⊥ = cc in e)) (λ k here e. none_there (moves target replaced apart) k (gone_moved target replaced apart) here e) j at
        | inr under ↦ elim (under_moved log tree up g at_up part target i replaced p under) [
          | inl u ↦ at_target u.0 j (ap (find (current (then target replaced apart))) (sym u.1) ∙ at)
          | inr u ↦ none_some j _ (ap (find (current (then target replaced apart))) u.1 ∙ none_below (then target replaced apart) u.0 (part ∷ up) (gone_moved target replaced apart)) at
        ]
      ]
