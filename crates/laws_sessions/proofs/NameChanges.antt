-- Which names wait after a change: those that did, and those that it says something of, but for what a sync brings onto the disk.
use Rattle.std.proofs.Common.{◌≡◌, ◌⊎◌, ℕ, ◌<◌, true, false, List, [], ◌∷◌, ◌++◌, length, refl, sym, ◌∙◌, ap, subst, inl, inr, Option, Some, None, arith}
use Rattle.std.specs.Prelude.{is_some}
use Rattle.std.specs.Option.{option_map_or}
use Rattle.std.proofs.lemmas.Bool.{both_ways, eq-eqb, false_from_ne_true, false≢true}
use Rattle.mc_text.specs.Routes.{Route}
use Rattle.tree_trait.specs.declared.file_system.Node.{Node}
use Rattle.tree_trait.specs.Change.{Change, Makes, Moves, Removes, Syncs, CallLog, current, found_node, with_change}
use Rattle.tree_trait.specs.CrashImages.{says}
use Rattle.tree_trait.specs.FileSystem.{find, lookup, node}
use Rattle.tree_trait.specs.Refusals.{is_folder}
use Rattle.tree_trait.specs.Shape.{IsTree}
use Rattle.tree_trait.proofs.Finding.{find-once, same_name-true}
use Rattle.tree_trait.proofs.Kept.{folder_there}
use Rattle.laws_crash.proofs.Guarding.{find_same, same_quiet}
use Rattle.laws_crash.proofs.Tops.{none_below, under_made, under_moved, under_removed}
use Rattle.job_reports.proofs.PermittedCalls.{IsMaking}
use Rattle.laws_sessions.specs.Doubt.{is_pending, name_waits}
use Rattle.laws_sessions.proofs.Changing.{said_one, said_two}
use Rattle.laws_sessions.proofs.Pending.{is_within, pending_less, quiet_within}
use Rattle.laws_sessions.proofs.NameWaits.{waits_after, waits_calm}
use Rattle.laws_sessions.proofs.Resting.{IsOfFiles}
use Rattle.laws_sessions.proofs.WaitsAlone.{WaitsAlone, within_gone}
use Rattle.laws_sessions.proofs.CalmChanges.{below_made, below_target, gone_moved, gone_removed, leads, none_some, other_folder, some_same, target_leads}

-- a change of the name waits only where something holds, and for the sync of its own folder alone
abbrev pub WaitsIf : List ℕ → Route → CallLog → Type 0 → Type 0
WaitsIf name up log E = (name_waits log (name ∷ up) ≡ true → E) × WaitsAlone log (name ∷ up)

module _ (name : List ℕ) (up : Route) where
  -- it waits in the folder that stands there
  waits_at : (log : CallLog) → name_waits log (name ∷ up) ≡ true → (f : ℕ) × (find (current log) up ≡ Some f) × (is_pending f name log.changes ≡ true)
  waits_at log waits = by (find (current log) up) refl
    where
      by : (o : Option ℕ) → find (current log) up ≡ o → (f : ℕ) × (find (current log) up ≡ Some f) × (is_pending f name log.changes ≡ true)
      by None is = absurd (false≢true (sym (ap (λ o. option_map_or (λ f. is_pending f name log.changes) o false) is) ∙ waits))
      by (Some f) is = (f, is, sym (ap (λ o. option_map_or (λ f. is_pending f name log.changes) o false) is) ∙ waits)

  it_waits : (log : CallLog) (f : ℕ) → find (current log) up ≡ Some f → is_pending f name log.changes ≡ true → name_waits log (name ∷ up) ≡ true
  it_waits log f at pending = ap (λ o. option_map_or (λ f. is_pending f name log.changes) o false) at ∙ pending

  pub waits_map : (log : CallLog) (E F : Type 0) → (E → F) → WaitsIf name up log E → WaitsIf name up log F
  waits_map log E F f h = (λ waits. f (h.0 waits), h.1)

  module _ (log : CallLog) (c : Change) (E F : Type 0) (h : WaitsIf name up log E) where
    abbrev now : CallLog
    now = with_change log c

    -- by the folder that stands there then
    pub waits_by : is_within c ≡ true → ((f : ℕ) → find (current now) up ≡ Some f → (find (current log) up ≡ Some f) ⊎ ((is_pending f name log.changes ≡ false) × (is_pending f name now.changes ≡ true → F)))
        → ((f : ℕ) → find (current log) up ≡ Some f → is_some (says c 0 f name) ≡ true → F) → (E → F) → WaitsIf name up now F
    waits_by one stands said f = (λ waits. by (waits_at now waits), alone)
      where
        alone : WaitsAlone now (name ∷ up)
        alone i at = elim (stands i at) [
          | inl same ↦ waits_after i name log c (i ∷ []) (within_gone i name c one) (h.1 i same)
          | inr other ↦ waits_after i name log c (i ∷ []) (within_gone i name c one) (waits_calm i name log other.0)
        ]

        by : (g : ℕ) × (find (current now) up ≡ Some g) × (is_pending g name now.changes ≡ true) → F
        by (g, at, pending) = elim (stands g at) [
          | inl before ↦ elim (pending_less g name log.changes c pending) [ inl old ↦ f (h.0 (it_waits log g before old)) | inr new ↦ said g before new ]
          | inr other ↦ other.1 pending
        ]

    -- no name changes
    pub waits_quiet : ((n g : ℕ) (m : List ℕ) → says c n g m ≡ None) → (E → F) → WaitsIf name up now F
    waits_quiet none f = waits_by (quiet_within c none) (λ g at. inl (sym (same_quiet log c (none (length (current log).nodes)) up) ∙ at)) (λ g at said. absurd (false≢true (sym (ap is_some (none 0 g name)) ∙ said))) f

  -- a sync of the folder at a path
  pub waits_synced : (log : CallLog) (q : Route) (g : ℕ) (E F : Type 0) → find (current log) q ≡ Some g → (E → (up ≡ q) ⊎ F) → WaitsIf name up log E → WaitsIf name up (with_change log (Syncs g)) F
  waits_synced log q g E F at_q f h = (λ waits. by (waits_at (with_change log (Syncs g)) waits), (waits_quiet log (Syncs g) E E h (λ n k m. refl) (λ e. e)).1)
    where
      by : (i : ℕ) × (find (current (with_change log (Syncs g))) up ≡ Some i) × (is_pending i name (with_change log (Syncs g)).changes ≡ true) → F
      by (i, at, pending) = elim (pending_less i name log.changes (Syncs g) pending) [
        | inl old ↦ elim (f (h.0 (it_waits log i here old))) [
          | inl same ↦
              let is : i ≡ g = (let e : Some i ≡ Some g = sym here ∙ (ap (find (current log)) same ∙ at_q) in cc) in
              absurd (both_ways _ (h.1 g (here ∙ ap (λ j. Some j) is)) (subst (λ j. is_pending j name (with_change log (Syncs g)).changes ≡ true) is pending))
          | inr other ↦ other
        ]
        | inr said ↦ absurd (false≢true said)
      ]
        where
          here : find (current log) up ≡ Some i
          here = sym (same_quiet log (Syncs g) (λ n m. refl) up) ∙ at

  -- A thing is made in a folder: its name there waits, and nothing in it.
  pub waits_made : (log : CallLog) (tree : IsTree (current log)) (files : IsOfFiles log) (k : List ℕ) (q : Route) (made : Node) (making : IsMaking (current log) k q) (E F : Type 0) → (up ≡ q → F) → (E → F) → WaitsIf name up log E
      → WaitsIf name up (with_change log (Makes (found_node (current log) q) k made)) F
  waits_made log tree files k q made making E F here f h = waits_by log (Makes (found_node (current log) q) k made) E F h refl stands said f
    where
      there : found_node (current log) q < length (current log).nodes
      there = folder_there (current log).nodes (found_node (current log) q) making.holds

      bare : is_folder (node (current log) (length (current log).nodes)) ≡ false
      bare = false_from_ne_true _ (λ is. let past = folder_there (current log).nodes (length (current log).nodes) is in absurd (omega (arith, past)))

      none_new : is_pending (length (current log).nodes) name (with_change log (Makes (found_node (current log) q) k made)).changes ≡ true → F
      none_new pending = elim (pending_less (length (current log).nodes) name log.changes (Makes (found_node (current log) q) k made) pending) [
        | inl old ↦ absurd (both_ways _ (files.bare (length (current log).nodes) name bare) old)
        | inr new ↦
            let e = (same_name-true (found_node (current log) q) (length (current log).nodes) k name (said_one _ (Some 0) new)).0 in
            let t = there in
            absurd (omega (arith, e, t))
      ]

      by_rest : (rest : Route) (g : ℕ) → up ≡ rest ++ k ∷ q → find (current (with_change log (Makes (found_node (current log) q) k made))) up ≡ Some g
          → (is_pending g name log.changes ≡ false) × (is_pending g name (with_change log (Makes (found_node (current log) q) k made)).changes ≡ true → F)
      by_rest [] g is at =
          let same : g ≡ length (current log).nodes = some_same (length (current log).nodes) g (sym (leads log tree k q made making) ∙ (ap (find (current (with_change log (Makes (found_node (current log) q) k made)))) (sym is) ∙ at)) in (
            subst (λ j. is_pending j name log.changes ≡ false) (sym same) (files.bare (length (current log).nodes) name bare),
            λ pending. none_new (subst (λ j. is_pending j name (with_change log (Makes (found_node (current log) q) k made)).changes ≡ true) same pending),
          )
      by_rest (first ∷ rest) g is at = none_some g _ (ap (find (current (with_change log (Makes (found_node (current log) q) k made)))) is ∙ below_made log tree k q made making first rest) at

      stands : (g : ℕ) → find (current (with_change log (Makes (found_node (current log) q) k made))) up ≡ Some g
          → (find (current log) up ≡ Some g) ⊎ ((is_pending g name log.changes ≡ false) × (is_pending g name (with_change log (Makes (found_node (current log) q) k made)).changes ≡ true → F))
      stands g at = elim (find_same log (Makes (found_node (current log) q) k made) up) [
        | inl same ↦ inl (sym same ∙ at)
        | inr under ↦ let u = under_made log tree q (found_node (current log) q) making.folder k made up under in inr (by_rest u.0 g u.1 at)
      ]

      said : (g : ℕ) → find (current log) up ≡ Some g → is_some (says (Makes (found_node (current log) q) k made) 0 g name) ≡ true → F
      said g at says_so =
          let e = (same_name-true (found_node (current log) q) g k name (said_one _ (Some 0) says_so)).0 in
          here (find-once (current log) tree up q g at (making.folder ∙ ap (λ i. Some i) e))

  -- A part goes to a free name beside it, or it is removed: their names wait in that folder.
  module _ (log : CallLog) (tree : IsTree (current log)) (q : Route) (g : ℕ) (at_q : find (current log) q ≡ Some g) (part : List ℕ) (i : ℕ) (part_leads : lookup (current log).names g part ≡ Some i)
      (file : is_folder (node (current log) i) ≡ false) (bare : is_pending i name log.changes ≡ false) (E F : Type 0) (here : up ≡ q → F) (f : E → F) (h : WaitsIf name up log E) where
    in_folder : (j : ℕ) → find (current log) up ≡ Some j → g ≡ j → F
    in_folder j at same = here (find-once (current log) tree up q j at (at_q ∙ ap (λ k. Some k) same))

    pub waits_removed : WaitsIf name up (with_change log (Removes g part i)) F
    waits_removed = waits_by log (Removes g part i) E F h refl stands (λ j at says_so. in_folder j at (same_name-true g j part name (said_one _ None says_so)).0) f
      where
        stands : (j : ℕ) → find (current (with_change log (Removes g part i))) up ≡ Some j
            → (find (current log) up ≡ Some j) ⊎ ((is_pending j name log.changes ≡ false) × (is_pending j name (with_change log (Removes g part i)).changes ≡ true → F))
        stands j at = elim (find_same log (Removes g part i) up) [
          | inl same ↦ inl (sym same ∙ at)
          | inr under ↦
              let u = under_removed log tree q g at_q part i up under in
              none_some j _ (ap (find (current (with_change log (Removes g part i)))) u.1 ∙ none_below (with_change log (Removes g part i)) u.0 (part ∷ q) (gone_removed log tree q g at_q part i part_leads file)) at
        ]

    module _ (target : List ℕ) (replaced : Option ℕ) (apart : part ≡ target → ⊥) where
      abbrev then : CallLog
      then = with_change log (Moves g part g target i replaced)

      -- nothing waits in what is no folder
      none_in : is_pending i name then.changes ≡ true → F
      none_in pending = elim (pending_less i name log.changes (Moves g part g target i replaced) pending) [
        | inl old ↦ absurd (both_ways _ bare old)
        | inr new ↦ elim (said_two _ _ (Some i) None new) [
          | inl same ↦ absurd (other_folder log tree q g at_q part i part_leads file target replaced apart (same_name-true g i target name same).0)
          | inr same ↦ absurd (other_folder log tree q g at_q part i part_leads file target replaced apart (same_name-true g i part name same).0)
        ]
      ]

      by_rest : (rest : Route) (j : ℕ) → up ≡ rest ++ target ∷ q → find (current then) up ≡ Some j → (is_pending j name log.changes ≡ false) × (is_pending j name then.changes ≡ true → F)
      by_rest [] j is at =
          let same : j ≡ i = some_same i j (sym (target_leads log tree q g at_q part i part_leads file target replaced apart) ∙ (ap (find (current then)) (sym is) ∙ at)) in
          (subst (λ k. is_pending k name log.changes ≡ false) (sym same) bare, λ pending. none_in (subst (λ k. is_pending k name then.changes ≡ true) same pending))
      by_rest (first ∷ rest) j is at = none_some j _ (ap (find (current then)) is ∙ below_target log tree q g at_q part i part_leads file target replaced apart first rest) at

      pub waits_placed : WaitsIf name up then F
      waits_placed = waits_by log (Moves g part g target i replaced) E F h (eq-eqb g g refl) stands said f
        where
          stands : (j : ℕ) → find (current then) up ≡ Some j → (find (current log) up ≡ Some j) ⊎ ((is_pending j name log.changes ≡ false) × (is_pending j name then.changes ≡ true → F))
          stands j at = elim (find_same log (Moves g part g target i replaced) up) [
            | inl same ↦ inl (sym same ∙ at)
            | inr under ↦ elim (under_moved log tree q g at_q part target i replaced up under) [
              | inl u ↦ inr (by_rest u.0 j u.1 at)
              | inr u ↦ none_some j _ (ap (find (current then)) u.1 ∙ none_below then u.0 (part ∷ q) (gone_moved log tree q g at_q part i part_leads file target replaced apart)) at
            ]
          ]

          said : (j : ℕ) → find (current log) up ≡ Some j → is_some (says (Moves g part g target i replaced) 0 j name) ≡ true → F
          said j at says_so = elim (said_two _ _ (Some i) None says_so) [
            | inl same ↦ in_folder j at (same_name-true g j target name same).0
            | inr same ↦ in_folder j at (same_name-true g j part name same).0
          ]
