-- A thing is moved by one renaming.
use Rattle.tree_trait.specs.Refusals.{is_folder}
use Rattle.std.proofs.Common.{◌≡◌, ℕ, true, false, List, ◌∷◌, ◌++◌, length, refl, sym, ◌∙◌, ap, subst, inl, inr, ◌⊎◌, Option, Some, None, arith, ◌<◌, option_and_then, []}
use Rattle.mc_text.specs.Routes.{Route}
use Rattle.tree_trait.specs.declared.file_system.FileSystem.{FileSystem}
use Rattle.tree_trait.specs.FileSystem.{find, lookup, node}
use Rattle.tree_trait.specs.Shape.{IsTree}
use Rattle.tree_trait.specs.Change.{Moves, CallLog, current, with_change}
use Rattle.tree_trait.specs.CrashImages.{same_name, says}
use Rattle.tree_trait.proofs.Finding.{same_name-true, same_name-self, find-once}
use Rattle.tree_trait.proofs.Kept.{tree_moved}
use Rattle.laws_crash.specs.Possible.{MayFind, MayFindFrom, Leads, find_from, IsSettledBelow}
use Rattle.laws_crash.specs.Guarded.{Marks, IsGuarded, IsUnder, IsNaming}
use Rattle.laws_crash.specs.NameKnowledge.{CanMove, MovingLaw}
use Rattle.laws_crash.proofs.Leading.{current_more}
use Rattle.laws_crash.proofs.Guarding.{find_same, said, unsaid, leads_as_before, found_at, still_firm}
use Rattle.laws_crash.proofs.Tops.{found_from, find_below, path_once, goes_through, top_is, some_of_two, not_longer, none_below}
use Rattle.laws_crash.proofs.Placing.{first, one_of, to_it, neither, second}

module _ (marks : Marks) (log : CallLog) (upa upb : Route) (old new : List ℕ) (f g i : ℕ) (r : Option ℕ) (guarded : IsGuarded marks log)
    (can : CanMove marks log upa upb old new f g i) where
  abbrev now : CallLog
  now = with_change log (Moves f old g new i r)

  under : (p : Route) → IsUnder log (Moves f old g new i r) p → ((rest : Route) × (p ≡ rest ++ new ∷ upb)) ⊎ ((rest : Route) × (p ≡ rest ++ old ∷ upa))
  under p u =
      let t = goes_through log (Moves f old g new i r) p u in
      elim (some_of_two (same_name g new t.g t.name) (same_name f old t.g t.name) (Some i) None t.says_so) [
        | inl h ↦ inl (t.rest, t.is ∙ ap (λ q. t.rest ++ q) (top_is log guarded.tree upb g can.to.at new t.name t.folder t.g t.at h))
        | inr h ↦ inr (t.rest, t.is ∙ ap (λ q. t.rest ++ q) (top_is log guarded.tree upa f can.from.at old t.name t.folder t.g t.at h))
      ]

  not_from : (q : Route) → q ≡ upa → IsUnder log (Moves f old g new i r) q → ⊥
  not_from q same u = elim (under q u) [ inl t ↦ can.not_under_target t.0 (sym same ∙ t.1) | inr t ↦ not_longer t.0 old upa (sym same ∙ t.1) ]

  not_to : (q : Route) → q ≡ upb → IsUnder log (Moves f old g new i r) q → ⊥
  not_to q same u = elim (under q u) [ inl t ↦ not_longer t.0 new upb (sym same ∙ t.1) | inr t ↦ can.not_into_itself t.0 (sym same ∙ t.1) ]

  way_from : find (current now) upa ≡ Some f
  way_from = elim (find_same log (Moves f old g new i r) upa) [ inl same ↦ same ∙ can.from.at | inr u ↦ absurd (not_from upa refl u) ]

  way_to : find (current now) upb ≡ Some g
  way_to = elim (find_same log (Moves f old g new i r) upb) [ inl same ↦ same ∙ can.to.at | inr u ↦ absurd (not_to upb refl u) ]

  source_gone : find (current now) (old ∷ upa) ≡ None
  source_gone =
      rw way_from (said log (Moves f old g new i r) f old None (second (same_name g new f old) (same_name f old f old) i can.other (same_name-self f old)))

  folder_is : (h : ℕ) (m : List ℕ) (to : Option ℕ) → says (Moves f old g new i r) (length (current log).nodes) h m ≡ Some to → (g ≡ h) ⊎ (f ≡ h)
  folder_is h m to is =
      elim (one_of (same_name g new h m) (same_name f old h m) i to is) [
        | inl e ↦ inl (same_name-true g h new m e).0
        | inr e ↦ inr (same_name-true f h old m e).0
      ]

  top : find (current log) (old ∷ upa) ≡ Some i
  top = rw can.from.at can.leads

  -- neither folder lies below what is moved
  not_below : (rest : Route) (h : ℕ) → find_from (current log) i rest ≡ Some h → (name : List ℕ) → says (Moves f old g new i r) (length (current log).nodes) h name ≡ None
  not_below rest h from name =
      let at = find_below (current log) (old ∷ upa) i rest top ∙ from in
      neither (same_name g new h name) (same_name f old h name) i
      (λ e. can.not_into_itself rest (find-once (current log) guarded.tree upb (rest ++ old ∷ upa) g can.to.at (at ∙ ap (λ k. Some k) (sym (same_name-true g h new name e).0))))
      (λ e. not_longer rest old upa (find-once (current log) guarded.tree upa (rest ++ old ∷ upa) f can.from.at (at ∙ ap (λ k. Some k) (sym (same_name-true f h old name e).0))))

  -- so all below it is as before
  as_before : (rest : Route) (x : Option ℕ) → MayFindFrom now i rest x → MayFindFrom log i rest x × (find_from (current now) i rest ≡ find_from (current log) i rest)
  as_before [] x found = (found, refl)
  as_before (name ∷ rest) x (y, found, leads) =
      let b = as_before rest y found in
      next name rest x y leads b.0 (can.below rest y b.0) b.1
    where
      next : (name : List ℕ) (rest : Route) (x y : Option ℕ) → Leads now y name x → MayFindFrom log i rest y → y ≡ find_from (current log) i rest → find_from (current now) i rest ≡ find_from (current log) i rest
          → MayFindFrom log i (name ∷ rest) x × (find_from (current now) i (name ∷ rest) ≡ find_from (current log) i (name ∷ rest))
      next name rest x None leads found at same = (
        (None, found, leads),
        ap (option_and_then (λ k. lookup (current now).names k name)) (same ∙ sym at) ∙ sym (ap (option_and_then (λ k. lookup (current log).names k name)) (sym at)),
      )
      next name rest x (Some h) leads found at same =
          let none = not_below rest h (sym at) name in (
            (Some h, found, leads_as_before log (Moves f old g new i r) h name x none leads),
            ap (option_and_then (λ k. lookup (current now).names k name)) (same ∙ sym at) ∙ (unsaid log (Moves f old g new i r) h name none ∙ sym (ap (option_and_then (λ k. lookup (current log).names k name)) (sym at))),
          )

  anchored_at : (h : ℕ) → (g ≡ h) ⊎ (f ≡ h) → (q : Route) → MayFind log q (Some h) → (find (current log) q ≡ Some h) × (find (current now) q ≡ Some h)
  anchored_at h (inl e) q found =
      let same = path_once marks log guarded upb q g can.to.anchored can.to.at (subst (λ k. MayFind log q (Some k)) (sym e) found) in
      (ap (find (current log)) same ∙ (can.to.at ∙ ap (λ k. Some k) e), ap (find (current now)) same ∙ (way_to ∙ ap (λ k. Some k) e))
  anchored_at h (inr e) q found =
      let same = path_once marks log guarded upa q f can.from.anchored can.from.at (subst (λ k. MayFind log q (Some k)) (sym e) found) in
      (ap (find (current log)) same ∙ (can.from.at ∙ ap (λ k. Some k) e), ap (find (current now)) same ∙ (way_from ∙ ap (λ k. Some k) e))

  there_at : (h : ℕ) → (g ≡ h) ⊎ (f ≡ h) → h < length (current log).nodes
  there_at h (inl e) = subst (λ k. k < length (current log).nodes) e (guarded.there upb g (found_at log upb (Some g) can.to.at))
  there_at h (inr e) = subst (λ k. k < length (current log).nodes) e (guarded.there upa f (found_at log upa (Some f) can.from.at))

  at_source : (rest p : Route) → p ≡ rest ++ old ∷ upa → marks.aside p ≡ false → (find (current log) p ≡ marks.was p) ⊎ (find (current log) p ≡ find (current now) p)
  at_source rest p is out =
      elim (can.source rest (subst (λ q. marks.aside q ≡ false) is out)) [
        | inl same ↦ inl (subst (λ q. find (current log) q ≡ marks.was q) (sym is) same)
        | inr none ↦ inr (subst (λ q. find (current log) q ≡ find (current now) q) (sym is) (none ∙ sym (none_below now rest (old ∷ upa) source_gone)))
      ]

  never : (j : ℕ) → (let o : Option ℕ = Some j in o) ≡ None → ⊥
  never j h = cc

  placed_at : find (current now) (new ∷ upb) ≡ Some i
  placed_at = rw way_to (said log (Moves f old g new i r) g new (Some i) (first (same_name g new g new) (same_name f old g new) i (same_name-self g new)))

  -- what lies below leads where it led
  same_below : (rest : Route) → find_from (current now) i rest ≡ find_from (current log) i rest
  same_below rest = (as_before rest (find_from (current now) i rest) (found_from now i rest)).1

  solid_target : (rest : Route) (p : Route) → p ≡ rest ++ new ∷ upb → (j : ℕ) → marks.aside p ≡ false → find (current now) p ≡ Some j → (marks.loose j ≡ false) ⊎ (is_folder (node (current now) j) ≡ true)
  solid_target rest p is j out at =
      let from : find_from (current log) i rest ≡ Some j = sym (same_below rest) ∙ (sym (find_below (current now) (new ∷ upb) i rest placed_at) ∙ (ap (find (current now)) (sym is) ∙ at)) in
      let there = guarded.there (rest ++ old ∷ upa) j (found_at log (rest ++ old ∷ upa) (Some j) (find_below (current log) (old ∷ upa) i rest top ∙ from)) in
      still_firm marks log (Moves f old g new i r) j there (can.solid rest j (subst (λ q. marks.aside q ≡ false) is out) from)

  pub moving_naming : IsNaming marks log (Moves f old g new i r)
  moving_naming = record {
    tree = subst IsTree (sym (current_more log (Moves f old g new i r))) (tree_moved (current log) f old g new i r guarded.tree can.leads can.folder);
    bytes = λ j. refl;
    count = let e = ap (λ (s : FileSystem). length s.nodes) (current_more log (Moves f old g new i r)) in omega (arith, e);
    anchored = λ h name to q is found. anchored_at h (folder_is h name to is) q found;
    in_folder = λ h name to is. there_at h (folder_is h name to is);
    fresh = λ h name j is. inl (subst (λ k. marks.roams k ≡ true) (sym (to_it (same_name g new h name) (same_name f old h name) i j is)) can.moves);
    below = λ h name j is.
        subst (λ k. IsSettledBelow now k) (sym (to_it (same_name g new h name) (same_name f old h name) i j is))
        (λ rest x found. let b = as_before rest x found in can.below rest x b.0 ∙ sym b.1);
    solid = λ p j out u at.
        elim (under p u) [
          | inl t ↦ solid_target t.0 p t.1 j out at
          | inr t ↦ absurd (never j (sym at ∙ (ap (find (current now)) t.1 ∙ none_below now t.0 (old ∷ upa) source_gone)))
        ];
    unworked = λ p out u.
        elim (under p u) [
          | inl t ↦ inl (subst (λ q. find (current log) q ≡ marks.was q) (sym t.1) (can.found t.0 (subst (λ q. marks.aside q ≡ false) t.1 out)))
          | inr t ↦ at_source t.0 p t.1 out
        ];
  }

pub moving_law : MovingLaw
moving_law marks log upa upb old new f g i r guarded can = moving_naming marks log upa upb old new f g i r guarded can
