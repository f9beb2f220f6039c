-- A removal.
use Rattle.std.proofs.Common.{◌≡◌, ◌⊎◌, ℕ, ◌<◌, Bool, true, false, List, ◌∷◌, length, refl, sym, ◌∙◌, ap, subst, inl, inr, Option, Some, None, cond, arith}
use Rattle.mc_text.specs.Routes.{Route}
use Rattle.tree_trait.specs.FileSystem.{find}
use Rattle.tree_trait.specs.Shape.{IsTree}
use Rattle.tree_trait.specs.Change.{Removes, CallLog, current, with_change}
use Rattle.tree_trait.specs.CrashImages.{same_name}
use Rattle.tree_trait.proofs.Finding.{same_name-true, same_name-self}
use Rattle.tree_trait.proofs.Kept.{tree_removed}
use Rattle.laws_crash.specs.Possible.{MayFind}
use Rattle.laws_crash.specs.Guarded.{Marks, IsGuarded, IsNaming}
use Rattle.laws_crash.specs.NameKnowledge.{CanRemove, RemovalLaw, StandsAt}
use Rattle.laws_crash.proofs.Leading.{current_more}
use Rattle.laws_crash.proofs.Guarding.{find_same, said, found_at}
use Rattle.laws_crash.proofs.Tops.{path_once, under_removed, not_longer, none_below}

never : (b : Bool) (i : ℕ) (o : Option (Option ℕ)) → o ≡ cond b (Some None) None → o ≡ Some (Some i) → ⊥
never true i o e h = cc
never false i o e h = cc

of_name : (b : Bool) (to : Option ℕ) (o : Option (Option ℕ)) → o ≡ cond b (Some None) None → o ≡ Some to → b ≡ true
of_name true to o e h = refl
of_name false to o e h = cc

module _ (marks : Marks) (log : CallLog) (up : Route) (m : List ℕ) (f i : ℕ) (guarded : IsGuarded marks log) (can : CanRemove marks log up m f) where
  -- the way to the folder stays
  way : find (current (with_change log (Removes f m i))) up ≡ Some f
  way = elim (find_same log (Removes f m i) up) [
    | inl same ↦ same ∙ can.stands.at
    | inr under ↦ let u = under_removed log guarded.tree up f can.stands.at m i up under in absurd (not_longer u.0 m up u.1)
  ]

  gone : find (current (with_change log (Removes f m i))) (m ∷ up) ≡ None
  gone = rw way (said log (Removes f m i) f m None (ap (λ (b : Bool). let o : Option (Option ℕ) = cond b (Some None) None in o) (same_name-self f m)))

  at_up : (q : Route) → q ≡ up → (find (current log) q ≡ Some f) × (find (current (with_change log (Removes f m i))) q ≡ Some f)
  at_up q same = (ap (find (current log)) same ∙ can.stands.at, ap (find (current (with_change log (Removes f m i)))) same ∙ way)

  pub removal_naming : IsNaming marks log (Removes f m i)
  removal_naming = record {
    tree = subst IsTree (sym (current_more log (Removes f m i))) (tree_removed (current log) f m i guarded.tree);
    bytes = λ j. refl;
    count = let e = ap (λ (s : _). length s.nodes) (current_more log (Removes f m i)) in omega (arith, e);
    anchored = λ g name to q is found.
        let e = (same_name-true f g m name (of_name (same_name f m g name) to _ refl is)).0 in
        let at = at_up q (path_once marks log guarded up q f can.stands.anchored can.stands.at (subst (λ k. MayFind log q (Some k)) (sym e) found)) in
        (at.0 ∙ ap (λ k. Some k) e, at.1 ∙ ap (λ k. Some k) e);
    in_folder = λ g name to is.
        subst (λ k. k < length (current log).nodes) (same_name-true f g m name (of_name (same_name f m g name) to _ refl is)).0 (guarded.there up f (found_at log up (Some f) can.stands.at));
    fresh = λ g name j is. absurd (never (same_name f m g name) j _ refl is);
    below = λ g name j is. absurd (never (same_name f m g name) j _ refl is);
    solid = λ p j out under at.
        let u = under_removed log guarded.tree up f can.stands.at m i p under in
        let none : find (current (with_change log (Removes f m i))) p ≡ None = ap (find (current (with_change log (Removes f m i)))) u.1 ∙ none_below (with_change log (Removes f m i)) u.0 (m ∷ up) gone in
        absurd (let e : (let o : Option ℕ = Some j in o) ≡ None = sym at ∙ none in cc);
    unworked = λ p apart under.
        let u = under_removed log guarded.tree up f can.stands.at m i p under in
        elim (can.unworked u.0 (subst (λ q. marks.aside q ≡ false) u.1 apart)) [
          | inl same ↦ inl (subst (λ q. find (current log) q ≡ marks.was q) (sym u.1) same)
          | inr none ↦ inr (subst (λ q. find (current log) q ≡ find (current (with_change log (Removes f m i))) q) (sym u.1) (none ∙ sym (none_below (with_change log (Removes f m i)) u.0 (m ∷ up) gone)))
        ];
  }

-- so each path leads where it led, or nowhere
pub removed_paths : (marks : Marks) (log : CallLog) (up : Route) (m : List ℕ) (f i : ℕ) → IsGuarded marks log → StandsAt marks log up f
    → (p : Route) → (find (current (with_change log (Removes f m i))) p ≡ find (current log) p) ⊎ (find (current (with_change log (Removes f m i))) p ≡ None)
removed_paths marks log up m f i guarded stands p = elim (find_same log (Removes f m i) p) [
  | inl same ↦ inl same
  | inr under ↦
      let u = under_removed log guarded.tree up f stands.at m i p under in
      inr (ap (find (current (with_change log (Removes f m i)))) u.1 ∙ none_below (with_change log (Removes f m i)) u.0 (m ∷ up) gone)
]
  where
    now : find (current (with_change log (Removes f m i))) up ≡ Some f
    now = elim (find_same log (Removes f m i) up) [
      | inl same ↦ same ∙ stands.at
      | inr under ↦ let u = under_removed log guarded.tree up f stands.at m i up under in absurd (not_longer u.0 m up u.1)
    ]

    gone : find (current (with_change log (Removes f m i))) (m ∷ up) ≡ None
    gone = rw now (said log (Removes f m i) f m None (ap (λ (b : Bool). let o : Option (Option ℕ) = cond b (Some None) None in o) (same_name-self f m)))

pub removal_law : RemovalLaw
removal_law marks log up m f i guarded can = removal_naming marks log up m f i guarded can
