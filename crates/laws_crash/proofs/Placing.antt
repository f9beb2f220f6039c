-- A file gets its name.
use Rattle.tree_trait.specs.Refusals.{is_folder}
use Rattle.std.proofs.Common.{◌≡◌, ℕ, ◌<◌, Bool, true, false, List, [], ◌∷◌, ◌++◌, length, refl, sym, ◌∙◌, ap, subst, inl, inr, ◌⊎◌, Option, Some, None, cond, arith}
use Rattle.std.proofs.lemmas.Bool.{false≢true, true≢false}
use Rattle.mc_text.specs.Routes.{Route}
use Rattle.tree_trait.specs.declared.file_system.FileSystem.{FileSystem}
use Rattle.tree_trait.specs.FileSystem.{lookup, find, node}
use Rattle.tree_trait.specs.Shape.{IsTree}
use Rattle.tree_trait.specs.Change.{Moves, CallLog, current, with_change}
use Rattle.tree_trait.specs.CrashImages.{same_name, says}
use Rattle.tree_trait.proofs.Finding.{find-once, same_name-true, same_name-self}
use Rattle.tree_trait.proofs.Kept.{tree_moved}
use Rattle.laws_crash.specs.Possible.{MayFind, IsSettledBelow}
use Rattle.laws_crash.specs.Guarded.{Marks, IsGuarded, IsUnder, IsNaming}
use Rattle.laws_crash.specs.NameKnowledge.{CanPlace, PlacingLaw}
use Rattle.laws_crash.proofs.Leading.{current_more, leads_now}
use Rattle.laws_crash.proofs.Guarding.{find_same, said, unsaid, leads_as_before, found_at}
use Rattle.laws_crash.proofs.Tops.{bare_below, path_once, under_moved, not_longer, none_below}

-- what is said of a name that is the new one, the old one, or another
abbrev pub two : Bool → Bool → ℕ → Option (Option ℕ)
two a b i = cond a (Some (Some i)) (cond b (Some None) None)

pub one_of : (a b : Bool) (i : ℕ) (to : Option ℕ) → two a b i ≡ Some to → (a ≡ true) ⊎ (b ≡ true)
one_of true b i to h = inl refl
one_of false true i to h = inr refl
one_of false false i to h = cc

pub to_it : (a b : Bool) (i j : ℕ) → two a b i ≡ Some (Some j) → j ≡ i
to_it true b i j h = cc
to_it false true i j h = cc
to_it false false i j h = cc

pub neither : (a b : Bool) (i : ℕ) → (a ≡ true → ⊥) → (b ≡ true → ⊥) → two a b i ≡ None
neither true b i x y = absurd (x refl)
neither false true i x y = absurd (y refl)
neither false false i x y = refl

pub second : (a b : Bool) (i : ℕ) → a ≡ false → b ≡ true → two a b i ≡ Some None
second true b i x y = absurd (true≢false x)
second false true i x y = refl
second false false i x y = absurd (false≢true y)

pub first : (a b : Bool) (i : ℕ) → a ≡ true → two a b i ≡ Some (Some i)
first true b i x = refl
first false b i x = absurd (false≢true x)

module _ (marks : Marks) (log : CallLog) (up : Route) (part target : List ℕ) (f i : ℕ) (r : Option ℕ) (guarded : IsGuarded marks log) (can : CanPlace marks log up part target f i) where
  abbrev pub now : CallLog
  now = with_change log (Moves f part f target i r)

  part_at : find (current log) (part ∷ up) ≡ Some i
  part_at = rw can.stands.at can.leads

  apart : f ≡ i → ⊥
  apart e = not_longer [] part up (find-once (current log) guarded.tree up (part ∷ up) f can.stands.at (part_at ∙ ap (λ k. Some k) (sym e)))

  pub never_under : (q : Route) → q ≡ up → IsUnder log (Moves f part f target i r) q → ⊥
  never_under q same under =
      elim (under_moved log guarded.tree up f can.stands.at part target i r q under) [
        | inl u ↦ not_longer u.0 target up (sym same ∙ u.1)
        | inr u ↦ not_longer u.0 part up (sym same ∙ u.1)
      ]

  pub way : find (current now) up ≡ Some f
  way = elim (find_same log (Moves f part f target i r) up) [ inl same ↦ same ∙ can.stands.at | inr under ↦ absurd (never_under up refl under) ]

  placed_at : find (current now) (target ∷ up) ≡ Some i
  placed_at = rw way (said log (Moves f part f target i r) f target (Some i) (first (same_name f target f target) (same_name f part f target) i (same_name-self f target)))

  part_gone : find (current now) (part ∷ up) ≡ None
  part_gone = rw way (said log (Moves f part f target i r) f part None (second (same_name f target f part) (same_name f part f part) i can.other (same_name-self f part)))

  -- the file holds no names
  says_none : (m : List ℕ) → says (Moves f part f target i r) (length (current log).nodes) i m ≡ None
  says_none m = neither (same_name f target i m) (same_name f part i m) i (λ e. apart (same_name-true f i target m e).0) (λ e. apart (same_name-true f i part m e).0)

  bare : (m : List ℕ) → lookup (current log).names i m ≡ None
  bare m = can.file m (lookup (current log).names i m) (leads_now i m [] log.opening log.changes)

  bare_now : (m : List ℕ) → lookup (current now).names i m ≡ None
  bare_now m = unsaid log (Moves f part f target i r) i m (says_none m) ∙ bare m

  under_target : (name : List ℕ) (rest : Route) → find (current now) (name ∷ rest ++ target ∷ up) ≡ None
  under_target name [] = rw placed_at (bare_now name)
  under_target name (more ∷ rest) = rw (under_target more rest) refl

  under_part : (name : List ℕ) (rest : Route) → find (current log) (name ∷ rest ++ part ∷ up) ≡ None
  under_part name [] = rw part_at (bare name)
  under_part name (more ∷ rest) = rw (under_part more rest) refl

  folder_is : (g : ℕ) (m : List ℕ) (to : Option ℕ) → says (Moves f part f target i r) (length (current log).nodes) g m ≡ Some to → f ≡ g
  folder_is g m to is =
      elim (one_of (same_name f target g m) (same_name f part g m) i to is) [
        | inl h ↦ (same_name-true f g target m h).0
        | inr h ↦ (same_name-true f g part m h).0
      ]

  at_target : (rest : Route) (p : Route) → p ≡ rest ++ target ∷ up → marks.aside p ≡ false → (find (current log) p ≡ marks.was p) ⊎ (find (current log) p ≡ find (current now) p)
  at_target [] p is out = inl (subst (λ q. find (current log) q ≡ marks.was q) (sym is) (can.found (subst (λ q. marks.aside q ≡ false) is out)))
  at_target (name ∷ rest) p is out =
      elim (can.under (name ∷ rest) (subst (λ q. marks.aside q ≡ false) is out)) [
        | inl same ↦ inl (subst (λ q. find (current log) q ≡ marks.was q) (sym is) same)
        | inr none ↦ inr (subst (λ q. find (current log) q ≡ find (current now) q) (sym is) (none ∙ sym (under_target name rest)))
      ]

  at_part : (rest : Route) (p : Route) → p ≡ rest ++ part ∷ up → marks.aside p ≡ false → (find (current log) p ≡ marks.was p) ⊎ (find (current log) p ≡ find (current now) p)
  at_part [] p is out = absurd (false≢true (sym (subst (λ q. marks.aside q ≡ false) is out) ∙ can.is_aside))
  at_part (name ∷ rest) p is out = inr (subst (λ q. find (current log) q ≡ find (current now) q) (sym is) (under_part name rest ∙ sym (none_below now (name ∷ rest) (part ∷ up) part_gone)))

  never : (j : ℕ) → (let o : Option ℕ = Some j in o) ≡ None → ⊥
  never j h = cc

  is_it : (j : ℕ) → (let o : Option ℕ = Some i in o) ≡ Some j → j ≡ i
  is_it j h = cc

  solid_target : (rest : Route) (p : Route) → p ≡ rest ++ target ∷ up → (j : ℕ) → find (current now) p ≡ Some j → (marks.loose j ≡ false) ⊎ (is_folder (node (current now) j) ≡ true)
  solid_target [] p is j at = inl (subst (λ k. marks.loose k ≡ false) (sym (is_it j (sym placed_at ∙ (ap (find (current now)) (sym is) ∙ at)))) can.firm)
  solid_target (name ∷ rest) p is j at = absurd (never j (sym at ∙ (ap (find (current now)) is ∙ under_target name rest)))

  solid_part : (rest : Route) (p : Route) → p ≡ rest ++ part ∷ up → (j : ℕ) → marks.aside p ≡ false → find (current now) p ≡ Some j → ⊥
  solid_part rest p is j out at = never j (sym at ∙ (ap (find (current now)) is ∙ none_below now rest (part ∷ up) part_gone))

  pub placing_naming : IsNaming marks log (Moves f part f target i r)
  placing_naming = record {
    tree = subst IsTree (sym (current_more log (Moves f part f target i r))) (tree_moved (current log) f part f target i r guarded.tree can.leads can.folder);
    bytes = λ j. refl;
    count = let e = ap (λ (s : FileSystem). length s.nodes) (current_more log (Moves f part f target i r)) in omega (arith, e);
    anchored = λ g name to q is found.
        let e = folder_is g name to is in
        let same = path_once marks log guarded up q f can.stands.anchored can.stands.at (subst (λ k. MayFind log q (Some k)) (sym e) found) in
        (ap (find (current log)) same ∙ (can.stands.at ∙ ap (λ k. Some k) e), ap (find (current now)) same ∙ (way ∙ ap (λ k. Some k) e));
    in_folder = λ g name to is. subst (λ k. k < length (current log).nodes) (folder_is g name to is) (guarded.there up f (found_at log up (Some f) can.stands.at));
    fresh = λ g name j is. inl (subst (λ k. marks.roams k ≡ true) (sym (to_it (same_name f target g name) (same_name f part g name) i j is)) can.moves);
    below = λ g name j is.
        subst (λ k. IsSettledBelow now k) (sym (to_it (same_name f target g name) (same_name f part g name) i j is))
        (bare_below now i (λ m y lead. can.file m y (leads_as_before log (Moves f part f target i r) i m y (says_none m) lead)));
    solid = λ p j out under at.
        elim (under_moved log guarded.tree up f can.stands.at part target i r p under) [
          | inl u ↦ solid_target u.0 p u.1 j at
          | inr u ↦ absurd (solid_part u.0 p u.1 j out at)
        ];
    unworked = λ p out under.
        elim (under_moved log guarded.tree up f can.stands.at part target i r p under) [
          | inl u ↦ at_target u.0 p u.1 out
          | inr u ↦ at_part u.0 p u.1 out
        ];
  }

pub placing_law : PlacingLaw
placing_law marks log up part target f i r guarded can = placing_naming marks log up part target f i r guarded can
