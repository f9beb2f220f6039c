-- A part or a folder is made.
use Rattle.tree_trait.proofs.Steady.{at}
use Rattle.tree_trait.specs.Refusals.{is_folder}
use Rattle.std.proofs.Common.{◌≡◌, ℕ, ◌<◌, Bool, true, false, List, [], ◌∷◌, ◌++◌, length, refl, sym, ◌∙◌, ap, subst, inl, inr, ◌⊎◌, Option, Some, None, cond, arith}
use Rattle.mc_text.specs.Routes.{Route}
use Rattle.tree_trait.specs.declared.file_system.Node.{Node}
use Rattle.tree_trait.specs.declared.file_system.FileSystem.{FileSystem}
use Rattle.tree_trait.specs.FileSystem.{lookup, find, node}
use Rattle.tree_trait.specs.Shape.{IsTree}
use Rattle.tree_trait.specs.Change.{Makes, CallLog, current, with_change}
use Rattle.tree_trait.specs.CrashImages.{same_name, says}
use Rattle.tree_trait.proofs.Finding.{same_name-true, same_name-self}
use Rattle.tree_trait.proofs.Kept.{tree_made}
use Rattle.tree_trait.proofs.Names.{count-after_change}
use Rattle.laws_crash.specs.Possible.{MayLead, MayFind, IsSettledBelow}
use Rattle.laws_crash.specs.Guarded.{Marks, IsGuarded, IsUnder, IsNaming}
use Rattle.laws_crash.specs.NameKnowledge.{CanMake, MakingLaw}
use Rattle.laws_crash.proofs.Leading.{current_more, leads_now}
use Rattle.laws_crash.proofs.Guarding.{find_same, said, unsaid, leads_as_before, found_at}
use Rattle.laws_crash.proofs.Tops.{bare_below, path_once, under_made, not_longer}

abbrev one : Bool → ℕ → Option (Option ℕ)
one b n = cond b (Some (Some n)) None

is_it : (b : Bool) (n : ℕ) (to : Option ℕ) → one b n ≡ Some to → b ≡ true
is_it true n to h = refl
is_it false n to h = cc

to_it : (b : Bool) (n j : ℕ) → one b n ≡ Some (Some j) → j ≡ n
to_it true n j h = cc
to_it false n j h = cc

other : (b : Bool) (n : ℕ) → (b ≡ true → ⊥) → one b n ≡ None
other true n h = absurd (h refl)
other false n h = refl

module _ (marks : Marks) (log : CallLog) (up : Route) (m : List ℕ) (f : ℕ) (made : Node) (guarded : IsGuarded marks log) (can : CanMake marks log up m f made) where
  abbrev now : CallLog
  now = with_change log (Makes f m made)

  abbrev new : ℕ
  new = length (current log).nodes

  grown : new < length (current now).nodes
  grown =
      let e = ap (λ (s : FileSystem). length s.nodes) (current_more log (Makes f m made)) in
      let n = count-after_change (current log) (Makes f m made) in
      omega (arith, e, n)

  never_under : (q : Route) → q ≡ up → IsUnder log (Makes f m made) q → ⊥
  never_under q same under = let u = under_made log guarded.tree up f can.stands.at m made q under in not_longer u.0 m up (sym same ∙ u.1)

  way : find (current now) up ≡ Some f
  way = elim (find_same log (Makes f m made) up) [ inl same ↦ same ∙ can.stands.at | inr under ↦ absurd (never_under up refl under) ]

  apart : f ≡ new → ⊥
  apart e = let t = guarded.there up f (found_at log up (Some f) can.stands.at) in absurd (omega (arith, t, e))

  says_none : (name : List ℕ) → says (Makes f m made) (length (current log).nodes) new name ≡ None
  says_none name = other (same_name f m new name) new (λ e. apart (same_name-true f new m name e).0)

  bare : (name : List ℕ) → lookup (current log).names new name ≡ None
  bare name = guarded.empty new name (lookup (current log).names new name) (omega arith) (leads_now new name [] log.opening log.changes)

  bare_now : (name : List ℕ) → lookup (current now).names new name ≡ None
  bare_now name = unsaid log (Makes f m made) new name (says_none name) ∙ bare name

  made_at : find (current now) (m ∷ up) ≡ Some new
  made_at = rw way (said log (Makes f m made) f m (Some new) (ap (λ b. one b new) (same_name-self f m)))

  free_at : (rest : Route) → find (current log) (rest ++ m ∷ up) ≡ None
  free_at [] = rw can.stands.at can.free
  free_at (name ∷ rest) = rw (free_at rest) refl

  under_it : (name : List ℕ) (rest : Route) → find (current now) (name ∷ rest ++ m ∷ up) ≡ None
  under_it name [] = rw made_at (bare_now name)
  under_it name (more ∷ rest) = rw (under_it more rest) refl

  -- no name leads to a node that isn't made yet
  nothing_new : (j : ℕ) → j ≡ new → (h : ℕ) (n : List ℕ) → MayLead log h n (Some j) → ⊥
  nothing_new j e h n lead = let t = guarded.named h n j lead in absurd (omega (arith, e, t))

  at_it : (rest : Route) (p : Route) → p ≡ rest ++ m ∷ up → marks.aside p ≡ false → (find (current log) p ≡ marks.was p) ⊎ (find (current log) p ≡ find (current now) p)
  at_it [] p is out = inl (subst (λ q. find (current log) q ≡ marks.was q) (sym is) (free_at [] ∙ sym (can.was (subst (λ q. marks.aside q ≡ false) is out))))
  at_it (name ∷ rest) p is out = inr (subst (λ q. find (current log) q ≡ find (current now) q) (sym is) (free_at (name ∷ rest) ∙ sym (under_it name rest)))

  -- the node that is made is the new one
  new_node : (xs : List Node) → at (xs ++ made ∷ []) (length xs) ≡ made
  new_node [] = refl
  new_node (x ∷ xs) = new_node xs

  never : (j : ℕ) → (let o : Option ℕ = Some j in o) ≡ None → ⊥
  never j h = cc

  is_new : (j : ℕ) → (let o : Option ℕ = Some new in o) ≡ Some j → j ≡ new
  is_new j h = cc

  solid_at : (rest : Route) (p : Route) → p ≡ rest ++ m ∷ up → (j : ℕ) → marks.aside p ≡ false → find (current now) p ≡ Some j → (marks.loose j ≡ false) ⊎ (is_folder (node (current now) j) ≡ true)
  solid_at [] p is j out at =
      let e = is_new j (sym made_at ∙ (ap (find (current now)) (sym is) ∙ at)) in
      elim (can.solid (subst (λ q. marks.aside q ≡ false) is out)) [
        | inl firm ↦ inl (subst (λ k. marks.loose k ≡ false) (sym e) firm)
        | inr folder ↦ inr (ap (λ k. is_folder (node (current now) k)) e ∙ (ap (λ (s : FileSystem). is_folder (node s new)) (current_more log (Makes f m made)) ∙ (ap is_folder (new_node (current log).nodes) ∙ folder)))
      ]
  solid_at (name ∷ rest) p is j out at = absurd (never j (sym at ∙ (ap (find (current now)) is ∙ under_it name rest)))

  pub making_naming : IsNaming marks log (Makes f m made)
  making_naming = record {
    tree = subst IsTree (sym (current_more log (Makes f m made))) (tree_made (current log) f m made guarded.tree can.folder);
    bytes = λ j. refl;
    count = let g = grown in omega (arith, g);
    anchored = λ g name to q is found.
        let e = (same_name-true f g m name (is_it (same_name f m g name) new to is)).0 in
        let same = path_once marks log guarded up q f can.stands.anchored can.stands.at (subst (λ k. MayFind log q (Some k)) (sym e) found) in
        (ap (find (current log)) same ∙ (can.stands.at ∙ ap (λ k. Some k) e), ap (find (current now)) same ∙ (way ∙ ap (λ k. Some k) e));
    in_folder = λ g name to is.
        subst (λ k. k < length (current log).nodes) (same_name-true f g m name (is_it (same_name f m g name) new to is)).0 (guarded.there up f (found_at log up (Some f) can.stands.at));
    fresh = λ g name j is. inr (λ h n lead. nothing_new j (to_it (same_name f m g name) new j is) h n lead);
    below = λ g name j is.
        subst (λ k. IsSettledBelow now k) (sym (to_it (same_name f m g name) new j is))
        (bare_below now new (λ n y lead. guarded.empty new n y (omega arith) (leads_as_before log (Makes f m made) new n y (says_none n) lead)));
    solid = λ p j out under at.
        let u = under_made log guarded.tree up f can.stands.at m made p under in
        solid_at u.0 p u.1 j out at;
    unworked = λ p out under.
        let u = under_made log guarded.tree up f can.stands.at m made p under in
        at_it u.0 p u.1 out;
  }

pub making_law : MakingLaw
making_law marks log up m f made guarded can = making_naming marks log up m f made guarded can
