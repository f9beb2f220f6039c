-- Which syncs a name still waits for: those of these folders, and no other. What else is changed in these folders is nothing to it.
use Rattle.std.proofs.Common.{◌≡◌, ℕ, Bool, true, false, List, [], ◌∷◌, ◌++◌, refl, sym, subst, inl, inr, Option, Some, None, append-nil, append_assoc}
use Rattle.std.specs.Prelude.{◌==◌, ◌||◌, ◌&&◌, is_some, map}
use Rattle.std.proofs.lemmas.Bool.{and_from, both_ways, eq-eqb, false≢true, not_from_true, or_cases, or_left, or_right, true≢false}
use Rattle.tree_trait.specs.Change.{Change, Nothing, Makes, Moves, Removes, Sets, Writes, Syncs, CallLog, with_change}
use Rattle.tree_trait.specs.CrashImages.{is_settled, is_unsynced, says}
use Rattle.tree_trait.proofs.Settled.{and_follows, is_unsynced-more, not_follows, or_follows}
use Rattle.laws_sessions.specs.Doubt.{is_pending}
use Rattle.laws_sessions.proofs.Pending.{unless}

-- once these folders are synced no change of this name waits any more
abbrev pub NameWaits : CallLog → ℕ → List ℕ → List ℕ → Type 0
NameWaits log f name owed = is_pending f name (log.changes ++ map Syncs owed) ≡ false

-- what is on the disk is so with a change more between
settled_between : (i : ℕ) (cs : List Change) (c : Change) (more : List Change) → is_settled i (cs ++ more) ≡ true → is_settled i (cs ++ c ∷ more) ≡ true
settled_between i [] (Syncs j) more h = or_right _ _ h
settled_between i [] (Removes f name j) more h = or_right _ _ h
settled_between i [] (Moves f old g new k (Some j)) more h = or_right _ _ h
settled_between i [] (Moves f old g new k None) more h = h
settled_between i [] Nothing more h = h
settled_between i [] (Makes f name made) more h = h
settled_between i [] (Sets j mode) more h = h
settled_between i [] (Writes j bytes mtime) more h = h
settled_between i (Syncs j ∷ cs) c more h = or_follows _ _ _ _ (λ e. e) (settled_between i cs c more) h
settled_between i (Removes f name j ∷ cs) c more h = or_follows _ _ _ _ (and_follows _ _ _ _ (λ e. e) (settled_between f cs c more)) (settled_between i cs c more) h
settled_between i (Moves f old g new k (Some j) ∷ cs) c more h =
    or_follows _ _ _ _ (and_follows _ _ _ _ (λ e. e) (and_follows _ _ _ _ (settled_between f cs c more) (settled_between g cs c more))) (settled_between i cs c more) h
settled_between i (Moves f old g new k None ∷ cs) c more h = settled_between i cs c more h
settled_between i (Nothing ∷ cs) c more h = settled_between i cs c more h
settled_between i (Makes f name made ∷ cs) c more h = settled_between i cs c more h
settled_between i (Sets j mode ∷ cs) c more h = settled_between i cs c more h
settled_between i (Writes j bytes mtime ∷ cs) c more h = settled_between i cs c more h

-- a folder that is synced twice is synced once
settled_once : (i g : ℕ) (cs : List Change) → is_settled i (cs ++ Syncs g ∷ Syncs g ∷ []) ≡ true → is_settled i (cs ++ Syncs g ∷ []) ≡ true
settled_once i g [] h = elim (or_cases (g == i) ((g == i) || false) h) [ inl here ↦ or_left _ _ here | inr there ↦ there ]
settled_once i g (Syncs j ∷ cs) h = or_follows _ _ _ _ (λ e. e) (settled_once i g cs) h
settled_once i g (Removes f name j ∷ cs) h = or_follows _ _ _ _ (and_follows _ _ _ _ (λ e. e) (settled_once f g cs)) (settled_once i g cs) h
settled_once i g (Moves f old k new l (Some j) ∷ cs) h = or_follows _ _ _ _ (and_follows _ _ _ _ (λ e. e) (and_follows _ _ _ _ (settled_once f g cs) (settled_once k g cs))) (settled_once i g cs) h
settled_once i g (Moves f old k new l None ∷ cs) h = settled_once i g cs h
settled_once i g (Nothing ∷ cs) h = settled_once i g cs h
settled_once i g (Makes f name made ∷ cs) h = settled_once i g cs h
settled_once i g (Sets j mode ∷ cs) h = settled_once i g cs h
settled_once i g (Writes j bytes mtime ∷ cs) h = settled_once i g cs h

-- so a change that waits no more doesn't, where as much is on the disk
unsynced_as : (d : Change) (xs ys : List Change) → ((i : ℕ) → is_settled i xs ≡ true → is_settled i ys ≡ true) → is_unsynced d xs ≡ false → is_unsynced d ys ≡ false
unsynced_as Nothing xs ys to h = refl
unsynced_as (Makes f name made) xs ys to h = not_follows _ _ (to f) h
unsynced_as (Moves f old g new i r) xs ys to h = not_follows _ _ (and_follows _ _ _ _ (to f) (to g)) h
unsynced_as (Removes f name i) xs ys to h = not_follows _ _ (to f) h
unsynced_as (Sets i mode) xs ys to h = not_follows _ _ (to i) h
unsynced_as (Writes i bytes mtime) xs ys to h = not_follows _ _ (to i) h
unsynced_as (Syncs i) xs ys to h = refl

neither : (a b : Bool) → (a || b) ≡ false → (a ≡ false) × (b ≡ false)
neither true b h = absurd (true≢false h)
neither false b h = (refl, h)

second_false : (a b : Bool) → (a && b) ≡ false → a ≡ true → b ≡ false
second_false true b h is = h
second_false false b h is = absurd (false≢true is)

module _ (f : ℕ) (name : List ℕ) where
  -- one more change, of something else, or that waits for no more, leaves it so
  pending_between : (cs : List Change) (c : Change) (more : List Change) → (is_some (says c 0 f name) ≡ true → is_unsynced c more ≡ false) → is_pending f name (cs ++ more) ≡ false → is_pending f name (cs ++ c ∷ more) ≡ false
  pending_between [] c more gone h = unless (is_some (says c 0 f name)) (is_unsynced c more) (is_pending f name more) gone h
  pending_between (d ∷ cs) c more gone h =
      let n = neither (is_some (says d 0 f name) && is_unsynced d (cs ++ more)) (is_pending f name (cs ++ more)) h in
      unless (is_some (says d 0 f name)) (is_unsynced d (cs ++ c ∷ more)) (is_pending f name (cs ++ c ∷ more))
      (λ said. unsynced_as d (cs ++ more) (cs ++ c ∷ more) (λ i. settled_between i cs c more) (second_false _ _ n.0 said)) (pending_between cs c more gone n.1)

  pending_once : (cs : List Change) (g : ℕ) → is_pending f name (cs ++ Syncs g ∷ Syncs g ∷ []) ≡ false → is_pending f name (cs ++ Syncs g ∷ []) ≡ false
  pending_once [] g h = refl
  pending_once (d ∷ cs) g h =
      let n = neither (is_some (says d 0 f name) && is_unsynced d (cs ++ Syncs g ∷ Syncs g ∷ [])) (is_pending f name (cs ++ Syncs g ∷ Syncs g ∷ [])) h in
      unless (is_some (says d 0 f name)) (is_unsynced d (cs ++ Syncs g ∷ [])) (is_pending f name (cs ++ Syncs g ∷ []))
      (λ said. unsynced_as d (cs ++ Syncs g ∷ Syncs g ∷ []) (cs ++ Syncs g ∷ []) (λ i. settled_once i g cs) (second_false _ _ n.0 said)) (pending_once cs g n.1)

  -- what waits after more calls waited before, or is of these
  pending_either : (cs more : List Change) → is_pending f name cs ≡ false → is_pending f name more ≡ false → is_pending f name (cs ++ more) ≡ false
  pending_either [] more none later = later
  pending_either (d ∷ cs) more none later =
      let n = neither (is_some (says d 0 f name) && is_unsynced d cs) (is_pending f name cs) none in
      unless (is_some (says d 0 f name)) (is_unsynced d (cs ++ more)) (is_pending f name (cs ++ more)) (λ said. is_unsynced-more d cs more (second_false _ _ n.0 said)) (pending_either cs more n.1 later)

  -- a change that waits for no other sync leaves a name as it waits
  pub waits_after : (log : CallLog) (c : Change) (owed : List ℕ) → (is_some (says c 0 f name) ≡ true → is_unsynced c (map Syncs owed) ≡ false) → NameWaits log f name owed → NameWaits (with_change log c) f name owed
  waits_after log c owed gone h = subst (λ cs. is_pending f name cs ≡ false) (sym (append_assoc log.changes (c ∷ []) (map Syncs owed))) (pending_between log.changes c (map Syncs owed) gone h)

  -- and so does one of something else
  pub waits_still : (log : CallLog) (c : Change) (owed : List ℕ) → is_some (says c 0 f name) ≡ false → NameWaits log f name owed → NameWaits (with_change log c) f name owed
  waits_still log c owed off h = waits_after log c owed (λ said. absurd (both_ways _ off said)) h

  -- a name that waits for nothing waits for no sync but its own folder's
  pub waits_calm : (log : CallLog) → is_pending f name log.changes ≡ false → NameWaits log f name (f ∷ [])
  waits_calm log none = pending_either log.changes (Syncs f ∷ []) none refl

  -- the sync of the first of those folders leaves the others
  pub waits_synced : (log : CallLog) (g : ℕ) (owed : List ℕ) → NameWaits log f name (g ∷ owed) → NameWaits (with_change log (Syncs g)) f name owed
  waits_synced log g owed h = subst (λ cs. is_pending f name cs ≡ false) (sym (append_assoc log.changes (Syncs g ∷ []) (map Syncs owed))) h

  -- and where it is the last one, too, none
  pub waits_once : (log : CallLog) (g : ℕ) → NameWaits log f name (g ∷ g ∷ []) → NameWaits (with_change log (Syncs g)) f name []
  waits_once log g h = subst (λ cs. is_pending f name cs ≡ false) (sym (append_assoc log.changes (Syncs g ∷ []) [])) (pending_once log.changes g h)

  -- After a renaming each name that waited for nothing waits for the syncs of its two folders.
  pub waits_renamed : (log : CallLog) (from to i : ℕ) (old new : List ℕ) (r : Option ℕ) → is_pending f name log.changes ≡ false → NameWaits (with_change log (Moves from old to new i r)) f name (to ∷ from ∷ [])
  waits_renamed log from to i old new r none =
      subst (λ cs. is_pending f name cs ≡ false) (sym (append_assoc log.changes (Moves from old to new i r ∷ []) (Syncs to ∷ Syncs from ∷ [])))
      (pending_either log.changes (Moves from old to new i r ∷ Syncs to ∷ Syncs from ∷ []) none
      (unless (is_some (says (Moves from old to new i r) 0 f name)) (is_unsynced (Moves from old to new i r) (Syncs to ∷ Syncs from ∷ [])) false (λ said. not_from_true _ both) refl))
    where
      both : (is_settled from (Syncs to ∷ Syncs from ∷ []) && is_settled to (Syncs to ∷ Syncs from ∷ [])) ≡ true
      both = and_from _ _ (or_right (to == from) _ (or_left (from == from) false (eq-eqb from from refl))) (or_left (to == to) _ (eq-eqb to to refl))

  -- a name that waits for no sync doesn't wait
  pub waits_none : (log : CallLog) → NameWaits log f name [] → is_pending f name log.changes ≡ false
  waits_none log h = subst (λ cs. is_pending f name cs ≡ false) (append-nil log.changes) h
