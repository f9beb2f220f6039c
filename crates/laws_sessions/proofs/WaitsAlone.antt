-- What waits of a name waits for the sync of its own folder alone: no renaming between that folder and another one does.
use Rattle.std.proofs.Common.{◌≡◌, ◌⊎◌, ℕ, Bool, true, false, List, [], ◌∷◌, ◌++◌, refl, sym, ◌∙◌, ap, subst, inl, inr, Some, None, length}
use Rattle.std.specs.Prelude.{◌==◌, ◌||◌, ◌&&◌, not, is_some}
use Rattle.std.specs.Option.{option_map_or}
use Rattle.std.proofs.lemmas.Bool.{and_from, and_parts, both_ways, eq-eqb, eqb-true, false≢true, not_from_true, or_cases, or_left, or_right, true≢false}
use Rattle.mc_text.specs.Routes.{Route}
use Rattle.tree_trait.specs.FileSystem.{find, node}
use Rattle.tree_trait.specs.Refusals.{is_folder}
use Rattle.tree_trait.specs.Change.{Change, Nothing, Makes, Moves, Removes, Sets, Writes, Syncs, CallLog, current, with_change}
use Rattle.tree_trait.specs.CrashImages.{is_settled, is_unsynced, same_name, says}
use Rattle.tree_trait.proofs.Settled.{and_follows, or_follows}
use Rattle.laws_crash.proofs.Guarding.{same_quiet}
use Rattle.laws_sessions.specs.Doubt.{is_pending, name_waits}
use Rattle.laws_sessions.proofs.NameWaits.{NameWaits, waits_after, waits_calm, waits_still}
use Rattle.laws_sessions.proofs.Pending.{is_within, one_said, two_said, unless}
use Rattle.laws_sessions.proofs.Resting.{IsOfFiles}
use Rattle.laws_sessions.proofs.Restless.{IsUnjoined, is_restless, names_in}
use Rattle.laws_sessions.proofs.WaitsFor.{pending_synced}

abbrev pub WaitsAlone : CallLog → Route → Type 0
WaitsAlone log [] = Unit {0}
WaitsAlone log (name ∷ up) = (f : ℕ) → find (current log) up ≡ Some f → NameWaits log f name (f ∷ [])

-- so it is of a name that waits for nothing
pub alone_calm : (log : CallLog) (p : Route) → name_waits log p ≡ false → WaitsAlone log p
alone_calm log [] none = tt
alone_calm log (name ∷ up) none = λ f at. waits_calm f name log (sym (ap (λ o. option_map_or (λ g. is_pending g name log.changes) o false) at) ∙ none)

-- and of each name in a folder for which and another one no renaming waits
pub alone_unjoined : (log : CallLog) (name : List ℕ) (up : Route) → IsUnjoined log up → WaitsAlone log (name ∷ up)
alone_unjoined log name up apart f at = pending_synced f name log.changes (λ g. apart f g at)

settled_self : (g f : ℕ) → (g == f) ≡ true → is_settled g (Syncs f ∷ []) ≡ true
settled_self g f same = or_left (f == g) false (eq-eqb f g (sym (eqb-true g f same)))

-- a change within a folder waits for no sync but that folder's
pub within_gone : (f : ℕ) (name : List ℕ) (c : Change) → is_within c ≡ true → is_some (says c 0 f name) ≡ true → is_unsynced c (Syncs f ∷ []) ≡ false
within_gone f name Nothing one said = refl
within_gone f name (Makes g m made) one said = not_from_true _ (settled_self g f (and_parts (g == f) _ (one_said (same_name g m f name) (Some 0) said)).0)
within_gone f name (Moves a old b new i r) one said = not_from_true _ (both (elim (two_said (same_name b new f name) (same_name a old f name) (Some i) None said) [
  | inl to ↦ (and_parts (b == f) _ to).0
  | inr from ↦ subst (λ k. (k == f) ≡ true) (eqb-true a b one) (and_parts (a == f) _ from).0
]))
  where
    both : (b == f) ≡ true → (is_settled a (Syncs f ∷ []) && is_settled b (Syncs f ∷ [])) ≡ true
    both here = and_from _ _ (settled_self a f (subst (λ k. (k == f) ≡ true) (sym (eqb-true a b one)) here)) (settled_self b f here)
within_gone f name (Removes g m i) one said = not_from_true _ (settled_self g f (and_parts (g == f) _ (one_said (same_name g m f name) None said)).0)
within_gone f name (Sets i mode) one said = absurd (false≢true said)
within_gone f name (Writes i bytes time) one said = absurd (false≢true said)
within_gone f name (Syncs i) one said = refl

-- a call that changes no name leaves each name so
pub alone_quiet : (log : CallLog) (c : Change) → ((n g : ℕ) (m : List ℕ) → says c n g m ≡ None) → (p : Route) → WaitsAlone log p → WaitsAlone (with_change log c) p
alone_quiet log c none [] alone = tt
alone_quiet log c none (name ∷ up) alone = λ f at. waits_still f name log c (f ∷ []) (ap is_some (none 0 f name)) (alone f (sym (same_quiet log c (none (length (current log).nodes)) up) ∙ at))

-- A call that changes only names in one folder, or another name, leaves a name so, where its folder is found where it was.
pub alone_at : (log : CallLog) (c : Change) (files : IsOfFiles log) (name : List ℕ) (up : Route)
    → ((f : ℕ) → is_folder (node (current log) f) ≡ true → find (current (with_change log c)) up ≡ Some f → find (current log) up ≡ Some f)
    → ((f : ℕ) → find (current (with_change log c)) up ≡ Some f → (is_within c ≡ true) ⊎ (is_some (says c 0 f name) ≡ false))
    → WaitsAlone log (name ∷ up) → WaitsAlone (with_change log c) (name ∷ up)
alone_at log c files name up was one alone f at = by (is_folder (node (current log) f)) refl
  where
    gone : is_some (says c 0 f name) ≡ true → is_unsynced c (Syncs f ∷ []) ≡ false
    gone said = elim (one f at) [ inl within ↦ within_gone f name c within said | inr off ↦ absurd (both_ways _ off said) ]

    by : (b : Bool) → is_folder (node (current log) f) ≡ b → NameWaits (with_change log c) f name (f ∷ [])
    by true folder = waits_after f name log c (f ∷ []) gone (alone f (was f folder at))
    by false bare = waits_after f name log c (f ∷ []) gone (waits_calm f name log (files.bare f name bare))

module _ (log : CallLog) (c : Change) (files : IsOfFiles log)
    (was : (q : Route) (g : ℕ) → is_folder (node (current log) g) ≡ true → find (current (with_change log c)) q ≡ Some g → find (current log) q ≡ Some g) where
  pub alone_after : (p : Route)
      → ((name : List ℕ) (up : Route) (f : ℕ) → p ≡ name ∷ up → find (current (with_change log c)) up ≡ Some f → (is_within c ≡ true) ⊎ (is_some (says c 0 f name) ≡ false))
      → WaitsAlone log p → WaitsAlone (with_change log c) p
  alone_after [] one alone = tt
  alone_after (name ∷ up) one alone = alone_at log c files name up (was up) (λ f at. one name up f refl at) alone

  pub alone_still : is_within c ≡ true → (p : Route) → WaitsAlone log p → WaitsAlone (with_change log c) p
  alone_still one p alone = alone_after p (λ name up f is at. inl one) alone

neither : (a b : Bool) → (a || b) ≡ false → (a ≡ false) × (b ≡ false)
neither true b h = absurd (true≢false h)
neither false b h = (refl, h)

second_false : (a b : Bool) → (a && b) ≡ false → a ≡ true → b ≡ false
second_false true b h is = h
second_false false b h is = absurd (false≢true is)

of_not : (b : Bool) → not b ≡ false → b ≡ true
of_not true h = refl
of_not false h = absurd (true≢false h)

-- In a folder that is at rest nothing waits for its own sync.
module _ (f : ℕ) where
  -- what it names is on the disk
  at_rest : (c : Change) (cs : List Change) → is_restless f (c ∷ cs) ≡ false → names_in f c ≡ true → is_settled f cs ≡ true
  at_rest c cs rests named = of_not _ (second_false _ _ (neither (names_in f c && not (is_settled f cs)) (is_restless f cs) rests).0 named)

  later_rests : (c : Change) (cs : List Change) → is_restless f (c ∷ cs) ≡ false → is_restless f cs ≡ false
  later_rests c cs rests = (neither (names_in f c && not (is_settled f cs)) (is_restless f cs) rests).1

  its_own : (g : ℕ) (cs : List Change) (b : Bool) → (g == f) ≡ b → ((g == f) ≡ true → is_settled f cs ≡ true) → ((g == f) ≡ false → is_settled g cs ≡ true) → is_settled g cs ≡ true
  its_own g cs true same own other = subst (λ k. is_settled k cs ≡ true) (sym (eqb-true g f same)) (own same)
  its_own g cs false apart own other = other apart

  -- so another one is on the disk without that sync where it is with it
  settled_without : (x : ℕ) (cs : List Change) → is_restless f cs ≡ false → (x == f) ≡ false → is_settled x (cs ++ Syncs f ∷ []) ≡ true → is_settled x cs ≡ true
  settled_without x [] rests apart h = elim (or_cases (f == x) false h) [ inl here ↦ absurd (both_ways _ apart (eq-eqb x f (sym (eqb-true f x here)))) | inr none ↦ none ]
  settled_without x (Syncs j ∷ cs) rests apart h = or_follows _ _ _ _ (λ e. e) (settled_without x cs (later_rests (Syncs j) cs rests) apart) h
  settled_without x (Removes g name j ∷ cs) rests apart h =
      let later = later_rests (Removes g name j) cs rests in
      or_follows _ _ _ _ (and_follows _ _ _ _ (λ e. e) (λ settled. its_own g cs (g == f) refl (at_rest (Removes g name j) cs rests) (λ other. settled_without g cs later other settled)))
      (settled_without x cs later apart) h
  settled_without x (Moves a old b new i (Some j) ∷ cs) rests apart h =
      let later = later_rests (Moves a old b new i (Some j)) cs rests in
      let named = at_rest (Moves a old b new i (Some j)) cs rests in
      or_follows _ _ _ _
      (and_follows _ _ _ _ (λ e. e) (and_follows _ _ _ _
      (λ settled. its_own a cs (a == f) refl (λ same. named (or_left (a == f) (b == f) same)) (λ other. settled_without a cs later other settled))
      (λ settled. its_own b cs (b == f) refl (λ same. named (or_right (a == f) (b == f) same)) (λ other. settled_without b cs later other settled))))
      (settled_without x cs later apart) h
  settled_without x (Moves a old b new i None ∷ cs) rests apart h = settled_without x cs (later_rests (Moves a old b new i None) cs rests) apart h
  settled_without x (Nothing ∷ cs) rests apart h = settled_without x cs (later_rests Nothing cs rests) apart h
  settled_without x (Makes g name made ∷ cs) rests apart h = settled_without x cs (later_rests (Makes g name made) cs rests) apart h
  settled_without x (Sets i mode ∷ cs) rests apart h = settled_without x cs (later_rests (Sets i mode) cs rests) apart h
  settled_without x (Writes i bytes time ∷ cs) rests apart h = settled_without x cs (later_rests (Writes i bytes time) cs rests) apart h

  -- and a change of a name in it waits only where it does with that sync
  gone_without : (name : List ℕ) (c : Change) (cs : List Change) → is_restless f (c ∷ cs) ≡ false → is_some (says c 0 f name) ≡ true → is_unsynced c (cs ++ Syncs f ∷ []) ≡ false → is_unsynced c cs ≡ false
  gone_without name Nothing cs rests said h = refl
  gone_without name (Makes g m made) cs rests said h =
      let here = (and_parts (g == f) _ (one_said (same_name g m f name) (Some 0) said)).0 in
      not_from_true _ (subst (λ k. is_settled k cs ≡ true) (sym (eqb-true g f here)) (at_rest (Makes g m made) cs rests here))
  gone_without name (Moves a old b new i r) cs rests said h =
      let both = and_parts (is_settled a (cs ++ Syncs f ∷ [])) (is_settled b (cs ++ Syncs f ∷ [])) (of_not _ h) in
      let later = later_rests (Moves a old b new i r) cs rests in
      let named = at_rest (Moves a old b new i r) cs rests in
      not_from_true _ (and_from _ _
      (its_own a cs (a == f) refl (λ same. named (or_left (a == f) (b == f) same)) (λ other. settled_without a cs later other both.0))
      (its_own b cs (b == f) refl (λ same. named (or_right (a == f) (b == f) same)) (λ other. settled_without b cs later other both.1)))
  gone_without name (Removes g m i) cs rests said h =
      let here = (and_parts (g == f) _ (one_said (same_name g m f name) None said)).0 in
      not_from_true _ (subst (λ k. is_settled k cs ≡ true) (sym (eqb-true g f here)) (at_rest (Removes g m i) cs rests here))
  gone_without name (Sets i mode) cs rests said h = absurd (false≢true said)
  gone_without name (Writes i bytes time) cs rests said h = absurd (false≢true said)
  gone_without name (Syncs i) cs rests said h = refl

  rests_calm : (name : List ℕ) (cs : List Change) → is_restless f cs ≡ false → is_pending f name (cs ++ Syncs f ∷ []) ≡ false → is_pending f name cs ≡ false
  rests_calm name [] rests h = refl
  rests_calm name (c ∷ cs) rests h =
      let n = neither (is_some (says c 0 f name) && is_unsynced c (cs ++ Syncs f ∷ [])) (is_pending f name (cs ++ Syncs f ∷ [])) h in
      unless (is_some (says c 0 f name)) (is_unsynced c cs) (is_pending f name cs) (λ said. gone_without name c cs rests said (second_false _ _ n.0 said)) (rests_calm name cs (later_rests c cs rests) n.1)

-- So where such a name waits its folder isn't at rest.
pub alone_restless : (log : CallLog) (name : List ℕ) (up : Route) (f : ℕ) → WaitsAlone log (name ∷ up) → find (current log) up ≡ Some f → is_pending f name log.changes ≡ true → is_restless f log.changes ≡ true
alone_restless log name up f alone at waits = by (is_restless f log.changes) refl
  where
    by : (b : Bool) → is_restless f log.changes ≡ b → is_restless f log.changes ≡ true
    by true is = is
    by false is = absurd (both_ways _ (rests_calm f name log.changes is (alone f at)) waits)
