-- Folders of which a name was changed after their last sync, and pairs of folders for both of which a renaming waits: after one call more.
use Rattle.std.proofs.Common.{◌≡◌, ◌⊎◌, ℕ, Bool, true, false, not, ◌&&◌, ◌||◌, List, [], ◌∷◌, ◌++◌, refl, sym, ◌∙◌, ap, subst, inl, inr, Some}
use Rattle.std.specs.Prelude.{◌==◌}
use Rattle.std.proofs.lemmas.Bool.{false≢true, true≢false, and_parts, and_from, both_ways, eq-eqb, eqb-true, false_from_ne_true, not-true, or_cases, or_left, or_right}
use Rattle.mc_text.specs.Routes.{Route}
use Rattle.tree_trait.specs.FileSystem.{find}
use Rattle.tree_trait.specs.Change.{Change, Nothing, Makes, Moves, Removes, Sets, Writes, Syncs, CallLog, current}
use Rattle.tree_trait.specs.CrashImages.{is_settled, is_unsynced}
use Rattle.tree_trait.proofs.Settled.{is_settled-more, is_unsynced-more, not_follows}
use Rattle.tree_trait.proofs.Synced.{is_settled-end}
use Rattle.laws_sessions.specs.Doubt.{is_joint, joins}
use Rattle.laws_sessions.proofs.Pending.{is_within, unless}

-- the change is of a name of this folder
abbrev pub names_in : ℕ → Change → Bool
names_in f Nothing = false
names_in f (Makes g name made) = g == f
names_in f (Moves a old b new i r) = (a == f) || (b == f)
names_in f (Removes g name i) = g == f
names_in f (Sets i mode) = false
names_in f (Writes i bytes time) = false
names_in f (Syncs i) = false

-- names of this folder were changed after its last sync
abbrev pub is_restless : ℕ → List Change → Bool
is_restless f [] = false
is_restless f (c ∷ later) = (names_in f c && not (is_settled f later)) || is_restless f later

-- no renaming waits for the folder at this path and another one
abbrev pub IsUnjoined : CallLog → Route → Type 0
IsUnjoined log p = (f g : ℕ) → find (current log) p ≡ Some f → is_joint f g log.changes ≡ false

less : (s u v p q : Bool) (New : Type 0) → (v ≡ false → u ≡ false) → ((s && u) || p) ≡ true → (p ≡ true → (q ≡ true) ⊎ New) → (((s && v) || q) ≡ true) ⊎ New
less true true true p q New more h next = inl refl
less true true false p q New more h next = absurd (true≢false (more refl))
less true false v p q New more h next = elim (next h) [ inl old ↦ inl (or_right v q old) | inr new ↦ inr new ]
less false u v p q New more h next = next h

alone : (s u : Bool) → ((s && u) || false) ≡ true → s ≡ true
alone true u h = refl
alone false u h = absurd (false≢true h)

-- after one call more a folder is so that was before, or the call changes a name of it
pub restless_less : (f : ℕ) (cs : List Change) (c : Change) → is_restless f (cs ++ c ∷ []) ≡ true → (is_restless f cs ≡ true) ⊎ (names_in f c ≡ true)
restless_less f [] c h = inr (alone (names_in f c) true h)
restless_less f (d ∷ cs) c h =
    less (names_in f d) (not (is_settled f (cs ++ c ∷ []))) (not (is_settled f cs)) (is_restless f (cs ++ c ∷ [])) (is_restless f cs) (names_in f c ≡ true) (not_follows _ _ (is_settled-more f cs (c ∷ []))) h (restless_less f cs c)

pub joint_less : (f g : ℕ) (cs : List Change) (c : Change) → is_joint f g (cs ++ c ∷ []) ≡ true → (is_joint f g cs ≡ true) ⊎ (joins f g c ≡ true)
joint_less f g [] c h = inr (alone (joins f g c) (is_unsynced c []) h)
joint_less f g (d ∷ cs) c h =
    less (joins f g d) (is_unsynced d (cs ++ c ∷ [])) (is_unsynced d cs) (is_joint f g (cs ++ c ∷ [])) (is_joint f g cs) (joins f g c ≡ true) (is_unsynced-more d cs (c ∷ [])) h (joint_less f g cs c)

-- a folder that was just synced is at rest
pub restless_synced : (f : ℕ) (cs : List Change) → is_restless f (cs ++ Syncs f ∷ []) ≡ false
restless_synced f [] = refl
restless_synced f (c ∷ cs) = unless (names_in f c) (not (is_settled f (cs ++ Syncs f ∷ []))) (is_restless f (cs ++ Syncs f ∷ [])) (λ s. ap not (is_settled-end f cs)) (restless_synced f cs)

-- what the two have to do with each other
pub others : (f g : ℕ) → (f == g) ≡ false → (g == f) ≡ false
others f g h = false_from_ne_true _ (λ same. both_ways _ h (eq-eqb f g (sym (eqb-true g f same))))

pub not_both : (x y : Bool) → not (x && y) ≡ true → (not x ≡ true) ⊎ (not y ≡ true)
not_both true y h = inr h
not_both false y h = inl refl

-- the change is of names of both, and waits for one of them if it waits
pub named_both : (f g : ℕ) (c : Change) → joins f g c ≡ true → (names_in f c ≡ true) × (names_in g c ≡ true)
named_both f g Nothing h = absurd (false≢true h)
named_both f g (Makes k name made) h = absurd (false≢true h)
named_both f g (Moves a old b new i r) h =
    elim (or_cases ((a == f) && (b == g)) ((a == g) && (b == f)) (and_parts (not (f == g)) (((a == f) && (b == g)) || ((a == g) && (b == f))) h).1) [
      | inl x ↦ (let q = and_parts (a == f) (b == g) x in (or_left (a == f) (b == f) q.0, or_right (a == g) (b == g) q.1))
      | inr x ↦ (let q = and_parts (a == g) (b == f) x in (or_right (a == f) (b == f) q.1, or_left (a == g) (b == g) q.0))
    ]
named_both f g (Removes k name i) h = absurd (false≢true h)
named_both f g (Sets i mode) h = absurd (false≢true h)
named_both f g (Writes i bytes time) h = absurd (false≢true h)
named_both f g (Syncs i) h = absurd (false≢true h)

pub settles : (a f : ℕ) (later : List Change) → (a == f) ≡ true → not (is_settled a later) ≡ true → not (is_settled f later) ≡ true
settles a f later same h = subst (λ j. not (is_settled j later) ≡ true) (eqb-true a f same) h

waits_one : (f g : ℕ) (c : Change) (later : List Change) → joins f g c ≡ true → is_unsynced c later ≡ true → (not (is_settled f later) ≡ true) ⊎ (not (is_settled g later) ≡ true)
waits_one f g Nothing later h waits = absurd (false≢true h)
waits_one f g (Makes k name made) later h waits = absurd (false≢true h)
waits_one f g (Moves a old b new i r) later h waits =
    elim (or_cases ((a == f) && (b == g)) ((a == g) && (b == f)) (and_parts (not (f == g)) (((a == f) && (b == g)) || ((a == g) && (b == f))) h).1) [
      | inl x ↦
          let q = and_parts (a == f) (b == g) x in
          elim (not_both (is_settled a later) (is_settled b later) waits) [ inl first ↦ inl (settles a f later q.0 first) | inr second ↦ inr (settles b g later q.1 second) ]
      | inr x ↦
          let q = and_parts (a == g) (b == f) x in
          elim (not_both (is_settled a later) (is_settled b later) waits) [ inl first ↦ inr (settles a g later q.0 first) | inr second ↦ inl (settles b f later q.1 second) ]
    ]
waits_one f g (Removes k name i) later h waits = absurd (false≢true h)
waits_one f g (Sets i mode) later h waits = absurd (false≢true h)
waits_one f g (Writes i bytes time) later h waits = absurd (false≢true h)
waits_one f g (Syncs i) later h waits = absurd (false≢true h)

-- so one of two folders for which a renaming waits is restless
pub joint_restless : (f g : ℕ) (cs : List Change) → is_joint f g cs ≡ true → (is_restless f cs ≡ true) ⊎ (is_restless g cs ≡ true)
joint_restless f g [] h = absurd (false≢true h)
joint_restless f g (c ∷ cs) h = elim (or_cases (joins f g c && is_unsynced c cs) (is_joint f g cs) h) [
  | inl now ↦
      let both = and_parts (joins f g c) (is_unsynced c cs) now in
      let named = named_both f g c both.0 in
      elim (waits_one f g c cs both.0 both.1) [
        | inl first ↦ inl (or_left (names_in f c && not (is_settled f cs)) (is_restless f cs) (and_from (names_in f c) (not (is_settled f cs)) named.0 first))
        | inr second ↦ inr (or_left (names_in g c && not (is_settled g cs)) (is_restless g cs) (and_from (names_in g c) (not (is_settled g cs)) named.1 second))
      ]
  | inr later ↦ elim (joint_restless f g cs later) [ inl first ↦ inl (or_right (names_in f c && not (is_settled f cs)) (is_restless f cs) first) | inr second ↦ inr (or_right (names_in g c && not (is_settled g cs)) (is_restless g cs) second) ]
]

joins_swap : (f g : ℕ) (c : Change) → joins f g c ≡ true → joins g f c ≡ true
joins_swap f g Nothing h = absurd (false≢true h)
joins_swap f g (Makes k name made) h = absurd (false≢true h)
joins_swap f g (Moves a old b new i r) h =
    let both = and_parts (not (f == g)) (((a == f) && (b == g)) || ((a == g) && (b == f))) h in
    and_from (not (g == f)) (((a == g) && (b == f)) || ((a == f) && (b == g))) (ap not (others f g (not-true (f == g) both.0)))
    (elim (or_cases ((a == f) && (b == g)) ((a == g) && (b == f)) both.1) [
      | inl x ↦ or_right ((a == g) && (b == f)) ((a == f) && (b == g)) x
      | inr x ↦ or_left ((a == g) && (b == f)) ((a == f) && (b == g)) x
    ])
joins_swap f g (Removes k name i) h = absurd (false≢true h)
joins_swap f g (Sets i mode) h = absurd (false≢true h)
joins_swap f g (Writes i bytes time) h = absurd (false≢true h)
joins_swap f g (Syncs i) h = absurd (false≢true h)

pub joint_swap : (f g : ℕ) (cs : List Change) → is_joint f g cs ≡ true → is_joint g f cs ≡ true
joint_swap f g [] h = absurd (false≢true h)
joint_swap f g (c ∷ cs) h = elim (or_cases (joins f g c && is_unsynced c cs) (is_joint f g cs) h) [
  | inl now ↦
      let both = and_parts (joins f g c) (is_unsynced c cs) now in
      or_left (joins g f c && is_unsynced c cs) (is_joint g f cs) (and_from (joins g f c) (is_unsynced c cs) (joins_swap f g c both.0) both.1)
  | inr later ↦ or_right (joins g f c && is_unsynced c cs) (is_joint g f cs) (joint_swap f g cs later)
]

-- a renaming that stays in its folder joins none
not_joined : (f g : ℕ) (c : Change) → is_within c ≡ true → joins f g c ≡ true → ⊥
not_joined f g Nothing one h = false≢true h
not_joined f g (Makes k name made) one h = false≢true h
not_joined f g (Moves a old b new i r) one h =
    let both = and_parts (not (f == g)) (((a == f) && (b == g)) || ((a == g) && (b == f))) h in
    let same = eqb-true a b one in
    let alike : f ≡ g = elim (or_cases ((a == f) && (b == g)) ((a == g) && (b == f)) both.1) [
      | inl x ↦ (let q = and_parts (a == f) (b == g) x in sym (eqb-true a f q.0) ∙ (same ∙ eqb-true b g q.1))
      | inr x ↦ (let q = and_parts (a == g) (b == f) x in sym (eqb-true b f q.1) ∙ (sym same ∙ eqb-true a g q.0))
    ] in
    both_ways _ (not-true (f == g) both.0) (eq-eqb f g alike)
not_joined f g (Removes k name i) one h = false≢true h
not_joined f g (Sets i mode) one h = false≢true h
not_joined f g (Writes i bytes time) one h = false≢true h
not_joined f g (Syncs i) one h = false≢true h

pub unjoined_within : (f g : ℕ) (c : Change) → is_within c ≡ true → joins f g c ≡ false
unjoined_within f g c one = false_from_ne_true _ (λ joined. not_joined f g c one joined)

-- so after it none waits for two folders that didn't before
pub joint_before : (f g : ℕ) (cs : List Change) (c : Change) → is_within c ≡ true → is_joint f g (cs ++ c ∷ []) ≡ true → is_joint f g cs ≡ true
joint_before f g cs c one h = elim (joint_less f g cs c h) [ inl old ↦ old | inr new ↦ absurd (not_joined f g c one new) ]
