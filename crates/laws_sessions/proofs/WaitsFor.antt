-- For which folders' syncs a name waits: its own, or another one's with which a renaming joins that.
use Rattle.std.proofs.Common.{◌≡◌, ◌⊎◌, ℕ, Bool, true, false, not, ◌&&◌, ◌||◌, List, [], ◌∷◌, ◌++◌, refl, ap, subst, inl, inr, Option, Some, None, cond}
use Rattle.std.specs.Prelude.{is_some, ◌==◌}
use Rattle.std.proofs.lemmas.Bool.{false≢true, true≢false, and_parts, and_from, both_ways, eq-eqb, eqb-true, false_from_ne_true, not-true, or_cases, or_left, or_right}
use Rattle.tree_trait.specs.Change.{Change, Nothing, Makes, Moves, Removes, Sets, Writes, Syncs}
use Rattle.tree_trait.specs.CrashImages.{all_settled, is_settled, is_unsynced, same_name, says}
use Rattle.tree_trait.proofs.Finding.{same_name-self}
use Rattle.laws_sessions.specs.Doubt.{is_pending, is_joint, joins}
use Rattle.laws_sessions.proofs.Pending.{one_said, some_first, two_said, unless}
use Rattle.laws_sessions.proofs.Restless.{is_restless, joint_before, named_both, names_in, not_both, others, restless_synced, settles}

both_so : (x y : Bool) → not (x && y) ≡ false → (not x ≡ false) × (not y ≡ false)
both_so true true h = (refl, refl)
both_so true false h = absurd (true≢false h)
both_so false y h = absurd (true≢false h)

some_second : (a b : Bool) (x y : Option ℕ) → b ≡ true → is_some (let o : Option (Option ℕ) = cond a (Some x) (cond b (Some y) None) in o) ≡ true
some_second true b x y h = refl
some_second false true x y h = refl
some_second false false x y h = absurd (false≢true h)

some_one : (a : Bool) (x : Option ℕ) → a ≡ true → is_some (let o : Option (Option ℕ) = cond a (Some x) None in o) ≡ true
some_one true x h = refl
some_one false x h = absurd (false≢true h)

own_name : (a f : ℕ) (name : List ℕ) → (a == f) ≡ true → same_name a name f name ≡ true
own_name a f name same = subst (λ j. same_name a name j name ≡ true) (eqb-true a f same) (same_name-self a name)

-- a name of the folder of which the change is
pub names_said : (f : ℕ) (c : Change) → names_in f c ≡ true → (m : List ℕ) × (is_some (says c 0 f m) ≡ true)
names_said f Nothing h = absurd (false≢true h)
names_said f (Makes g name made) h = (name, some_one (same_name g name f name) (Some 0) (own_name g f name h))
names_said f (Moves a old b new i r) h = elim (or_cases (a == f) (b == f) h) [
  | inl from ↦ (old, some_second (same_name b new f old) (same_name a old f old) (Some i) None (own_name a f old from))
  | inr to ↦ (new, some_first (same_name b new f new) (same_name a old f new) (Some i) None (own_name b f new to))
]
names_said f (Removes g name i) h = (name, some_one (same_name g name f name) None (own_name g f name h))
names_said f (Sets i mode) h = absurd (false≢true h)
names_said f (Writes i bytes time) h = absurd (false≢true h)
names_said f (Syncs i) h = absurd (false≢true h)

-- the change waits where its folder does
named_waits : (f : ℕ) (c : Change) (later : List Change) → names_in f c ≡ true → is_unsynced c later ≡ false → not (is_settled f later) ≡ false
named_waits f Nothing later h none = absurd (false≢true h)
named_waits f (Makes g name made) later h none = subst (λ j. not (is_settled j later) ≡ false) (eqb-true g f h) none
named_waits f (Moves a old b new i r) later h none =
    let both = both_so (is_settled a later) (is_settled b later) none in
    elim (or_cases (a == f) (b == f) h) [
      | inl from ↦ subst (λ j. not (is_settled j later) ≡ false) (eqb-true a f from) both.0
      | inr to ↦ subst (λ j. not (is_settled j later) ≡ false) (eqb-true b f to) both.1
    ]
named_waits f (Removes g name i) later h none = subst (λ j. not (is_settled j later) ≡ false) (eqb-true g f h) none
named_waits f (Sets i mode) later h none = absurd (false≢true h)
named_waits f (Writes i bytes time) later h none = absurd (false≢true h)
named_waits f (Syncs i) later h none = absurd (false≢true h)

waits_or : (b : Bool) (f : ℕ) (c : Change) (later : List Change) → is_unsynced c later ≡ b → names_in f c ≡ true → not (is_settled f later) ≡ true → b ≡ true
waits_or true f c later is h waits = refl
waits_or false f c later is h waits = absurd (both_ways _ (named_waits f c later h is) waits)

-- of a restless folder a name waits, and so of one for which and another one a renaming does
pub restless_pending : (f : ℕ) (cs : List Change) → is_restless f cs ≡ true → (m : List ℕ) × (is_pending f m cs ≡ true)
restless_pending f [] h = absurd (false≢true h)
restless_pending f (c ∷ cs) h = elim (or_cases (names_in f c && not (is_settled f cs)) (is_restless f cs) h) [
  | inl now ↦
      let both = and_parts (names_in f c) (not (is_settled f cs)) now in
      let said = names_said f c both.0 in
      (said.0, or_left (is_some (says c 0 f said.0) && is_unsynced c cs) (is_pending f said.0 cs) (and_from (is_some (says c 0 f said.0)) (is_unsynced c cs) said.1 (waits_or (is_unsynced c cs) f c cs refl both.0 both.1)))
  | inr later ↦ (let p = restless_pending f cs later in (p.0, or_right (is_some (says c 0 f p.0) && is_unsynced c cs) (is_pending f p.0 cs) p.1))
]

pub joint_pending : (f g : ℕ) (cs : List Change) → is_joint f g cs ≡ true → (m : List ℕ) × (is_pending f m cs ≡ true)
joint_pending f g [] h = absurd (false≢true h)
joint_pending f g (c ∷ cs) h = elim (or_cases (joins f g c && is_unsynced c cs) (is_joint f g cs) h) [
  | inl now ↦
      let both = and_parts (joins f g c) (is_unsynced c cs) now in
      let said = names_said f c (named_both f g c both.0).0 in
      (said.0, or_left (is_some (says c 0 f said.0) && is_unsynced c cs) (is_pending f said.0 cs) (and_from (is_some (says c 0 f said.0)) (is_unsynced c cs) said.1 both.1))
  | inr later ↦ (let p = joint_pending f g cs later in (p.0, or_right (is_some (says c 0 f p.0) && is_unsynced c cs) (is_pending f p.0 cs) p.1))
]

-- A name waits of a folder that is restless, or of one for which and a restless one a renaming waits.
abbrev pub WaitsFor : ℕ → List Change → Type 0
WaitsFor f cs = (is_restless f cs ≡ true) ⊎ ((g : ℕ) × (is_joint f g cs ≡ true) × (is_restless g cs ≡ true))

restless_now : (f : ℕ) (c : Change) (cs : List Change) → names_in f c ≡ true → not (is_settled f cs) ≡ true → is_restless f (c ∷ cs) ≡ true
restless_now f c cs named waits = or_left (names_in f c && not (is_settled f cs)) (is_restless f cs) (and_from (names_in f c) (not (is_settled f cs)) named waits)

joint_now : (f g : ℕ) (c : Change) (cs : List Change) → joins f g c ≡ true → is_unsynced c cs ≡ true → is_joint f g (c ∷ cs) ≡ true
joint_now f g c cs joined waits = or_left (joins f g c && is_unsynced c cs) (is_joint f g cs) (and_from (joins f g c) (is_unsynced c cs) joined waits)

module _ (f : ℕ) (a : ℕ) (old : List ℕ) (b : ℕ) (new : List ℕ) (i : ℕ) (r : Option ℕ) (cs : List Change) (waits : is_unsynced (Moves a old b new i r) cs ≡ true) where
  abbrev moves : Change
  moves = Moves a old b new i r

  from_here : (a == f) ≡ true → (x : Bool) → (b == f) ≡ x → (not (is_settled a cs) ≡ true) ⊎ (not (is_settled b cs) ≡ true) → WaitsFor f (moves ∷ cs)
  from_here here x is (inl first) = inl (restless_now f moves cs (or_left (a == f) (b == f) here) (settles a f cs here first))
  from_here here true is (inr second) = inl (restless_now f moves cs (or_right (a == f) (b == f) is) (settles b f cs is second))
  from_here here false is (inr second) = inr (
    b,
    joint_now f b moves cs (and_from (not (f == b)) (((a == f) && (b == b)) || ((a == b) && (b == f))) (ap not (others b f is)) (or_left ((a == f) && (b == b)) ((a == b) && (b == f)) (and_from (a == f) (b == b) here (eq-eqb b b refl)))) waits,
    restless_now b moves cs (or_right (a == b) (b == b) (eq-eqb b b refl)) second,
  )

  to_here : (b == f) ≡ true → (x : Bool) → (a == f) ≡ x → (not (is_settled a cs) ≡ true) ⊎ (not (is_settled b cs) ≡ true) → WaitsFor f (moves ∷ cs)
  to_here here x is (inr second) = inl (restless_now f moves cs (or_right (a == f) (b == f) here) (settles b f cs here second))
  to_here here true is (inl first) = inl (restless_now f moves cs (or_left (a == f) (b == f) is) (settles a f cs is first))
  to_here here false is (inl first) = inr (
    a,
    joint_now f a moves cs (and_from (not (f == a)) (((a == f) && (b == a)) || ((a == a) && (b == f))) (ap not (others a f is)) (or_right ((a == f) && (b == a)) ((a == a) && (b == f)) (and_from (a == a) (b == f) (eq-eqb a a refl) here))) waits,
    restless_now a moves cs (or_left (a == a) (b == a) (eq-eqb a a refl)) first,
  )

waits_now : (f : ℕ) (m : List ℕ) (c : Change) (cs : List Change) → is_some (says c 0 f m) ≡ true → is_unsynced c cs ≡ true → WaitsFor f (c ∷ cs)
waits_now f m Nothing cs said waits = absurd (false≢true said)
waits_now f m (Makes g name made) cs said waits =
    let here = (and_parts (g == f) _ (one_said (same_name g name f m) (Some 0) said)).0 in inl (restless_now f (Makes g name made) cs here (settles g f cs here waits))
waits_now f m (Moves a old b new i r) cs said waits = elim (two_said (same_name b new f m) (same_name a old f m) (Some i) None said) [
  | inl to ↦ to_here f a old b new i r cs waits (and_parts (b == f) _ to).0 (a == f) refl (not_both (is_settled a cs) (is_settled b cs) waits)
  | inr from ↦ from_here f a old b new i r cs waits (and_parts (a == f) _ from).0 (b == f) refl (not_both (is_settled a cs) (is_settled b cs) waits)
]
waits_now f m (Removes g name i) cs said waits =
    let here = (and_parts (g == f) _ (one_said (same_name g name f m) None said)).0 in inl (restless_now f (Removes g name i) cs here (settles g f cs here waits))
waits_now f m (Sets i mode) cs said waits = absurd (false≢true said)
waits_now f m (Writes i bytes time) cs said waits = absurd (false≢true said)
waits_now f m (Syncs i) cs said waits = absurd (false≢true said)

pub waits_for : (f : ℕ) (m : List ℕ) (cs : List Change) → is_pending f m cs ≡ true → WaitsFor f cs
waits_for f m [] h = absurd (false≢true h)
waits_for f m (c ∷ cs) h = elim (or_cases (is_some (says c 0 f m) && is_unsynced c cs) (is_pending f m cs) h) [
  | inl now ↦ (let both = and_parts (is_some (says c 0 f m)) (is_unsynced c cs) now in waits_now f m c cs both.0 both.1)
  | inr later ↦ elim (waits_for f m cs later) [
    | inl own ↦ inl (or_right (names_in f c && not (is_settled f cs)) (is_restless f cs) own)
    | inr other ↦ inr (other.0, or_right (joins f other.0 c && is_unsynced c cs) (is_joint f other.0 cs) other.1, or_right (names_in other.0 c && not (is_settled other.0 cs)) (is_restless other.0 cs) other.2)
  ]
]

-- So after a sync of its folder nothing of a name waits, where no renaming waits for that folder and another one.
pub pending_synced : (f : ℕ) (m : List ℕ) (cs : List Change) → ((g : ℕ) → is_joint f g cs ≡ false) → is_pending f m (cs ++ Syncs f ∷ []) ≡ false
pending_synced f m cs apart = false_from_ne_true _ (λ waits. elim (waits_for f m (cs ++ Syncs f ∷ []) waits) [
  | inl own ↦ both_ways _ (restless_synced f cs) own
  | inr other ↦ both_ways _ (apart other.0) (joint_before f other.0 cs (Syncs f) refl other.1)
])

-- where nothing waits each folder is at rest
pub restless_settled : (f : ℕ) (cs : List Change) → all_settled cs ≡ true → is_restless f cs ≡ false
restless_settled f [] h = refl
restless_settled f (c ∷ cs) h =
    let both = and_parts (not (is_unsynced c cs)) (all_settled cs) h in
    unless (names_in f c) (not (is_settled f cs)) (is_restless f cs) (λ named. named_waits f c cs named (not-true (is_unsynced c cs) both.0)) (restless_settled f cs both.1)

-- and no renaming waits
pub joint_settled : (f g : ℕ) (cs : List Change) → all_settled cs ≡ true → is_joint f g cs ≡ false
joint_settled f g [] h = refl
joint_settled f g (c ∷ cs) h =
    let both = and_parts (not (is_unsynced c cs)) (all_settled cs) h in unless (joins f g c) (is_unsynced c cs) (is_joint f g cs) (λ joined. not-true (is_unsynced c cs) both.0) (joint_settled f g cs both.1)
