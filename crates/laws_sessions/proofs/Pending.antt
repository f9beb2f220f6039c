-- Which names wait for a sync after one call more, and where a name leads of which none does.
use Rattle.std.proofs.Common.{◌≡◌, ◌⊎◌, ℕ, Bool, true, false, not, ◌&&◌, ◌||◌, List, [], ◌∷◌, ◌++◌, length, refl, sym, ◌∙◌, ap, inl, inr, Option, Some, None, cond}
use Rattle.std.specs.Prelude.{is_some, is_none, ◌==◌}
use Rattle.std.proofs.lemmas.Bool.{false≢true, true≢false, and_parts, not-true, or_right}
use Rattle.tree_trait.specs.declared.file_system.FileSystem.{FileSystem}
use Rattle.tree_trait.specs.FileSystem.{lookup}
use Rattle.tree_trait.specs.Change.{Change, Nothing, Makes, Moves, Removes, Sets, Writes, Syncs, after_change, after_changes, CallLog, current}
use Rattle.tree_trait.specs.CrashImages.{all_settled, is_unsynced, same_name, says, may_lead}
use Rattle.tree_trait.proofs.Finding.{same_name-self}
use Rattle.tree_trait.proofs.Settled.{is_unsynced-more}
use Rattle.laws_crash.specs.Possible.{MayLead}
use Rattle.laws_crash.proofs.Syncing.{only_one}
use Rattle.laws_sessions.specs.Doubt.{is_pending}

-- whether a change touches a name doesn't hang on how many nodes there are
touches : (b : Bool) (x y : Option ℕ) → is_some (let o : Option (Option ℕ) = cond b (Some x) None in o) ≡ not (is_none (let o : Option (Option ℕ) = cond b (Some y) None in o))
touches true x y = refl
touches false x y = refl

touches_two : (a b : Bool) (x y : Option ℕ) → is_some (let o : Option (Option ℕ) = cond a (Some x) (cond b (Some y) None) in o) ≡ not (is_none (let o : Option (Option ℕ) = cond a (Some x) (cond b (Some y) None) in o))
touches_two true b x y = refl
touches_two false b x y = touches b y y

pub says_any : (c : Change) (n g : ℕ) (m : List ℕ) → is_some (says c 0 g m) ≡ not (is_none (says c n g m))
says_any Nothing n g m = refl
says_any (Makes f name made) n g m = touches (same_name f name g m) (Some 0) (Some n)
says_any (Moves f old h new i replaced) n g m = touches_two (same_name h new g m) (same_name f old g m) (Some i) None
says_any (Removes f name i) n g m = touches (same_name f name g m) None None
says_any (Sets i mode) n g m = refl
says_any (Writes i bytes mtime) n g m = refl
says_any (Syncs i) n g m = refl

none_some : (o : Option (Option ℕ)) → not (is_none o) ≡ is_some o
none_some None = refl
none_some (Some x) = refl

-- the same, with so many nodes as there are
pub says_at : (c : Change) (n g : ℕ) (m : List ℕ) → is_some (says c 0 g m) ≡ is_some (says c n g m)
says_at c n g m = says_any c n g m ∙ none_some (says c n g m)

none_had : (untouched waits later some : Bool) (x : List (Option ℕ)) → some ≡ not untouched → ((some && waits) || later) ≡ false → (cond untouched [] (cond waits x []) ≡ []) × (later ≡ false)
none_had true waits later true x e h = absurd (true≢false e)
none_had true waits later false x e h = (refl, h)
none_had false true later true x e h = absurd (true≢false h)
none_had false false later true x e h = (refl, h)
none_had false waits later false x e h = absurd (false≢true e)

steady : (s : FileSystem) (cs : List Change) (f : ℕ) (m : List ℕ) → is_pending f m cs ≡ false → may_lead f m [] s cs ≡ lookup (after_changes s cs).names f m ∷ []
steady s [] f m h = refl
steady s (c ∷ cs) f m h =
    let n = none_had (is_none (says c (length s.nodes) f m)) (is_unsynced c cs) (is_pending f m cs) (is_some (says c 0 f m)) (lookup s.names f m ∷ []) (says_any c (length s.nodes) f m) h in
    ap (λ had. may_lead f m had (after_change s c) cs) n.0 ∙ steady (after_change s c) cs f m n.1

-- a name of which nothing waits may lead only where it leads
pub leads_only : (log : CallLog) (f : ℕ) (m : List ℕ) (x : Option ℕ) → is_pending f m log.changes ≡ false → MayLead log f m x → x ≡ lookup (current log).names f m
leads_only log f m x h lead = only_one _ _ _ (steady log.opening log.changes f m h) lead

-- what waits after one call more waited before, or the call's change is of it
pub pending_less : (f : ℕ) (m : List ℕ) (cs : List Change) (c : Change) → is_pending f m (cs ++ c ∷ []) ≡ true → (is_pending f m cs ≡ true) ⊎ (is_some (says c 0 f m) ≡ true)
pending_less f m [] c h = inr (own (is_some (says c 0 f m)) (is_unsynced c []) h)
  where
    own : (s u : Bool) → ((s && u) || false) ≡ true → s ≡ true
    own true u h = refl
    own false u h = absurd (false≢true h)
pending_less f m (d ∷ cs) c h =
    either (is_some (says d 0 f m)) (is_unsynced d (cs ++ c ∷ [])) (is_unsynced d cs) (is_pending f m (cs ++ c ∷ [])) (is_pending f m cs) (is_some (says c 0 f m)) (is_unsynced-more d cs (c ∷ [])) h
    (pending_less f m cs c)
  where
    either : (s u v p q r : Bool) → (v ≡ false → u ≡ false) → ((s && u) || p) ≡ true → (p ≡ true → (q ≡ true) ⊎ (r ≡ true)) → (((s && v) || q) ≡ true) ⊎ (r ≡ true)
    either true true true p q r more h next = inl refl
    either true true false p q r more h next = absurd (true≢false (more refl))
    either true false v p q r more h next = elim (next h) [ inl old ↦ inl (or_right v q old) | inr new ↦ inr new ]
    either false u v p q r more h next = next h

pub some_first : (a b : Bool) (x y : Option ℕ) → a ≡ true → is_some (let o : Option (Option ℕ) = cond a (Some x) (cond b (Some y) None) in o) ≡ true
some_first true b x y h = refl
some_first false b x y h = absurd (false≢true h)

-- a renaming stays within its folder
abbrev pub is_within : Change → Bool
is_within (Moves a old b new i r) = a == b
is_within Nothing = true
is_within (Makes f name made) = true
is_within (Removes f name i) = true
is_within (Sets i mode) = true
is_within (Writes i bytes mtime) = true
is_within (Syncs i) = true

-- so it is of a change that names nothing
pub quiet_within : (c : Change) → ((n g : ℕ) (m : List ℕ) → says c n g m ≡ None) → is_within c ≡ true
quiet_within (Moves a old b new i r) none = absurd (false≢true (sym (ap is_some (none 0 b new)) ∙ some_first (same_name b new b new) (same_name a old b new) (Some i) None (same_name-self b new)))
quiet_within Nothing none = refl
quiet_within (Makes f name made) none = refl
quiet_within (Removes f name i) none = refl
quiet_within (Sets i mode) none = refl
quiet_within (Writes i bytes mtime) none = refl
quiet_within (Syncs i) none = refl

pub unless : (s u p : Bool) → (s ≡ true → u ≡ false) → p ≡ false → ((s && u) || p) ≡ false
unless true u p f h = ap (λ b. b || p) (f refl) ∙ h
unless false u p f h = h

pub one_said : (b : Bool) (to : Option ℕ) → is_some (let o : Option (Option ℕ) = cond b (Some to) None in o) ≡ true → b ≡ true
one_said true to h = refl
one_said false to h = absurd (false≢true h)

pub two_said : (a b : Bool) (x y : Option ℕ) → is_some (let o : Option (Option ℕ) = cond a (Some x) (cond b (Some y) None) in o) ≡ true → (a ≡ true) ⊎ (b ≡ true)
two_said true b x y h = inl refl
two_said false b x y h = inr (one_said b y h)

-- nothing of any name waits where nothing does
pub pending_settled : (f : ℕ) (m : List ℕ) (cs : List Change) → all_settled cs ≡ true → is_pending f m cs ≡ false
pending_settled f m [] h = refl
pending_settled f m (c ∷ cs) h =
    unless (is_some (says c 0 f m)) (is_unsynced c cs) (is_pending f m cs) (λ s. not-true _ (and_parts _ _ h).0) (pending_settled f m cs (and_parts _ _ h).1)
