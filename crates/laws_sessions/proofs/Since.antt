-- Which names were changed after so many calls, where the change waits still; and what was altered after them.
use Rattle.std.proofs.Common.{◌≡◌, ◌⊎◌, ℕ, ◌≤◌, suc, zero, Bool, true, false, ◌&&◌, List, [], ◌∷◌, ◌++◌, length, refl, sym, ◌∙◌, ap, inl, inr, Option, Some, None, arith, drop}
use Rattle.std.specs.Prelude.{is_some, not, ◌==◌}
use Rattle.std.specs.Option.{option_map_or}
use Rattle.std.proofs.lemmas.Bool.{false≢true, and_from, and_parts, or_left, or_right}
use Rattle.mc_text.specs.Routes.{Route}
use Rattle.tree_trait.specs.FileSystem.{find}
use Rattle.tree_trait.specs.Change.{Change, Nothing, Makes, Moves, Removes, Sets, Writes, Syncs, CallLog, current}
use Rattle.tree_trait.specs.CrashImages.{alters, is_clean, is_unsynced, says}
use Rattle.laws_crash.proofs.Leading.{clean_more}
use Rattle.laws_sessions.specs.Doubt.{is_pending, name_waits}
use Rattle.laws_sessions.proofs.Pending.{pending_less}

-- a change of the path's name waits that was made after so many calls
abbrev pub renamed_since : ℕ → CallLog → Route → Bool
renamed_since n log [] = false
renamed_since n log (name ∷ folder) = option_map_or (λ f. is_pending f name (drop n log.changes)) (find (current log) folder) false

-- what stands at the path was altered after so many calls, and waits for its own sync
abbrev pub altered_since : ℕ → CallLog → Route → Bool
altered_since n log path = option_map_or (λ i. not (is_clean i (drop n log.changes))) (find (current log) path) false

-- from the first call on that is each change that waits
pub since_first : (log : CallLog) (path : Route) → renamed_since 0 log path ≡ name_waits log path
since_first log [] = refl
since_first log (name ∷ folder) = refl

drop_none : (n : ℕ) → drop n (let cs : List Change = [] in cs) ≡ []
drop_none zero = refl
drop_none (suc n) = refl

-- what waits of those calls waits of all
pub pending_all : (n f : ℕ) (m : List ℕ) (cs : List Change) → is_pending f m (drop n cs) ≡ true → is_pending f m cs ≡ true
pending_all zero f m cs h = h
pending_all (suc n) f m [] h = h
pending_all (suc n) f m (c ∷ cs) h = or_right _ _ (pending_all n f m cs h)

none_pending : {A : Type 0} (n f : ℕ) (m : List ℕ) → is_pending f m (drop n (let cs : List Change = [] in cs)) ≡ true → A
none_pending n f m h = absurd (false≢true (sym (ap (is_pending f m) (drop_none n)) ∙ h))

-- what waits after one call more waited before, or the call's change is of it
pub pending_since : (n f : ℕ) (m : List ℕ) (cs : List Change) (c : Change) → is_pending f m (drop n (cs ++ c ∷ [])) ≡ true → (is_pending f m (drop n cs) ≡ true) ⊎ (is_some (says c 0 f m) ≡ true)
pending_since zero f m cs c h = pending_less f m cs c h
pending_since (suc n) f m [] c h = none_pending n f m h
pending_since (suc n) f m (d ∷ cs) c h = pending_since n f m cs c h

-- a call that doesn't alter a node leaves it clean since then
pub clean_since : (n i : ℕ) (cs : List Change) (c : Change) → alters i c ≡ false → is_clean i (drop n cs) ≡ true → is_clean i (drop n (cs ++ c ∷ [])) ≡ true
clean_since zero i cs c still clean = clean_more i cs c still clean
clean_since (suc n) i [] c still clean = ap (is_clean i) (drop_none n)
clean_since (suc n) i (d ∷ cs) c still clean = clean_since n i cs c still clean

-- a call's change of a name waits behind it
waits_at_once : (c : Change) (f : ℕ) (m : List ℕ) → is_some (says c 0 f m) ≡ true → is_unsynced c [] ≡ true
waits_at_once Nothing f m h = absurd (false≢true h)
waits_at_once (Makes g name made) f m h = refl
waits_at_once (Moves g old k new i r) f m h = refl
waits_at_once (Removes g name i) f m h = refl
waits_at_once (Sets i mode) f m h = absurd (false≢true h)
waits_at_once (Writes i bytes time) f m h = absurd (false≢true h)
waits_at_once (Syncs i) f m h = absurd (false≢true h)

pending_now : (f : ℕ) (m : List ℕ) (cs : List Change) (c : Change) → is_some (says c 0 f m) ≡ true → is_pending f m (cs ++ c ∷ []) ≡ true
pending_now f m [] c h = or_left _ _ (and_from _ _ h (waits_at_once c f m h))
pending_now f m (d ∷ cs) c h = or_right _ _ (pending_now f m cs c h)

-- so it is one of those after so many calls
pub pending_last : (n f : ℕ) (m : List ℕ) (cs : List Change) (c : Change) → n ≤ length cs → is_some (says c 0 f m) ≡ true → is_pending f m (drop n (cs ++ c ∷ [])) ≡ true
pending_last zero f m cs c few h = pending_now f m cs c h
pending_last (suc n) f m [] c few h = absurd (omega (arith, few))
pending_last (suc n) f m (d ∷ cs) c few h = pending_last n f m cs c (omega (arith, few)) h

altered_unless : (b : Bool) → (not (b && true) && true) ≡ true → b ≡ false
altered_unless true h = absurd (false≢true h)
altered_unless false h = refl

unaltered_alone : (i : ℕ) (c : Change) → is_clean i (c ∷ []) ≡ true → alters i c ≡ false
unaltered_alone i Nothing h = refl
unaltered_alone i (Makes g name made) h = refl
unaltered_alone i (Moves g old k new j r) h = refl
unaltered_alone i (Removes g name j) h = refl
unaltered_alone i (Sets j mode) h = altered_unless (j == i) h
unaltered_alone i (Writes j bytes time) h = altered_unless (j == i) h
unaltered_alone i (Syncs j) h = refl

-- what is clean since then the last call didn't alter
pub unaltered_last : (n i : ℕ) (cs : List Change) (c : Change) → n ≤ length cs → is_clean i (drop n (cs ++ c ∷ [])) ≡ true → alters i c ≡ false
unaltered_last zero i [] c few clean = unaltered_alone i c clean
unaltered_last zero i (d ∷ cs) c few clean = unaltered_last zero i cs c (omega arith) (and_parts _ _ clean).1
unaltered_last (suc n) i [] c few clean = absurd (omega (arith, few))
unaltered_last (suc n) i (d ∷ cs) c few clean = unaltered_last n i cs c (omega (arith, few)) clean

drop_past : (cs : List Change) → drop (length cs) cs ≡ []
drop_past [] = refl
drop_past (c ∷ cs) = drop_past cs

-- after all calls none was made
pub none_renamed : (log : CallLog) (path : Route) → renamed_since (length log.changes) log path ≡ false
none_renamed log [] = refl
none_renamed log (name ∷ folder) = by (find (current log) folder)
  where
    by : (o : Option ℕ) → option_map_or (λ f. is_pending f name (drop (length log.changes) log.changes)) o false ≡ false
    by None = refl
    by (Some f) = ap (is_pending f name) (drop_past log.changes)

pub none_altered : (log : CallLog) (path : Route) → altered_since (length log.changes) log path ≡ false
none_altered log path = by (find (current log) path)
  where
    by : (o : Option ℕ) → option_map_or (λ i. not (is_clean i (drop (length log.changes) log.changes))) o false ≡ false
    by None = refl
    by (Some i) = ap (λ cs. not (is_clean i cs)) (drop_past log.changes)
