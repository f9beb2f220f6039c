-- The part's node, and what is known of the part, as it is written, given its mode and synced.
use Rattle.std.proofs.Common.{◌≡◌, ◌⊎◌, ℕ, ℤ, ◌<◌, zero, suc, Bool, true, false, not, ◌&&◌, List, [], ◌∷◌, ◌++◌, length, refl, sym, ◌∙◌, ap, subst, inl, inr, Some, None, Ok, arith}
use Rattle.std.specs.Prelude.{option_and_then, slice_get, slice_set, unwrap_or, ◌==◌}
use Rattle.std.proofs.lemmas.Bool.{eqb-true, true≢false}
use Rattle.mc_text.specs.Routes.{Route}
use Rattle.tree_trait.specs.declared.file_system.Node.{Node}
use Rattle.tree_trait.specs.declared.file_system.FileSystem.{FileSystem}
use Rattle.tree_trait.specs.Answers.{Performs}
use Rattle.tree_trait.specs.Calls.{Call, SetMode, SyncFile}
use Rattle.tree_trait.specs.Change.{Change, Sets, Syncs, Writes, CallLog, current, with_change}
use Rattle.tree_trait.specs.CrashImages.{is_clean, says}
use Rattle.tree_trait.specs.FileSystem.{find, lookup, no_node, node}
use Rattle.laws_crash.specs.Guarded.{IsGuarded, Marks}
use Rattle.laws_crash.specs.NameKnowledge.{IsAnchored}
use Rattle.laws_crash.proofs.Guarding.{found_at, leads_as_before, same_quiet, settle_law}
use Rattle.laws_crash.proofs.Leading.{current_more, leads_now}
use Rattle.laws_crash.proofs.Syncing.{firm_law, mode_law, sync_law}
use Rattle.job_reports.specs.CallRuns.{AllDone}
use Rattle.job_reports.proofs.CallAnswers.{done_call, some_log}
use Rattle.copy_file.proofs.FilledParts.{Holds}
use Rattle.save_file.specs.Safe.{HasPart, IsAsFound, with_firm}

set_here : (xs : List Node) (i : ℕ) (n : Node) → i < length xs → unwrap_or (slice_get (slice_set xs i n) i) no_node ≡ n
set_here [] i n there = absurd (omega (arith, there))
set_here (x ∷ xs) zero n there = refl
set_here (x ∷ xs) (suc i) n there = set_here xs i n (omega (arith, there))

pub written_node : (log : CallLog) (i : ℕ) (bytes : List ℕ) (time : ℤ) → i < length (current log).nodes
    → node (current (with_change log (Writes i bytes time))) i ≡ record (node (current log) i) { bytes = bytes; mtime = time }
written_node log i bytes time there = ap (λ (s : FileSystem). node s i) (current_more log (Writes i bytes time)) ∙ set_here (current log).nodes i _ there

moded_node : (log : CallLog) (i mode : ℕ) → i < length (current log).nodes → node (current (with_change log (Sets i mode))) i ≡ record (node (current log) i) { mode = mode }
moded_node log i mode there = ap (λ (s : FileSystem). node s i) (current_more log (Sets i mode)) ∙ set_here (current log).nodes i _ there

-- one call that was done
pub performs_one : (log now : CallLog) (call : Call) → AllDone log (call ∷ []) (Some now) → Performs {A = Unit {0}} log call (Ok tt) (Some now)
performs_one log now call h = subst (λ (l : CallLog). Performs {A = Unit {0}} log call (Ok tt) (Some l)) (sym (some_log now h.0 h.2)) h.1

pub part_there : (marks : Marks) (log : CallLog) (path : Route) (i : ℕ) → IsGuarded marks log → HasPart marks log path i → i < length (current log).nodes
part_there marks log path i guarded has = guarded.there path i (found_at log path (Some i) has.leads)

-- below a file nothing stands
pub below_part : (marks : Marks) (log : CallLog) (path : Route) (i : ℕ) → HasPart marks log path i → (name : List ℕ) (rest : Route) → find (current log) (name ∷ rest ++ path) ≡ None
below_part marks log path i has name [] =
    ap (option_and_then (λ g. lookup (current log).names g name)) has.leads ∙ has.bare name (lookup (current log).names i name) (leads_now i name [] log.opening log.changes)
below_part marks log path i has name (more ∷ rest) = ap (option_and_then (λ g. lookup (current log).names g name)) (below_part marks log path i has more rest)

-- a call that says nothing of names
module _ (log : CallLog) (c : Change) (none : (g : ℕ) (m : List ℕ) → says c (length (current log).nodes) g m ≡ None) where
  pub part_quiet : (marks : Marks) (path : Route) (i : ℕ) → HasPart marks log path i → HasPart marks (with_change log c) path i
  part_quiet marks path i has = record {
    leads = same_quiet log c none path ∙ has.leads;
    is_aside = has.is_aside;
    moves = has.moves;
    loose = has.loose;
    plain = has.plain;
    bare = λ m y lead. has.bare m y (leads_as_before log c i m y (none i m) lead);
  }

  pub anchored_quiet : (marks : Marks) (i : ℕ) (up : Route) → IsAnchored marks log up → IsAnchored (with_firm marks i) (with_change log c) up
  anchored_quiet marks i [] h = tt
  anchored_quiet marks i (name ∷ folder) h = (anchored_quiet marks i folder h.0, λ j at. h.1 j (sym (same_quiet log c none (name ∷ folder)) ∙ at))

  pub still_anchored : (marks : Marks) (up : Route) → IsAnchored marks log up → IsAnchored marks (with_change log c) up
  still_anchored marks [] h = tt
  still_anchored marks (name ∷ folder) h = (still_anchored marks folder h.0, λ j at. h.1 j (sym (same_quiet log c none (name ∷ folder)) ∙ at))

  pub as_found_quiet : (marks : Marks) (target : Route) → IsAsFound marks log target → IsAsFound marks (with_change log c) target
  as_found_quiet marks target h = record {
    found = same_quiet log c none target ∙ h.found;
    under = λ rest out. elim (h.under rest out) [ inl was ↦ inl (same_quiet log c none (rest ++ target) ∙ was) | inr gone ↦ inr (same_quiet log c none (rest ++ target) ∙ gone) ];
  }

still : (a b : Bool) → a ≡ false → (a && not b) ≡ false
still true b h = absurd (true≢false h)
still false b h = refl

was_or : (a b : Bool) → (a && not b) ≡ false → (a ≡ false) ⊎ (b ≡ true)
was_or true true h = inr refl
was_or true false h = absurd (true≢false h)
was_or false b h = inl refl

-- what was synced isn't loose any more
pub firm_guarded : (marks : Marks) (log : CallLog) (i : ℕ) → is_clean i log.changes ≡ true → marks.modes i ≡ None → IsGuarded marks log → IsGuarded (with_firm marks i) log
firm_guarded marks log i clean plain guarded = settle_law marks (with_firm marks i) log guarded (record {
  paths = λ p out. inl (out, refl);
  nodes = λ j firm. elim (was_or (marks.loose j) (j == i) firm) [
    | inl same ↦ inl (same, refl)
    | inr is ↦ inr (subst (λ k. is_clean k log.changes ≡ true) (sym (eqb-true j i is)) clean, subst (λ k. marks.modes k ≡ None) (sym (eqb-true j i is)) plain)
  ];
  firm = λ p j out at. elim (guarded.firm p j out at) [ inl firm ↦ inl (still _ _ firm) | inr folder ↦ inr folder ];
  places = λ j stays. inl stays;
})

-- what is known of a part, once it was given its mode
pub record IsModed (marks : Marks) (log now : CallLog) (i mode : ℕ) : Type 0 where
  pub change : Change
  pub names : (g : ℕ) (m : List ℕ) → says change (length (current log).nodes) g m ≡ None
  pub is : now ≡ with_change log change
  pub guarded : IsGuarded marks now
  pub holds : (bytes : List ℕ) (old : ℕ) → Holds (node (current log) i) bytes old → Holds (node (current now) i) bytes mode

pub moded : (marks : Marks) (log now : CallLog) (path : Route) (i mode : ℕ) → IsGuarded marks log → HasPart marks log path i → Performs {A = Unit {0}} log (SetMode path mode) (Ok tt) (Some now)
    → IsModed marks log now i mode
moded marks log now path i mode guarded has done = record {
  change = Sets i mode;
  names = λ g m. refl;
  is = is;
  guarded = subst (λ (l : CallLog). IsGuarded marks l) (sym is) (mode_law marks log i mode has.loose guarded);
  holds = λ bytes old h. subst (λ (l : CallLog). Holds (node (current l) i) bytes mode) (sym is) (record {
    kind = ap (λ (x : Node). x.kind) node_is ∙ h.kind;
    bytes_are = ap (λ (x : Node). x.bytes) node_is ∙ h.bytes_are;
    mode_is = ap (λ (x : Node). x.mode) node_is;
    unnamed = ap (λ (x : Node). x.unnamed) node_is ∙ h.unnamed;
  });
}
  where
    is : now ≡ with_change log (Sets i mode)
    is = (done_call log (SetMode path mode) now done).is ∙ ap (λ j. with_change log (Sets j mode)) (ap (λ o. unwrap_or o 0) has.leads)

    node_is : node (current (with_change log (Sets i mode))) i ≡ record (node (current log) i) { mode = mode }
    node_is = moded_node log i mode (part_there marks log path i guarded has)

-- and once it was synced
pub record IsFirm (marks : Marks) (log now : CallLog) (i : ℕ) : Type 0 where
  pub is : now ≡ with_change log (Syncs i)
  pub guarded : IsGuarded marks now
  pub firm : IsGuarded (with_firm marks i) now
  pub node_same : node (current now) i ≡ node (current log) i

pub synced : (marks : Marks) (log now : CallLog) (path : Route) (i : ℕ) → IsGuarded marks log → HasPart marks log path i → Performs {A = Unit {0}} log (SyncFile path) (Ok tt) (Some now)
    → IsFirm marks log now i
synced marks log now path i guarded has done =
    let is : now ≡ with_change log (Syncs i) = (done_call log (SyncFile path) now done).is ∙ ap (λ j. with_change log (Syncs j)) (ap (λ o. unwrap_or o 0) has.leads) in
    let after : IsGuarded marks (with_change log (Syncs i)) = sync_law marks log i guarded in
    record {
      is = is;
      guarded = subst (λ (l : CallLog). IsGuarded marks l) (sym is) after;
      firm = subst (λ (l : CallLog). IsGuarded (with_firm marks i) l) (sym is) (firm_guarded marks (with_change log (Syncs i)) i (firm_law log i) has.plain after);
      node_same = subst (λ (l : CallLog). node (current l) i ≡ node (current log) i) (sym is) (ap (λ (s : FileSystem). node s i) (current_more log (Syncs i)));
    }
