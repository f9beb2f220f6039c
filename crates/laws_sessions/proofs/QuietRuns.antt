-- What a change that names nothing keeps is kept by a call that is refused, and by the calls that place a part, where they stop before its
-- renaming.
use Rattle.std.proofs.Common.{◌≡◌, ◌⊎◌, ℕ, suc, zero, Bool, true, false, List, [], ◌∷◌, ◌++◌, refl, sym, subst, inl, inr, Option, Some, None, Ok, Err, arith}
use Rattle.std.specs.Prelude.{if◌then◌else◌, ◌==◌}
use Rattle.mc_text.specs.Routes.{Route}
use Rattle.tree_trait.specs.declared.calls.TreeError.{TreeError}
use Rattle.tree_trait.specs.Answers.{Performs}
use Rattle.tree_trait.specs.Calls.{Call, Rename, SetMode, SyncFile}
use Rattle.tree_trait.specs.Change.{Change, Sets, Syncs, CallLog, current, found_node, with_change}
use Rattle.tree_trait.specs.CrashImages.{says}
use Rattle.tree_trait.specs.Shape.{IsTree}
use Rattle.tree_trait.proofs.Kept.{tree_set}
use Rattle.laws_crash.proofs.Leading.{current_more}
use Rattle.job_reports.specs.CallRuns.{AllDone, RunStops, StopsAt}
use Rattle.job_reports.specs.declared.report.Cause.{Cause}
use Rattle.job_reports.specs.declared.report.Cause.TheVariants as cause
use Rattle.job_reports.proofs.CallAnswers.{done_call, some_log}
use Rattle.copy_file.specs.CopyCalls.{part_mode, placing}
use Rattle.laws_sessions.proofs.Refused.{refused_change}

-- a row of one call was done, or it was refused, or nothing was called
pub row_done : (log now : CallLog) (call : Call) → AllDone log (call ∷ []) (Some now) → Performs {A = Unit {0}} log call (Ok tt) (Some now)
row_done log now call h = subst (λ (l : CallLog). Performs {A = Unit {0}} log call (Ok tt) (Some l)) (sym (some_log now h.0 h.2)) h.1

pub row_stops : (log now : CallLog) (call : Call) (why : Cause) (path : Option Route) → RunStops (call ∷ []) why path log (Some now) → (now ≡ log) ⊎ ((e : TreeError) × Performs {A = Unit {0}} log call (Err e) (Some now))
row_stops log now call (cause.Tree e) path (which, named, inl stop) = inr (e, stop.1)
row_stops log now call (cause.Tree e) path (which, named, inr later) = absurd later.2
row_stops log now call cause.Memory path (none, (zero, few, done)) = inl (some_log now log done)
row_stops log now call cause.Memory path (none, (suc count, few, done)) = absurd (omega (arith, few))
row_stops log now call (cause.TargetKind kind) path h = absurd h
row_stops log now call cause.SpecialSource path h = absurd h
row_stops log now call cause.TooDeep path h = absurd h
row_stops log now call (cause.Unnamed count) path h = absurd h
row_stops log now call cause.PartTaken path h = absurd h
row_stops log now call cause.TooLong path h = absurd h
row_stops log now call (cause.Changed said got) path h = absurd h

pub tree_synced : (log : CallLog) (i : ℕ) → IsTree (current log) → IsTree (current (with_change log (Syncs i)))
tree_synced log i tree = subst IsTree (sym (current_more log (Syncs i))) tree

pub tree_moded : (log : CallLog) (i mode : ℕ) → IsTree (current log) → IsTree (current (with_change log (Sets i mode)))
tree_moded log i mode tree = subst IsTree (sym (current_more log (Sets i mode))) (tree_set (current log) i _ tree refl)

module _ (P : CallLog → Type 0) (quiet : (log : CallLog) (c : Change) → IsTree (current log) → ((n g : ℕ) (m : List ℕ) → says c n g m ≡ None) → P log → P (with_change log c)) where
  -- a call that was refused
  pub kept_refused : (log now : CallLog) → IsTree (current log) → (call : Call) (e : TreeError) → Performs {A = Unit {0}} log call (Err e) (Some now) → P log → P now
  kept_refused log now tree call e done known = elim (refused_change log now call e done) [
    | inl same ↦ subst P (sym same) known
    | inr c ↦ subst P (sym c.2) (quiet log c.0 tree c.1 known)
  ]

  -- a row of one call that stops
  pub kept_stop : (log now : CallLog) → IsTree (current log) → (call : Call) (why : Cause) (path : Option Route) → RunStops (call ∷ []) why path log (Some now) → P log → P now
  kept_stop log now tree call why path stops known = elim (row_stops log now call why path stops) [
    | inl same ↦ subst P (sym same) known
    | inr e ↦ kept_refused log now tree call e.0 e.1 known
  ]

  -- a part is synced, or given its mode
  synced : (from mid : CallLog) (part : Route) → Performs {A = Unit {0}} from (SyncFile part) (Ok tt) (Some mid) → IsTree (current from) × P from → IsTree (current mid) × P mid
  synced from mid part h (tree, known) =
      let d = done_call from (SyncFile part) mid h in (
        subst (λ (x : CallLog). IsTree (current x)) (sym d.is) (tree_synced from (found_node (current from) part) tree),
        subst P (sym d.is) (quiet from (Syncs (found_node (current from) part)) tree (λ n g m. refl) known),
      )

  moded : (from mid : CallLog) (part : Route) (mode : ℕ) → Performs {A = Unit {0}} from (SetMode part mode) (Ok tt) (Some mid) → IsTree (current from) × P from → IsTree (current mid) × P mid
  moded from mid part mode h (tree, known) =
      let d = done_call from (SetMode part mode) mid h in (
        subst (λ (x : CallLog). IsTree (current x)) (sym d.is) (tree_moded from (found_node (current from) part) mode tree),
        subst P (sym d.is) (quiet from (Sets (found_node (current from) part) mode) tree (λ n g m. refl) known),
      )

  module _ (now : CallLog) (part target : Route) where
    abbrev tail : List Call
    tail = SyncFile part ∷ Rename part target ∷ []

    same_log : (from : CallLog) → (let o : Option CallLog = Some now in o) ≡ Some from → P from → P now
    same_log from is known = subst P (sym (some_log now from is)) known

    tail_at : (from : CallLog) (call : Call) (e : TreeError) → StopsAt from tail call e (Some now) → IsTree (current from) × P from → P now
    tail_at from call e (inl (is, refused)) (tree, known) = kept_refused from now tree (SyncFile part) e refused known
    tail_at from call e (inr (mid, sync, inl (is, refused))) known = let m = synced from mid part sync known in kept_refused mid now m.0 (Rename part target) e refused m.1
    tail_at from call e (inr (mid, sync, inr (last, moved, none))) known = absurd none

    tail_stops : (from : CallLog) (why : Cause) (path : Option Route) → RunStops tail why path from (Some now) → IsTree (current from) × P from → P now
    tail_stops from (cause.Tree e) path (call, named, stops) known = tail_at from call e stops known
    tail_stops from cause.Memory path (none, (zero, few, done)) known = same_log from done known.1
    tail_stops from cause.Memory path (none, (suc zero, few, (mid, sync, end))) known = same_log mid end (synced from mid part sync known).1
    tail_stops from cause.Memory path (none, (suc (suc count), few, done)) known = absurd (omega (arith, few))
    tail_stops from (cause.TargetKind kind) path h known = absurd h
    tail_stops from cause.SpecialSource path h known = absurd h
    tail_stops from cause.TooDeep path h known = absurd h
    tail_stops from (cause.Unnamed count) path h known = absurd h
    tail_stops from cause.PartTaken path h known = absurd h
    tail_stops from cause.TooLong path h known = absurd h
    tail_stops from (cause.Changed said got) path h known = absurd h

    moded_stops : (from : CallLog) (mode : ℕ) (why : Cause) (path : Option Route) → RunStops (SetMode part mode ∷ tail) why path from (Some now) → IsTree (current from) × P from → P now
    moded_stops from mode (cause.Tree e) path (call, named, inl (is, refused)) known = kept_refused from now known.0 (SetMode part mode) e refused known.1
    moded_stops from mode (cause.Tree e) path (call, named, inr (mid, set, stops)) known = tail_at mid call e stops (moded from mid part mode set known)
    moded_stops from mode cause.Memory path (none, (zero, few, done)) known = same_log from done known.1
    moded_stops from mode cause.Memory path (none, (suc zero, few, (mid, set, end))) known = same_log mid end (moded from mid part mode set known).1
    moded_stops from mode cause.Memory path (none, (suc (suc zero), few, (mid, set, (last, sync, end)))) known = same_log last end (synced mid last part sync (moded from mid part mode set known)).1
    moded_stops from mode cause.Memory path (none, (suc (suc (suc count)), few, done)) known = absurd (omega (arith, few))
    moded_stops from mode (cause.TargetKind kind) path h known = absurd h
    moded_stops from mode cause.SpecialSource path h known = absurd h
    moded_stops from mode cause.TooDeep path h known = absurd h
    moded_stops from mode (cause.Unnamed count) path h known = absurd h
    moded_stops from mode cause.PartTaken path h known = absurd h
    moded_stops from mode cause.TooLong path h known = absurd h
    moded_stops from mode (cause.Changed said got) path h known = absurd h

  -- the calls that place a part stop: those that were done name nothing
  pub part_stops : (log now : CallLog) → IsTree (current log) → (mode : ℕ) (part target : Route) (why : Cause) (path : Option Route) → RunStops (placing mode part target) why path log (Some now) → P log → P now
  part_stops log now tree mode part target why path run known = by (part_mode mode == mode) run
    where
      by : (b : Bool) → RunStops (if◌then◌else◌ b [] (SetMode part mode ∷ []) ++ SyncFile part ∷ Rename part target ∷ []) why path log (Some now) → P now
      by true run = tail_stops now part target log why path run (tree, known)
      by false run = moded_stops now part target log mode why path run (tree, known)
