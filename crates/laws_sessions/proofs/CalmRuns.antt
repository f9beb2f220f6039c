-- What is calm stays so with a call of a copy, whatever it is answered.
use Rattle.std.proofs.Common.{◌≡◌, ◌⊎◌, ℕ, suc, zero, Bool, true, false, List, [], ◌∷◌, ◌++◌, refl, sym, ◌∙◌, ap, subst, inl, inr, Option, Some, None, Ok, Err, arith, cond}
use Rattle.std.specs.Prelude.{if◌then◌else◌, ◌==◌, option_and_then, unwrap_or}
use Rattle.std.proofs.lemmas.Bool.{eqb-true, false_from_ne_true, false≢true}
use Rattle.mc_text.specs.Routes.{Route, same_path}
use Rattle.tree_trait.specs.declared.calls.TreeError.{TreeError}
use Rattle.tree_trait.specs.declared.calls.TreeError.TheVariants.{Fault, Memory}
use Rattle.tree_trait.specs.declared.file_system.FileSystem.{FileSystem}
use Rattle.tree_trait.specs.Answers.{Performs}
use Rattle.tree_trait.specs.Calls.{Call, RemoveFile, Rename, SetMode, SyncFile, WriteAt}
use Rattle.tree_trait.specs.Change.{Change, Moves, Nothing, Removes, Sets, Syncs, Writes, CallLog, change_of, current, found_node, torn_write, with_change}
use Rattle.tree_trait.specs.CrashImages.{alters, is_clean}
use Rattle.tree_trait.specs.FileSystem.{find, lookup}
use Rattle.tree_trait.specs.Refusals.{after_walk, refusal_of, rename_refusal, walk}
use Rattle.tree_trait.specs.Shape.{IsRemovable, IsTree}
use Rattle.tree_trait.proofs.Finding.{find-once}
use Rattle.tree_trait.proofs.Visible.{same_path-true}
use Rattle.tree_trait.proofs.Walking.{last_place, passed_walk, removable}
use Rattle.laws_crash.proofs.Leading.{current_more}
use Rattle.laws_crash.proofs.Syncing.{firm_law}
use Rattle.job_reports.specs.CallRuns.{AllDone, RunStops, StopsAt}
use Rattle.job_reports.specs.declared.report.Cause.{Cause}
use Rattle.job_reports.specs.declared.report.Cause.TheVariants as cause
use Rattle.job_reports.proofs.CallAnswers.{IsDoneCall, done_call, some_log}
use Rattle.copy_file.specs.CopyCalls.{part_mode, placing}
use Rattle.copy_folders.specs.Levels.{Levels, coming, passed_levels}
use Rattle.laws_sessions.proofs.AtWork.{HasItem, IsAtWork}
use Rattle.laws_sessions.proofs.Calm.{IsCalmOr}
use Rattle.laws_sessions.proofs.CalmChanges.{calm_placed, calm_quiet, calm_removed}
use Rattle.laws_sessions.proofs.QuietRuns.{row_done, row_stops, tree_moded, tree_synced}
use Rattle.laws_sessions.proofs.TreeRuns.{has_quiet}

-- a call that writes nothing leaves nothing torn
abbrev pub IsWhole : FileSystem → Call → Type 0
IsWhole s call = (left : List ℕ) → torn_write s call left ≡ Nothing

pub refused_nothing : (log now : CallLog) (call : Call) (e : TreeError) → IsWhole (current log) call → Performs {A = Unit {0}} log call (Err e) (Some now) → (now ≡ log) ⊎ (now ≡ with_change log Nothing)
refused_nothing log now call Fault none h = inr (some_log now _ h.1.1 ∙ ap (with_change log) (none h.1.0))
refused_nothing log now call Memory none h = inl (some_log now log h)
refused_nothing log now call e none h = inr (some_log now _ h.1)

-- a write that is refused may leave other bytes
refused_write : (log now : CallLog) (path : Route) (offset : ℕ) (bytes : List ℕ) (e : TreeError) → Performs {A = Unit {0}} log (WriteAt path offset bytes) (Err e) (Some now)
    → (now ≡ log) ⊎ ((now ≡ with_change log Nothing) ⊎ ((left : List ℕ) × (now ≡ with_change log (torn_write (current log) (WriteAt path offset bytes) left))))
refused_write log now path offset bytes Fault h = inr (inr (h.1.0, some_log now _ h.1.1))
refused_write log now path offset bytes Memory h = inl (some_log now log h)
refused_write log now path offset bytes e h = inr (inl (some_log now _ h.1))

-- a part that stands is at no other path
pub only_part : (log : CallLog) → IsTree (current log) → (p part : Route) (i j : ℕ) → find (current log) part ≡ Some i → find (current log) p ≡ Some j → (found_node (current log) part == j) ≡ true → p ≡ part
only_part log tree p part i j leads at same =
    let is : i ≡ j = sym (ap (λ o. unwrap_or o 0) leads) ∙ eqb-true (found_node (current log) part) j same in
    find-once (current log) tree p part i (at ∙ ap (λ k. Some k) (sym is)) leads

module _ (p : Route) (E : Type 0) where
  -- nothing was done
  pub calm_nothing : (log : CallLog) → IsCalmOr p log E → IsCalmOr p (with_change log Nothing) E
  calm_nothing log calm = calm_quiet p log Nothing E E calm (λ n g m. refl) (λ i at is. absurd (false≢true is)) (λ e. e)

  pub calm_refused : (log now : CallLog) (call : Call) (e : TreeError) → IsWhole (current log) call → Performs {A = Unit {0}} log call (Err e) (Some now) → IsCalmOr p log E → IsCalmOr p now E
  calm_refused log now call e whole done calm = elim (refused_nothing log now call e whole done) [
    | inl same ↦ subst (λ (x : CallLog). IsCalmOr p x E) (sym same) calm
    | inr is ↦ subst (λ (x : CallLog). IsCalmOr p x E) (sym is) (calm_nothing log calm)
  ]

  -- a row of one call that stops
  pub calm_stop : (log now : CallLog) (call : Call) (why : Cause) (path : Option Route) → IsWhole (current log) call → RunStops (call ∷ []) why path log (Some now) → IsCalmOr p log E → IsCalmOr p now E
  calm_stop log now call why path whole run calm = elim (row_stops log now call why path run) [
    | inl same ↦ subst (λ (x : CallLog). IsCalmOr p x E) (sym same) calm
    | inr e ↦ calm_refused log now call e.0 whole e.1 calm
  ]

  -- a sync
  pub calm_sync : (log : CallLog) (g : ℕ) → IsCalmOr p log E → IsCalmOr p (with_change log (Syncs g)) E
  calm_sync log g calm = calm_quiet p log (Syncs g) E E calm (λ n h m. refl) (λ i at is. absurd (false≢true is)) (λ e. e)

-- Of the part at work.
module _ (name : List ℕ) (l : Levels) (part target p : Route) (E : Type 0) where
  -- what is known as it is placed: it stands, and all else is calm
  pub record Ready (log : CallLog) : Type 0 where
    pub tree : IsTree (current log)
    pub item : HasItem log name l part target
    pub calm : IsCalmOr p log ((p ≡ part) ⊎ E)

  part_leads : (log : CallLog) → Ready log → (i : ℕ) × (find (current log) part ≡ Some i)
  part_leads log r = let item = r.item in let work = item.work in (work.i, work.leads)

  -- what alters the part leaves all else calm
  part_altered : (log : CallLog) (c : Change) → Ready log → ((j : ℕ) → alters j c ≡ true → (found_node (current log) part == j) ≡ true) → (j : ℕ) → find (current log) p ≡ Some j → alters j c ≡ true → (p ≡ part) ⊎ E
  part_altered log c r it j at is = let there = part_leads log r in inl (only_part log r.tree p part there.0 j there.1 at (it j is))

  nothing : (log : CallLog) → Ready log → Ready (with_change log Nothing)
  nothing log r = record {
    tree = subst IsTree (sym (current_more log Nothing)) r.tree;
    item = has_quiet name l part target log Nothing r.tree (λ n g m. refl) r.item;
    calm = calm_nothing p ((p ≡ part) ⊎ E) log r.calm;
  }

  synced : (log : CallLog) → Ready log → Ready (with_change log (Syncs (found_node (current log) part)))
  synced log r = record {
    tree = tree_synced log (found_node (current log) part) r.tree;
    item = has_quiet name l part target log (Syncs (found_node (current log) part)) r.tree (λ n g m. refl) r.item;
    calm = calm_sync p ((p ≡ part) ⊎ E) log (found_node (current log) part) r.calm;
  }

  moded : (log : CallLog) (mode : ℕ) → Ready log → Ready (with_change log (Sets (found_node (current log) part) mode))
  moded log mode r = record {
    tree = tree_moded log (found_node (current log) part) mode r.tree;
    item = has_quiet name l part target log (Sets (found_node (current log) part) mode) r.tree (λ n g m. refl) r.item;
    calm = calm_quiet p log (Sets (found_node (current log) part) mode) _ _ r.calm (λ n g m. refl) (part_altered log (Sets (found_node (current log) part) mode) r (λ j is. is)) (λ e. e);
  }

  pub written : (log : CallLog) (bytes : List ℕ) (time : _) → Ready log → IsCalmOr p (with_change log (Writes (found_node (current log) part) bytes time)) ((p ≡ part) ⊎ E)
  written log bytes time r = calm_quiet p log (Writes (found_node (current log) part) bytes time) _ _ r.calm (λ n g m. refl) (part_altered log (Writes (found_node (current log) part) bytes time) r (λ j is. is)) (λ e. e)

  pub write_stops : (log now : CallLog) (offset : ℕ) (bytes : List ℕ) (why : Cause) (path : Option Route) → Ready log → RunStops (WriteAt part offset bytes ∷ []) why path log (Some now) → IsCalmOr p now ((p ≡ part) ⊎ E)
  write_stops log now offset bytes why path r run = elim (row_stops log now (WriteAt part offset bytes) why path run) [
    | inl same ↦ subst (λ (x : CallLog). IsCalmOr p x ((p ≡ part) ⊎ E)) (sym same) r.calm
    | inr e ↦ elim (refused_write log now part offset bytes e.0 e.1) [
      | inl same ↦ subst (λ (x : CallLog). IsCalmOr p x ((p ≡ part) ⊎ E)) (sym same) r.calm
      | inr (inl is) ↦ subst (λ (x : CallLog). IsCalmOr p x ((p ≡ part) ⊎ E)) (sym is) (calm_nothing p ((p ≡ part) ⊎ E) log r.calm)
      | inr (inr torn) ↦ subst (λ (x : CallLog). IsCalmOr p x ((p ≡ part) ⊎ E)) (sym torn.1) (written log torn.0 _ r)
    ]
  ]

  refused : (log now : CallLog) (call : Call) (e : TreeError) → IsWhole (current log) call → Performs {A = Unit {0}} log call (Err e) (Some now) → Ready log → IsCalmOr p now ((p ≡ part) ⊎ E)
  refused log now call e whole done r = calm_refused p ((p ≡ part) ⊎ E) log now call e whole done r.calm

  module _ (now : CallLog) where
    abbrev tail : List Call
    tail = SyncFile part ∷ Rename part target ∷ []

    abbrev Calm : Type 0
    Calm = IsCalmOr p now ((p ≡ part) ⊎ E)

    same_log : (from : CallLog) → (let o : Option CallLog = Some now in o) ≡ Some from → Ready from → Calm
    same_log from is r = subst (λ (x : CallLog). IsCalmOr p x ((p ≡ part) ⊎ E)) (sym (some_log now from is)) r.calm

    then_synced : (from mid : CallLog) → Performs {A = Unit {0}} from (SyncFile part) (Ok tt) (Some mid) → Ready from → Ready mid
    then_synced from mid h r = let d = done_call from (SyncFile part) mid h in subst Ready (sym d.is) (synced from r)

    then_moded : (from mid : CallLog) (mode : ℕ) → Performs {A = Unit {0}} from (SetMode part mode) (Ok tt) (Some mid) → Ready from → Ready mid
    then_moded from mid mode h r = let d = done_call from (SetMode part mode) mid h in subst Ready (sym d.is) (moded from mode r)

    tail_at : (from : CallLog) (call : Call) (e : TreeError) → StopsAt from tail call e (Some now) → Ready from → Calm
    tail_at from call e (inl (is, denied)) r = refused from now (SyncFile part) e (λ left. refl) denied r
    tail_at from call e (inr (mid, sync, inl (is, denied))) r = refused mid now (Rename part target) e (λ left. refl) denied (then_synced from mid sync r)
    tail_at from call e (inr (mid, sync, inr (last, moved, none))) r = absurd none

    tail_stops : (from : CallLog) (why : Cause) (path : Option Route) → RunStops tail why path from (Some now) → Ready from → Calm
    tail_stops from (cause.Tree e) path (call, named, stops) r = tail_at from call e stops r
    tail_stops from cause.Memory path (none, (zero, few, done)) r = same_log from done r
    tail_stops from cause.Memory path (none, (suc zero, few, (mid, sync, end))) r = same_log mid end (then_synced from mid sync r)
    tail_stops from cause.Memory path (none, (suc (suc count), few, done)) r = absurd (omega (arith, few))
    tail_stops from (cause.TargetKind kind) path h r = absurd h
    tail_stops from cause.SpecialSource path h r = absurd h
    tail_stops from cause.TooDeep path h r = absurd h
    tail_stops from (cause.Unnamed count) path h r = absurd h
    tail_stops from cause.PartTaken path h r = absurd h
    tail_stops from cause.TooLong path h r = absurd h
    tail_stops from (cause.Changed said got) path h r = absurd h

    moded_stops : (from : CallLog) (mode : ℕ) (why : Cause) (path : Option Route) → RunStops (SetMode part mode ∷ tail) why path from (Some now) → Ready from → Calm
    moded_stops from mode (cause.Tree e) path (call, named, inl (is, denied)) r = refused from now (SetMode part mode) e (λ left. refl) denied r
    moded_stops from mode (cause.Tree e) path (call, named, inr (mid, set, stops)) r = tail_at mid call e stops (then_moded from mid mode set r)
    moded_stops from mode cause.Memory path (none, (zero, few, done)) r = same_log from done r
    moded_stops from mode cause.Memory path (none, (suc zero, few, (mid, set, end))) r = same_log mid end (then_moded from mid mode set r)
    moded_stops from mode cause.Memory path (none, (suc (suc zero), few, (mid, set, (last, sync, end)))) r = same_log last end (then_synced mid last sync (then_moded from mid mode set r))
    moded_stops from mode cause.Memory path (none, (suc (suc (suc count)), few, done)) r = absurd (omega (arith, few))
    moded_stops from mode (cause.TargetKind kind) path h r = absurd h
    moded_stops from mode cause.SpecialSource path h r = absurd h
    moded_stops from mode cause.TooDeep path h r = absurd h
    moded_stops from mode (cause.Unnamed count) path h r = absurd h
    moded_stops from mode cause.PartTaken path h r = absurd h
    moded_stops from mode cause.TooLong path h r = absurd h
    moded_stops from mode (cause.Changed said got) path h r = absurd h

    -- the calls that place the part stop
    pub placing_stops : (log : CallLog) (mode : ℕ) (why : Cause) (path : Option Route) → RunStops (placing mode part target) why path log (Some now) → Ready log → Calm
    placing_stops log mode why path run r = by (part_mode mode == mode) run
      where
        by : (b : Bool) → RunStops (if◌then◌else◌ b [] (SetMode part mode ∷ []) ++ SyncFile part ∷ Rename part target ∷ []) why path log (Some now) → Calm
        by true run = tail_stops log why path run r
        by false run = moded_stops log mode why path run r

    -- the part, of which nothing waits, is renamed
    pub renamed : (log : CallLog) (F : Type 0) → ((p ≡ part) ⊎ E → (p ≡ part) ⊎ F) → ((i : ℕ) → find (current log) part ≡ Some i → is_clean i log.changes ≡ true) → Ready log → Performs {A = Unit {0}} log (Rename part target) (Ok tt) (Some now) → IsCalmOr p now F
    renamed log F f clean r h = at (subst (λ q. refusal_of (current log) (Rename q (w.n ∷ up)) ≡ None) w.part_is (subst (λ q. refusal_of (current log) (Rename part q) ≡ None) w.target_is d.permits))
      where
        up : Route
        up = l.inner.copy.target

        d : IsDoneCall log (Rename part target) now
        d = done_call log (Rename part target) now h

        w : IsAtWork (current log) up (let q : Levels = passed_levels false l in coming name q.inner.names q.around) part target
        w = let item = r.item in item.work

        at : refusal_of (current log) (Rename (w.k ∷ up) (w.n ∷ up)) ≡ None → IsCalmOr p now F
        at permits =
            let a = passed_walk (walk (current log) (w.k ∷ up)) (λ a. after_walk (current log) (w.n ∷ up) (λ b. rename_refusal (current log) (w.k ∷ up) (w.n ∷ up) a b)) permits in
            let b = passed_walk (walk (current log) (w.n ∷ up)) (λ b. rename_refusal (current log) (w.k ∷ up) (w.n ∷ up) a.0 b) a.2 in
            let last = last_place (current log) w.n up b.0 b.1 in
            let g = found_node (current log) up in
            let leads_here : find (current log) (w.k ∷ up) ≡ Some w.i = subst (λ q. find (current log) q ≡ Some w.i) w.part_is w.leads in
            let part_there : lookup (let s = current log in s.names) g w.k ≡ Some w.i = sym (ap (option_and_then (λ k. lookup (let s = current log in s.names) k w.k)) last.folder) ∙ leads_here in
            let other : same_path (w.k ∷ up) (w.n ∷ up) ≡ false = false_from_ne_true _ (λ same. let e : (w.k ∷ up) ≡ w.n ∷ up = same_path-true (w.k ∷ up) (w.n ∷ up) same in w.apart cc) in
            let change : change_of (current log) (Rename part target) d.time ≡ Moves g w.k g w.n w.i (find (current log) (w.n ∷ up)) =
            ap (λ q. change_of (current log) (Rename q target) d.time) w.part_is
            ∙ (ap (λ q. change_of (current log) (Rename (w.k ∷ up) q) d.time) w.target_is
            ∙ (ap (λ x. cond x Nothing (Moves g w.k g w.n (found_node (current log) (w.k ∷ up)) (find (current log) (w.n ∷ up)))) other
            ∙ ap (λ k. Moves g w.k g w.n k (find (current log) (w.n ∷ up))) (ap (λ o. unwrap_or o 0) leads_here))) in
            subst (λ (x : CallLog). IsCalmOr p x F) (sym (d.is ∙ ap (with_change log) change))
            (calm_placed log r.tree up g last.folder w.k w.i part_there w.file p ((p ≡ part) ⊎ E) F (λ e. subst (λ q. (p ≡ q) ⊎ F) w.part_is (f e)) r.calm w.n (find (current log) (w.n ∷ up)) w.apart (clean w.i w.leads))

    -- a full part is placed
    pub placed : (log : CallLog) (mode : ℕ) → Ready log → AllDone log (placing mode part target) (Some now) → IsCalmOr p now E
    placed log mode r rows = by (part_mode mode == mode) rows
      where
        tail_done : (from : CallLog) → Ready from → AllDone from tail (Some now) → IsCalmOr p now E
        tail_done from r (mid, sync, moved) =
            let d = done_call from (SyncFile part) mid sync in
            let there = part_leads from r in
            let clean : (i : ℕ) → find (current mid) part ≡ Some i → is_clean i mid.changes ≡ true =
            λ i at. subst (λ (x : CallLog). is_clean i x.changes ≡ true) (sym d.is)
            (subst (λ j. is_clean i (with_change from (Syncs j)).changes ≡ true) (sym (ap (λ o. unwrap_or o 0) (at_before from mid d.is at))) (firm_law from i)) in
            renamed mid E (λ e. e) clean (then_synced from mid sync r) (row_done mid now (Rename part target) moved)
          where
            at_before : (from mid : CallLog) → mid ≡ with_change from (Syncs (found_node (current from) part)) → {i : ℕ} → find (current mid) part ≡ Some i → find (current from) part ≡ Some i
            at_before from mid is at = sym (ap (λ (x : CallLog). find (current x) part) is ∙ Rattle.laws_crash.proofs.Guarding.same_quiet from (Syncs (found_node (current from) part)) (λ n m. refl) part) ∙ at

        by : (b : Bool) → AllDone log (if◌then◌else◌ b [] (SetMode part mode ∷ []) ++ SyncFile part ∷ Rename part target ∷ []) (Some now) → IsCalmOr p now E
        by true rows = tail_done log r rows
        by false (mid, set, later) = tail_done mid (then_moded log mid mode set r) later

-- a part is removed
pub calm_removing : (p : Route) (log now : CallLog) (part : Route) (E F : Type 0) → IsTree (current log) → (E → (p ≡ part) ⊎ F) → IsCalmOr p log E → Performs {A = Unit {0}} log (RemoveFile part) (Ok tt) (Some now) → IsCalmOr p now F
calm_removing p log now part E F tree f calm h = at (removable (current log) part tree d.permits)
  where
    d : IsDoneCall log (RemoveFile part) now
    d = done_call log (RemoveFile part) now h

    at : IsRemovable (current log) part → IsCalmOr p now F
    at r =
        let leads_there : find (current log) (r.name ∷ r.up) ≡ Some r.i = rw r.folder r.leads in
        let change : change_of (current log) (RemoveFile part) d.time ≡ Removes r.f r.name r.i =
        ap (λ q. change_of (current log) (RemoveFile q) d.time) r.path_is
        ∙ (ap (λ g. Removes g r.name (found_node (current log) (r.name ∷ r.up))) (ap (λ o. unwrap_or o 0) r.folder) ∙ ap (λ k. Removes r.f r.name k) (ap (λ o. unwrap_or o 0) leads_there)) in
        subst (λ (x : CallLog). IsCalmOr p x F) (sym (d.is ∙ ap (with_change log) change))
        (calm_removed log tree r.up r.f r.folder r.name r.i r.leads r.no_folder p E F (λ e. subst (λ q. (p ≡ q) ⊎ F) r.path_is (f e)) calm)
