-- A step at a folder itself, in the copy of a tree, keeps what is known of the folders that are open.
use Rattle.std.proofs.Common.{◌≡◌, ℕ, true, false, List, [], ◌∷◌, refl, sym, ◌∙◌, ap, subst, inl, inr, Option, Some, None, Ok, arith}
use Rattle.mc_text.specs.Routes.{Route}
use Rattle.tree_trait.specs.Answers.{Performs}
use Rattle.tree_trait.specs.Calls.{Call, MakeFolder, SetMode, SyncFolder}
use Rattle.tree_trait.specs.Change.{CallLog, current, found_node}
use Rattle.tree_trait.specs.CrashImages.{Among}
use Rattle.tree_trait.specs.Shape.{IsTree}
use Rattle.job_reports.specs.CallRuns.{AllDone, RunStops}
use Rattle.job_reports.specs.declared.job.Pair.{Pair}
use Rattle.job_reports.specs.declared.report.Cause.{Cause}
use Rattle.job_reports.specs.declared.report.Cause.TheVariants as cause
use Rattle.job_reports.proofs.CallAnswers.{done_call, some_log}
use Rattle.job_reports.proofs.PermittedCalls.{making_passes, sync_finds}
use Rattle.copy_folders.specs.FolderCopying.{FolderCopying, Tells, copying, folder_mode}
use Rattle.copy_folders.specs.FolderSteps.{FolderCalls, at_sync, next_call}
use Rattle.copy_folders.specs.declared.stage.FolderDid.{FolderDid}
use Rattle.copy_folders.specs.declared.stage.FolderDid.TheVariants.{Made, Set, Barrier, Closed, Troubled}
use Rattle.copy_folders.specs.declared.stage.NamesState.{NamesState}
use Rattle.copy_folders.specs.declared.stage.NamesState.TheVariants.{Synced, Dirty}
use Rattle.copy_folders.specs.declared.stage.Stage.{Stage}
use Rattle.copy_folders.specs.declared.stage.Stage.TheVariants as at
use Rattle.tree_walk.specs.Places.{opened_folder}
use Rattle.copy_folders.specs.declared.level.Level.{Level}
use Rattle.job_reports.specs.declared.report.Did.{Did}
use Rattle.copy_folders.specs.Levels.{Levels, levels_closed, coming, is_around_dirty, level, made_levels, passed_levels, with_copy}
use Rattle.copy_tree.specs.Standing.{Seen}
use Rattle.copy_tree.specs.TreeCopySteps.{FolderEnds, FolderMakes, SyncsAround}
use Rattle.laws_sessions.specs.Doubt.{name_waits}
use Rattle.laws_sessions.proofs.FilledFolders.{IsNew, folder_opens}
use Rattle.laws_sessions.proofs.Resting.{IsOfFiles}
use Rattle.laws_sessions.proofs.OpenFolders.{AroundKnow, InnerKnows, LevelsKnow}
use Rattle.laws_sessions.proofs.FoldersLie.{AreNested}
use Rattle.laws_sessions.proofs.QuietRuns.{row_done, row_stops}
use Rattle.laws_sessions.proofs.TreeKnows.{filled_inner, levels_entered, levels_opened, levels_passed, levels_refused}
use Rattle.laws_sessions.proofs.TreeRuns.{row_named, row_quiet}

-- the copy of the innermost folder itself goes on, to the same target
pub copy_levels : (log : CallLog) (name : List ℕ) (l : Levels) (moved : FolderCopying) → moved.target ≡ l.inner.copy.target → LevelsKnow log name l → LevelsKnow log name (with_copy moved l)
copy_levels log name l moved same known = record {
  inner = subst (λ up. InnerKnows (is_around_dirty l.around) log up (coming name l.inner.names l.around)) (sym same) known.inner;
  around = known.around;
}

pub closed_levels : (log : CallLog) (name : List ℕ) (l : Levels) → LevelsKnow log name l → LevelsKnow log name (levels_closed l)
closed_levels log name l known = record { inner = known.inner; around = known.around }

-- What is known as a step at a folder begins.
pub record FolderKnown (log : CallLog) (name : List ℕ) (l : Levels) : Type 0 where
  pub tree : IsTree (current log)
  pub files : IsOfFiles log
  pub nested : AreNested l.inner.copy.target l.around
  pub levels : LevelsKnow log name l

module _ (log now : CallLog) (name : List ℕ) (l : Levels) (known : FolderKnown log name l) where
  same : now ≡ log → LevelsKnow now name l
  same is = subst (λ (x : CallLog). LevelsKnow x name l) (sym is) known.levels

  refused : (call : Call) (why : Cause) (path : Option Route) → RunStops (call ∷ []) why path log (Some now) → LevelsKnow now name l
  refused call why path stops = elim (row_stops log now call why path stops) [
    | inl is ↦ same is
    | inr e ↦ levels_refused log now known.tree call e.0 e.1 name l known.levels
  ]

  none_stops : (why : Cause) (path : Option Route) → RunStops [] why path log (Some now) → LevelsKnow now name l
  none_stops (cause.Tree e) path (call, named, never) = absurd never
  none_stops cause.Memory path (none, (count, few, done)) = absurd (omega (arith, few))
  none_stops (cause.TargetKind kind) path h = absurd h
  none_stops cause.SpecialSource path h = absurd h
  none_stops cause.TooDeep path h = absurd h
  none_stops (cause.Unnamed count) path h = absurd h
  none_stops cause.PartTaken path h = absurd h
  none_stops cause.TooLong path h = absurd h
  none_stops (cause.Changed said got) path h = absurd h

  next_stops : (target : Route) (stage : Stage) (names : NamesState) (why : Cause) (path : Option Route) → RunStops (next_call target stage names) why path log (Some now) → LevelsKnow now name l
  next_stops target (at.Make mode) names why path run = refused (MakeFolder target (folder_mode mode)) why path run
  next_stops target (at.Close (Some mode)) names why path run = refused (SetMode target mode) why path run
  next_stops target (at.Close None) Dirty why path run = refused (SyncFolder target) why path run
  next_stops target (at.Close None) Synced why path run = none_stops why path run
  next_stops target (at.Fill owed) names why path run = none_stops why path run
  next_stops target at.Done names why path run = none_stops why path run

  -- a folder is made in the innermost one, where it was met next
  module _ (clean : is_around_dirty l.around ≡ false) (n : List ℕ) (met : Among (coming name l.inner.names l.around) n) (off : Among (let p : Levels = passed_levels false l in coming name p.inner.names p.around) n → ⊥) where
    abbrev up : Route
    up = l.inner.copy.target

    none_waits : name_waits log (n ∷ up) ≡ false
    none_waits = (let filling = filled_inner (is_around_dirty l.around) log up (coming name l.inner.names l.around) clean (let levels = known.levels in levels.inner) in filling.calm n met)

    made_new : (mode : ℕ) (names : List (List ℕ)) → Performs {A = Unit {0}} log (MakeFolder (n ∷ up) mode) (Ok tt) (Some now) → IsNew now (n ∷ up) names
    made_new mode names h =
        let d = done_call log (MakeFolder (n ∷ up) mode) now h in
        let passes = making_passes (current log) n up mode d.permits in
        subst (λ (x : CallLog). IsNew x (n ∷ up) names) (sym d.is) (folder_opens log known.tree up (found_node (current log) up) passes.folder n _ passes.none known.files passes.holds refl names none_waits)

    made_passed : (mode : ℕ) → Performs {A = Unit {0}} log (MakeFolder (n ∷ up) mode) (Ok tt) (Some now) → LevelsKnow now name (passed_levels false l)
    made_passed mode h = row_named name (passed_levels false l) clean known.nested log now (MakeFolder (n ∷ up) mode) n (Ok tt) known.tree h (λ q ns none. none) off (levels_passed log name false l known.levels)

    makes : (pair : Pair) (names : List (List ℕ)) (mode : ℕ) (moved : FolderCopying) (report : FolderDid) → pair.target ≡ n ∷ up → Tells (copying pair.source pair.target (at.Make mode) Synced) report moved
        → FolderCalls (copying pair.source pair.target (at.Make mode) Synced) report log (Some now) → LevelsKnow now name (made_levels moved.stage (opened_folder pair.source names) moved l)
    makes pair names mode moved (Made path) target_is (mode_now, stage, path_is, new_is) rows =
        let done = row_done log now (MakeFolder pair.target (folder_mode mode)) rows in
        let here = subst (λ t. Performs {A = Unit {0}} log (MakeFolder t (folder_mode mode)) (Ok tt) (Some now)) target_is done in
        let new = subst (λ t. IsNew now t names) (sym target_is) (made_new (folder_mode mode) names here) in
        subst (λ (c : FolderCopying). LevelsKnow now name (made_levels c.stage (opened_folder pair.source names) c l)) (sym new_is)
        (levels_entered now name (opened_folder pair.source names) _ l (made_passed (folder_mode mode) here) clean new)
    makes pair names mode moved (Troubled trouble) target_is (barrier, new_is) run =
        subst (λ (c : FolderCopying). LevelsKnow now name (made_levels c.stage (opened_folder pair.source names) c l)) (sym new_is) (refused (MakeFolder pair.target (folder_mode mode)) trouble.cause trouble.path run)
    makes pair names mode moved (Set path) target_is (mode_now, stage, path_is, new_is) rows = absurd (let f : ⊥ = cc in f)
    makes pair names mode moved Barrier target_is (stage, dirty, new_is) rows = absurd (let f : ⊥ = cc in f)
    makes pair names mode moved Closed target_is (stage, clean_is, new_is) rows = absurd (let f : ⊥ = cc in f)

    pub folder_makes : (pair : Pair) (names : List (List ℕ)) (mode : ℕ) (old new : Seen) (did : Did) → old.levels ≡ l → pair.target ≡ n ∷ up → FolderMakes pair names mode old new did (Some log) (Some now) → LevelsKnow now name new.levels
    folder_makes pair names mode old new did levels_are target_is w =
        subst (λ (s : Seen). LevelsKnow now name s.levels) (sym w.stands)
        (subst (λ (x : Levels). LevelsKnow now name (made_levels w.moved.stage (opened_folder pair.source names) w.moved x)) (sym levels_are)
        (makes pair names mode w.moved w.report target_is w.tells (w.called log refl)))

  -- the innermost folder is given its mode, or synced; it was made long ago
  module _ (clean : is_around_dirty l.around ≡ false) (old_one : (mode : ℕ) → l.inner.copy.stage ≡ at.Make mode → ⊥) where
    abbrev c : FolderCopying
    c = l.inner.copy

    rows_at : (stage : Stage) (names : NamesState) → c.stage ≡ stage → c.names ≡ names → AllDone log (next_call c.target c.stage c.names) (Some now) → AllDone log (next_call c.target stage names) (Some now)
    rows_at stage names stage_is names_is rows = subst (λ x. AllDone log (next_call c.target stage x) (Some now)) names_is (subst (λ x. AllDone log (next_call c.target x c.names) (Some now)) stage_is rows)

    quiet_ends : (moved : FolderCopying) (report : FolderDid) → Tells c report moved → FolderCalls c report log (Some now) → LevelsKnow now name (with_copy moved l)
    quiet_ends moved (Made path) (mode, stage, path_is, new_is) rows = absurd (old_one mode stage)
    quiet_ends moved (Set path) (mode, stage, path_is, new_is) rows =
        copy_levels now name l moved (ap (λ (x : FolderCopying). x.target) new_is)
        (row_quiet name l clean known.nested log now (SetMode c.target mode) (Ok tt) known.tree (row_done log now (SetMode c.target mode) (rows_at (at.Close (Some mode)) c.names stage refl rows)) (λ q ns. tt) known.levels)
    quiet_ends moved Barrier (stage, dirty, new_is) rows =
        copy_levels now name l moved (ap (λ (x : FolderCopying). x.target) new_is)
        (row_quiet name l clean known.nested log now (SyncFolder c.target) (Ok tt) known.tree (row_done log now (SyncFolder c.target) (rows_at (at.Close None) Dirty stage dirty rows)) (λ q ns. tt) known.levels)
    quiet_ends moved Closed (stage, synced, new_is) is = copy_levels now name l moved (ap (λ (x : FolderCopying). x.target) new_is) (same (some_log now log is))
    quiet_ends moved (Troubled trouble) (barrier, new_is) run =
        copy_levels now name l moved (ap (λ (x : FolderCopying). x.target) new_is) (next_stops c.target c.stage c.names trouble.cause trouble.path run)

    pub folder_ends : (old new : Seen) (did : Did) → old.levels ≡ l → FolderEnds old new did (Some log) (Some now) → LevelsKnow now name new.levels
    folder_ends old new did levels_are w =
        subst (λ (s : Seen). LevelsKnow now name s.levels) (sym w.stands)
        (subst (λ (x : Levels). LevelsKnow now name (with_copy w.moved x)) (sym levels_are)
        (quiet_ends w.moved w.report (subst (λ (x : Levels). Tells x.inner.copy w.report w.moved) levels_are w.tells)
        (subst (λ (x : Levels). FolderCalls x.inner.copy w.report log (Some now)) levels_are (w.called log refl))))

  -- the nearest folder around is synced
  module _ (outer : Level) (around : List Level) (was : l.around ≡ outer ∷ around) (dirty : is_around_dirty l.around ≡ true) where
    lies : (k : List ℕ) × (l.inner.copy.target ≡ k ∷ outer.copy.target)
    lies = (subst (AreNested l.inner.copy.target) was known.nested).0

    abbrev with_state : NamesState → Levels
    with_state names = record l { around = level outer.names (record outer.copy { names = names }) ∷ around }

    opens : Performs {A = Unit {0}} log (SyncFolder outer.copy.target) (Ok tt) (Some now) → LevelsKnow now name (with_state Synced)
    opens h =
        let d = done_call log (SyncFolder outer.copy.target) now h in
        subst (λ (x : CallLog). LevelsKnow x name (with_state Synced)) (sym d.is)
        (levels_opened log known.tree name lies.0 (found_node (current log) outer.copy.target) l outer around was (subst (λ (ls : List Level). is_around_dirty ls ≡ true) was dirty) lies.1
        (sync_finds (current log) outer.copy.target d.permits) known.levels)

    still_dirty : LevelsKnow now name l → LevelsKnow now name (with_state Dirty)
    still_dirty k = record {
      inner = subst (λ b. InnerKnows b now l.inner.copy.target l.inner.names.names) dirty
          (subst (λ (xs : List (List ℕ)). InnerKnows (is_around_dirty l.around) now l.inner.copy.target xs) (ap (λ (ls : List Level). coming name l.inner.names ls) was) k.inner);
      around = subst (AroundKnow now name) was k.around;
    }

    syncs : (names : NamesState) (report : FolderDid) → Tells (at_sync outer.copy) report (record (at_sync outer.copy) { names = names }) → FolderCalls (at_sync outer.copy) report log (Some now) → LevelsKnow now name (with_state names)
    syncs names Barrier (stage, is_dirty_now, new_is) rows =
        subst (λ n. LevelsKnow now name (with_state n)) (sym (ap (λ (x : FolderCopying). x.names) new_is)) (opens (row_done log now (SyncFolder outer.copy.target) rows))
    syncs names (Troubled trouble) (barrier, new_is) run =
        subst (λ n. LevelsKnow now name (with_state n)) (sym (ap (λ (x : FolderCopying). x.names) new_is)) (still_dirty (refused (SyncFolder outer.copy.target) trouble.cause trouble.path run))
    syncs names (Made path) (mode, stage, path_is, new_is) rows = absurd (let f : ⊥ = cc in f)
    syncs names (Set path) (mode, stage, path_is, new_is) rows = absurd (let f : ⊥ = cc in f)
    syncs names Closed (stage, synced, new_is) is = absurd (let f : ⊥ = cc in f)

  pub syncs_around : (old new : Seen) (did : Did) → old.levels ≡ l → SyncsAround old new did (Some log) (Some now) → LevelsKnow now name new.levels
  syncs_around old new did levels_are s =
      let was = ap (λ (x : Levels). x.around) (sym levels_are) ∙ s.was in
      let dirty = subst (λ (x : Levels). is_around_dirty x.around ≡ true) levels_are s.dirty in
      subst (λ (x : Seen). LevelsKnow now name x.levels) (sym s.stands)
      (subst (λ (x : Levels). LevelsKnow now name (record x { around = level s.outer.names (record s.outer.copy { names = s.names }) ∷ s.around })) (sym levels_are)
      (syncs s.outer s.around was dirty s.names s.report s.tells (s.called log refl)))
