-- Which names wait after each step, skip and retry of a tree's copy.
use Rattle.std.proofs.Common.{◌≡◌, ◌⊎◌, ℕ, suc, zero, Bool, true, false, List, ◌∷◌, refl, sym, ap, subst, inl, inr, Option, Some, None}
use Rattle.mc_text.specs.Routes.{Route}
use Rattle.tree_trait.specs.Calls.{MakeFolder, SetMode, SyncFolder}
use Rattle.tree_trait.specs.Change.{CallLog, change_of, current, with_change}
use Rattle.tree_trait.specs.Refusals.{refusal_of}
use Rattle.job_answers.specs.declared.replies.Replies.{Replies}
use Rattle.job_reports.specs.CallRuns.{AllDone, RunStops}
use Rattle.job_reports.specs.declared.job.Pair.{Pair}
use Rattle.job_reports.specs.declared.report.Cause.{Cause}
use Rattle.job_reports.specs.declared.report.Did.{Did}
use Rattle.job_reports.proofs.CallAnswers.{done_call, some_log}
use Rattle.job_reports.proofs.PermittedCalls.{making_passes}
use Rattle.copy_file.specs.Copying as file
use Rattle.copy_file.specs.Copying.{Copying, part_at}
use Rattle.copy_link.specs.LinkCopying as link
use Rattle.copy_link.specs.LinkCopying.{LinkCopying}
use Rattle.copy_folders.specs.FolderCopying.{FolderCopying, Tells, copying, folder_mode, is_dirty, owed_mode}
use Rattle.copy_folders.specs.FolderSteps.{FolderCalls, at_sync, next_call}
use Rattle.copy_folders.specs.declared.stage.FolderDid.{FolderDid}
use Rattle.copy_folders.specs.declared.stage.FolderDid.TheVariants as folder_did
use Rattle.copy_folders.specs.declared.stage.NamesState.{NamesState}
use Rattle.copy_folders.specs.declared.stage.NamesState.TheVariants.{Synced, Dirty}
use Rattle.copy_folders.specs.declared.stage.Stage.{Stage}
use Rattle.copy_folders.specs.declared.stage.Stage.TheVariants as at
use Rattle.tree_walk.specs.Places.{opened_folder}
use Rattle.copy_folders.specs.declared.level.Level.{Level}
use Rattle.copy_folders.specs.Levels.{IsLeft, Levels, levels_closed, dirtied_levels, is_around_dirty, level, made_levels, passed_levels, with_copy}
use Rattle.copy_tree.specs.declared.item.ItemAtWork.{ItemAtWork}
use Rattle.copy_tree.specs.declared.item.ItemAtWork.TheVariants.{Next, File, Link, Stays}
use Rattle.copy_tree.specs.declared.progress.Progress.{Progress}
use Rattle.copy_tree.specs.declared.progress.Progress.TheVariants.{UnderWay, Decided, Anew}
use Rattle.copy_tree.specs.Parts.{IsPartPlace}
use Rattle.copy_tree.specs.Progress.{link_progress, progress}
use Rattle.copy_tree.specs.Reports.{IsToldAs}
use Rattle.copy_tree.specs.Standing.{Seen, after_report, target_name}
use Rattle.copy_tree.specs.TreeCopySteps.{LeavesAll, LinkWorks, TakesNext, WorksOn, at_end, idle, link_begun, noted_copy, copy_after_progress}
use Rattle.laws_sessions.proofs.FileMoves.{FileMoves, taken_moves, worked_moves}
use Rattle.laws_sessions.proofs.AtWork.{ItemKnown}
use Rattle.laws_sessions.proofs.FoldersEnd.{EndsLast}
use Rattle.laws_sessions.proofs.Names.{IsMarked, IsMarkedAt, IsMarkedIn, WorkedMarked}
use Rattle.laws_sessions.proofs.EndSteps.{leaves_end}
use Rattle.laws_sessions.proofs.ItemLinks.{no_row}
use Rattle.laws_sessions.proofs.NameChanges.{WaitsIf, waits_made, waits_map}
use Rattle.laws_sessions.proofs.NameItems.{file_names, link_names}
use Rattle.laws_sessions.proofs.NameMarks.{Marked, made_here, mark_head, mark_split, marked_closed, marked_made, marked_passed, not_owing}
use Rattle.laws_sessions.proofs.NameRuns.{folder_synced, quiet_waits, stop_waits}
use Rattle.laws_sessions.proofs.QuietRuns.{row_done}
use Rattle.laws_sessions.proofs.TreeFiles.{FileKnown}
use Rattle.laws_sessions.proofs.TreeLinks.{LinkKnown}
use Rattle.laws_sessions.proofs.TreeSteps.{StepKnown, closing_not, next_of, taken_file, taken_link, worked_file, worked_link}

module _ (name : List ℕ) (up : Route) where
  abbrev Marks : Seen → Type 0
  Marks c = Marked up c.levels

  -- what is settled has the marks that it had
  pub settled_marks : (p : Progress) (item : ItemAtWork) (c : Seen) → Marks c → (let s : Seen = copy_after_progress p item c in Marked up s.levels)
  settled_marks UnderWay item c h = h
  settled_marks Decided item c h = marked_passed up false c.levels h
  settled_marks Anew item c h = h

  -- folders that are left aren't marked
  left_marks : (old new : Levels) → IsLeft old new → (is_dirty old.inner.copy.names ≡ true → ⊥) → Marked up old → Marked up new
  left_marks old new left clean h = by (subst (IsMarkedIn up old.inner) left.was h)
    where
      by : IsMarkedIn up old.inner (new.inner ∷ new.around) → Marked up new
      by (inl is) = absurd (clean is.1)
      by (inr is) = is

  pub leaves_marks : (n : ℕ) (old mid : Seen) → LeavesAll n old mid → EndsLast old → Marks old → Marks mid
  leaves_marks zero old mid is ends h = subst (λ (c : Seen). Marked up c.levels) (sym is) h
  leaves_marks (suc n) old mid (last, all, none, one) ends h =
      let r = one.returns in
      let before = leaves_end n old last all ends in
      left_marks (levels_closed last.levels) mid.levels r.left (not_owing last.levels.inner.copy.stage last.levels.inner.copy.names before.open_still one.done) (marked_closed up last.levels (leaves_marks n old last all ends h))

  module _ (free : Route → Bool) (replies : Replies) (old new : Seen) (did : Did) (log now : CallLog) (known : StepKnown log old) (h : WaitsIf name up log (Marks old)) where
    abbrev Unclaimed : Route → Type 0
    Unclaimed = IsPartPlace free old

    abbrev Then : Type 0
    Then = WaitsIf name up now (Marks new)

    same : (E : Type 0) → now ≡ log → WaitsIf name up log E → WaitsIf name up now E
    same E is so = subst (λ (x : CallLog). WaitsIf name up x E) (sym is) so

    as_new : (c : Seen) → new ≡ c → WaitsIf name up now (Marks c) → Then
    as_new c is so = subst (λ (x : Seen). WaitsIf name up now (Marked up x.levels)) (sym is) so

    file_works : (f : Copying) → FileKnown Unclaimed log old.name old.levels f → ((part : Route) → part_at f.stage ≡ Some part → is_dirty old.levels.inner.copy.names ≡ true) → FileMoves Unclaimed f old new did (Some log) (Some now) → Then
    file_works f about marked w =
        let m = w.moved in
        let c = noted_copy did (file.is_dirty m.folder) (idle old) in
        as_new (copy_after_progress (progress m.stage) (File m) c) w.stands
        (waits_map name up now (Marked up (dirtied_levels (file.is_dirty m.folder) old.levels)) _ (settled_marks (progress m.stage) (File m) c)
        (file_names name up log now known.files old.name old.levels h Unclaimed f about marked m did w.tells (w.called log refl)))

    link_works : (l : LinkCopying) → LinkKnown log old.name old.levels l → LinkWorks l old new did (Some log) (Some now) → Then
    link_works l about w =
        let m = w.moved in
        let c = noted_copy did (link.is_dirty m.folder) (idle old) in
        as_new (copy_after_progress (link_progress m.stage) (Link m) c) w.stands
        (waits_map name up now (Marked up (dirtied_levels (link.is_dirty m.folder) old.levels)) _ (settled_marks (link_progress m.stage) (Link m) c)
        (link_names name up log now known.files old.name old.levels h l about m did w.tells (w.called log refl)))

    -- the next call of a folder is refused
    next_stops : (E : Type 0) (target : Route) (stage : Stage) (names : NamesState) (why : Cause) (path : Option Route) → RunStops (next_call target stage names) why path log (Some now) → WaitsIf name up log E → WaitsIf name up now E
    next_stops E target (at.Make mode) names why path run so = stop_waits name up E log now (MakeFolder target (folder_mode mode)) why path known.tree run so
    next_stops E target (at.Close (Some mode)) names why path run so = stop_waits name up E log now (SetMode target mode) why path known.tree run so
    next_stops E target (at.Close None) Dirty why path run so = stop_waits name up E log now (SyncFolder target) why path known.tree run so
    next_stops E target (at.Close None) Synced why path run so = absurd (no_row log now why path run)
    next_stops E target (at.Fill owed) names why path run so = absurd (no_row log now why path run)
    next_stops E target at.Done names why path run so = absurd (no_row log now why path run)

    with_levels : (stage : _) (l : Levels) → new ≡ record old { stage = stage; levels = l } → WaitsIf name up now (Marked up l) → Then
    with_levels stage l is so = as_new (record old { stage = stage; levels = l }) is so

    -- a folder is made, or that is refused
    made_by : (pair : Pair) (names : List (List ℕ)) (mode : ℕ) (n : List ℕ) → pair.target ≡ n ∷ old.levels.inner.copy.target → (moved : FolderCopying) (report : FolderDid) → Tells (copying pair.source pair.target (at.Make mode) Synced) report moved
        → FolderCalls (copying pair.source pair.target (at.Make mode) Synced) report log (Some now) → WaitsIf name up now (Marked up (made_levels moved.stage (opened_folder pair.source names) moved old.levels))
    made_by pair names mode n target_is moved (folder_did.Made path) (mode_now, stage, path_is, new_is) rows =
        let call = MakeFolder pair.target (folder_mode mode) in
        let d = done_call log call now (row_done log now call rows) in
        let permits : refusal_of (current log) (MakeFolder (n ∷ old.levels.inner.copy.target) (folder_mode mode)) ≡ None = subst (λ r. refusal_of (current log) (MakeFolder r (folder_mode mode)) ≡ None) target_is d.permits in
        let then = subst (λ r. now ≡ with_change log (change_of (current log) (MakeFolder r (folder_mode mode)) d.time)) target_is d.is in
        subst (λ (x : CallLog). WaitsIf name up x (Marked up (made_levels moved.stage (opened_folder pair.source names) moved old.levels))) (sym then)
        (waits_made name up log known.tree known.files n old.levels.inner.copy.target _ (making_passes (current log) n old.levels.inner.copy.target (folder_mode mode) permits) (Marks old) _
        (made_here up moved.stage (opened_folder pair.source names) moved old.levels (owed_mode mode_now) (ap (λ (x : FolderCopying). x.stage) new_is)) (marked_made up moved.stage (opened_folder pair.source names) moved old.levels) h)
    made_by pair names mode n target_is moved (folder_did.Troubled trouble) tells run =
        waits_map name up now (Marks old) _ (marked_made up moved.stage (opened_folder pair.source names) moved old.levels) (next_stops (Marks old) pair.target (at.Make mode) Synced trouble.cause trouble.path run h)
    made_by pair names mode n target_is moved (folder_did.Set path) (mode_now, stage, path_is, new_is) rows = absurd (let f : ⊥ = cc in f)
    made_by pair names mode n target_is moved folder_did.Barrier (stage, dirty, new_is) rows = absurd (let f : ⊥ = cc in f)
    made_by pair names mode n target_is moved folder_did.Closed (stage, clean, new_is) rows = absurd (let f : ⊥ = cc in f)

    -- the innermost folder is given its mode, or synced
    abbrev c : FolderCopying
    c = let e : Seen = at_end old in e.levels.inner.copy

    split : Marks old → IsMarkedAt up (level old.levels.inner.names c) ⊎ ((l : Level) → IsMarkedIn up l old.levels.around)
    split m = mark_split up (level old.levels.inner.names c) old.levels.around (marked_closed up old.levels m)

    rows_at : (stage : Stage) (names : NamesState) → c.stage ≡ stage → c.names ≡ names → AllDone log (next_call c.target c.stage c.names) (Some now) → AllDone log (next_call c.target stage names) (Some now)
    rows_at stage names stage_is names_is rows =
        subst (λ x. AllDone log (next_call c.target stage x) (Some now)) names_is (subst (λ x. AllDone log (next_call c.target x c.names) (Some now)) stage_is rows)

    ends_by : (moved : FolderCopying) (report : FolderDid) → IsToldAs report did → Tells c report moved → FolderCalls c report log (Some now) → WaitsIf name up now (Marked up (with_copy moved old.levels))
    ends_by moved (folder_did.Made path) says (mode, stage, path_is, new_is) rows = absurd (closing_not old.levels.inner.copy.stage known.made mode stage)
    ends_by moved (folder_did.Set path) says (mode, stage, path_is, new_is) rows =
        let call = SetMode c.target mode in
        let d = done_call log call now (row_done log now call (rows_at (at.Close (Some mode)) c.names stage refl rows)) in
        let marked : Marks old → Marked up (with_copy moved old.levels) = λ m. elim (split m) [
          | inl is ↦ mark_head up (level old.levels.inner.names moved) old.levels.around (subst (λ (x : FolderCopying). IsMarkedAt up (level old.levels.inner.names x)) (sym new_is) (is.0, refl))
          | inr other ↦ other (level old.levels.inner.names moved)
        ] in
        waits_map name up now (Marks old) _ marked (subst (λ (x : CallLog). WaitsIf name up x (Marks old)) (sym d.is) (quiet_waits name up (Marks old) log _ known.tree (λ n g m. refl) h))
    ends_by moved folder_did.Barrier says (stage, dirty, new_is) rows =
        folder_synced name up log now c.target (Marks old) _ (rows_at (at.Close None) Dirty stage dirty rows)
        (λ m. elim (split m) [ inl is ↦ inl (sym is.0) | inr other ↦ inr (other (level old.levels.inner.names moved)) ]) h
    ends_by moved folder_did.Closed says tells is = absurd says
    ends_by moved (folder_did.Troubled trouble) says (barrier, new_is) run =
        waits_map name up now (Marks old) _ (λ m. subst (λ (x : FolderCopying). Marked up (with_copy x old.levels)) (sym new_is) (marked_closed up old.levels m))
        (next_stops (Marks old) c.target c.stage c.names trouble.cause trouble.path run h)

    -- the nearest folder around is synced
    module _ (outer : Level) (around : List Level) (was : old.levels.around ≡ outer ∷ around) where
      abbrev with_state : NamesState → Levels
      with_state names = record old.levels { around = level outer.names (record outer.copy { names = names }) ∷ around }

      around_marks : (names : NamesState) → Marks old → (IsMarkedAt up outer → (up ≡ outer.copy.target) ⊎ Marked up (with_state names)) → (up ≡ outer.copy.target) ⊎ Marked up (with_state names)
      around_marks names m here = by (subst (IsMarkedIn up old.levels.inner) was m)
        where
          by : IsMarkedIn up old.levels.inner (outer ∷ around) → (up ≡ outer.copy.target) ⊎ Marked up (with_state names)
          by (inl is) = inr (inl is)
          by (inr is) = elim (mark_split up outer around is) [ inl at_outer ↦ here at_outer | inr other ↦ inr (inr (other (level outer.names (record outer.copy { names = names })))) ]

      either : (F : Type 0) → ⊥ ⊎ F → F
      either F (inl never) = absurd never
      either F (inr f) = f

      around_by : (names : NamesState) (report : FolderDid) → Tells (at_sync outer.copy) report (record (at_sync outer.copy) { names = names }) → FolderCalls (at_sync outer.copy) report log (Some now) → WaitsIf name up now (Marked up (with_state names))
      around_by names folder_did.Barrier tells rows = folder_synced name up log now outer.copy.target (Marks old) _ rows (λ m. around_marks names m (λ is. inl (sym is.0))) h
      around_by names (folder_did.Troubled trouble) (barrier, new_is) run =
          waits_map name up now (Marks old) _ (stays (ap (λ (x : FolderCopying). x.names) new_is)) (next_stops (Marks old) outer.copy.target (at.Close None) Dirty trouble.cause trouble.path run h)
        where
          stays : names ≡ Dirty → Marks old → Marked up (with_state names)
          stays dirty m = by (subst (IsMarkedIn up old.levels.inner) was m)
            where
              by : IsMarkedIn up old.levels.inner (outer ∷ around) → Marked up (with_state names)
              by (inl is) = inl is
              by (inr is) = elim (mark_split up outer around is) [
                | inl at_outer ↦ inr (mark_head up (level outer.names (record outer.copy { names = names })) around (at_outer.0, ap is_dirty dirty))
                | inr other ↦ inr (other (level outer.names (record outer.copy { names = names })))
              ]
      around_by names (folder_did.Made path) (mode, stage, path_is, new_is) rows = absurd (let f : ⊥ = cc in f)
      around_by names (folder_did.Set path) (mode, stage, path_is, new_is) rows = absurd (let f : ⊥ = cc in f)
      around_by names folder_did.Closed (stage, synced, new_is) is = absurd (let f : ⊥ = cc in f)

    takes : TakesNext Unclaimed replies old new did (Some log) (Some now) → is_around_dirty old.levels.around ≡ false → Then
    takes (inl s) clean = as_new old s.stands (same (Marks old) (some_log now log s.same) h)
    takes (inr (inl t)) clean = file_works (file.begun_copy old.job t.pair.source t.pair.target) (taken_file free replies old new did log now known clean t) (λ part at. absurd (let f : ⊥ = cc in f)) (taken_moves Unclaimed replies old new did (Some log) (Some now) t)
    takes (inr (inr (inl t))) clean = link_works (link_begun t.pair t.part) (taken_link free replies old new did log now known clean t) t.works
    takes (inr (inr (inr (inl t)))) clean =
        let n = next_of old old.levels.inner.names.names t.pair t.next in
        let w = t.works in
        with_levels (after_report did old.stage) (let m = w.moved in made_levels m.stage (opened_folder t.pair.source t.names) m old.levels) w.stands (made_by t.pair t.names t.mode (target_name old n.name) n.target_is w.moved w.report w.tells (w.called log refl))
    takes (inr (inr (inr (inr (inl t))))) clean =
        as_new (record old { levels = passed_levels false old.levels }) t.stands (waits_map name up now (Marks old) _ (marked_passed up false old.levels) (same (Marks old) (some_log now log t.same) h))
    takes (inr (inr (inr (inr (inr (inl t)))))) clean =
        as_new (record old { levels = passed_levels false old.levels }) t.stands (waits_map name up now (Marks old) _ (marked_passed up false old.levels) (same (Marks old) (some_log now log t.same) h))
    takes (inr (inr (inr (inr (inr (inr (inl t))))))) clean = as_new old t.stands (same (Marks old) (some_log now log t.same) h)
    takes (inr (inr (inr (inr (inr (inr (inr (next, inl (debt, e))))))))) clean = with_levels (after_report did old.stage) (with_copy e.moved old.levels) e.stands (ends_by e.moved e.report e.says e.tells (e.called log refl))
    takes (inr (inr (inr (inr (inr (inr (inr (next, inr (debt, f, stays))))))))) clean =
        as_new (at_end old) f.stands (waits_map name up now (Marks old) _ (marked_closed up old.levels) (same (Marks old) (some_log now log stays) h))

    pub works_names : (item : ItemAtWork) → old.item ≡ item → ItemKnown log old item → IsMarked old → WorksOn item Unclaimed replies old new did (Some log) (Some now) → Then
    works_names Next is item marked (inl s) = with_levels (after_report did old.stage) (with_state s.outer s.around s.was s.names) s.stands (around_by s.outer s.around s.was s.names s.report s.tells (s.called log refl))
    works_names Next is item marked (inr (clean, t)) = takes t clean
    works_names (File f) is item marked w = file_works f (worked_file free replies old new did log now known f item) (λ part at. subst (λ i. WorkedMarked i old.levels.inner) is marked) (worked_moves Unclaimed f old new did (Some log) (Some now) w)
    works_names (Link l) is item marked w = link_works l (worked_link free replies old new did log now known l item) w
    works_names (Stays part) is item marked w = absurd w
