-- A step in the copy of a link keeps what is known of the folders that a tree's copy has open.
use Rattle.std.proofs.Common.{◌≡◌, ℕ, true, false, List, [], ◌∷◌, refl, sym, ap, subst, inl, inr, Option, Some, Ok, arith}
use Rattle.mc_text.specs.Routes.{Route}
use Rattle.tree_trait.specs.Calls.{Call, MakeLink, RemoveFile, Rename, SyncFolder}
use Rattle.tree_trait.specs.Change.{CallLog, current}
use Rattle.tree_trait.specs.CrashImages.{Among}
use Rattle.tree_trait.specs.Shape.{IsTree}
use Rattle.job_reports.specs.CallRuns.{AllDone, RunStops}
use Rattle.job_reports.specs.Paths.{folder_of}
use Rattle.job_reports.specs.declared.report.Cause.{Cause}
use Rattle.job_reports.specs.declared.report.Cause.TheVariants as cause
use Rattle.job_reports.specs.declared.report.Did.{Did}
use Rattle.job_reports.specs.declared.report.Did.TheVariants.{Began, Chunk, Placed, Removed, Made, Set, Kept, Skipped, Cleaned, Barrier, Asked, Merges, Moved, Troubled, Ended}
use Rattle.job_reports.proofs.CallAnswers.{some_log}
use Rattle.copy_link.specs.LinkCopying as link
use Rattle.copy_link.specs.LinkCopying.{LinkCopying, Tells, after_clean, has_part}
use Rattle.copy_link.specs.LinkSteps.{LinkCalls, LinkStops, link_text, next_call}
use Rattle.copy_link.specs.declared.stage.Stage.{Stage}
use Rattle.copy_link.specs.declared.stage.Stage.TheVariants as at
use Rattle.copy_tree.specs.declared.item.ItemAtWork.TheVariants.{Link}
use Rattle.copy_tree.specs.declared.progress.Progress.{Progress}
use Rattle.copy_tree.specs.declared.progress.Progress.TheVariants.{UnderWay, Decided}
use Rattle.copy_folders.specs.Levels.{Levels, coming, is_around_dirty, passed_levels}
use Rattle.copy_tree.specs.Progress.{link_progress}
use Rattle.copy_tree.specs.Standing.{Seen}
use Rattle.copy_tree.specs.TreeCopySteps.{after_link, idle, noted_copy, copy_after_progress}
use Rattle.laws_sessions.proofs.FilledCalls.{IsNoneOf}
use Rattle.laws_sessions.proofs.AtWork.{HasItem}
use Rattle.laws_sessions.proofs.OpenFolders.{LevelsKnow}
use Rattle.laws_sessions.proofs.FoldersLie.{AreNested}
use Rattle.laws_sessions.proofs.QuietRuns.{row_done, row_stops}
use Rattle.laws_sessions.proofs.TreeFiles.{Needs, needs, settled_levels}
use Rattle.laws_sessions.proofs.TreeKnows.{levels_passed, levels_refused}
use Rattle.laws_sessions.proofs.TreeRuns.{row_named, row_quiet, row_renamed}

link_then : (now : CallLog) (name : List ℕ) (moved : LinkCopying) (did : Did) (old new : Seen) (p : Progress) → link_progress moved.stage ≡ p → new ≡ after_link did moved (idle old) → Needs now name p old.levels → LevelsKnow now name new.levels
link_then now name moved did old new p p_is stands known =
    subst (λ (s : Seen). LevelsKnow now name s.levels) (sym stands)
    (subst (λ q. LevelsKnow now name (let s : Seen = copy_after_progress q (Link moved) (noted_copy did (link.is_dirty moved.folder) (idle old)) in s.levels)) (sym p_is)
    (settled_levels now name p (Link moved) did (link.is_dirty moved.folder) (idle old) known))

-- Of a link: where its part stands, and that a part which is begun has the name of nothing that is yet to be met.
pub record LinkKnown (log : CallLog) (name : List ℕ) (l : Levels) (c : LinkCopying) : Type 0 where
  pub tree : IsTree (current log)
  pub clean : is_around_dirty l.around ≡ false
  pub nested : AreNested l.inner.copy.target l.around
  pub levels : LevelsKnow log name l
  pub item : has_part c.stage ≡ true → HasItem log name l c.part c.target
  pub begins : c.stage ≡ at.Make → (k : List ℕ) × (c.part ≡ k ∷ l.inner.copy.target) × (Among (coming name l.inner.names l.around) k → ⊥)

module _ (log now : CallLog) (name : List ℕ) (l : Levels) (c : LinkCopying) (known : LinkKnown log name l c) where
  abbrev Stays : Type 0
  Stays = LevelsKnow now name l

  same : now ≡ log → Stays
  same is = subst (λ (x : CallLog). LevelsKnow x name l) (sym is) known.levels

  refused : (call : Call) (why : Cause) (path : Option Route) → RunStops (call ∷ []) why path log (Some now) → Stays
  refused call why path stops = elim (row_stops log now call why path stops) [
    | inl is ↦ same is
    | inr e ↦ levels_refused log now known.tree call e.0 e.1 name l known.levels
  ]

  none_stops : (why : Cause) (path : Option Route) → RunStops [] why path log (Some now) → Stays
  none_stops (cause.Tree e) path (call, named, never) = absurd never
  none_stops cause.Memory path (none, (count, few, done)) = absurd (omega (arith, few))
  none_stops (cause.TargetKind kind) path h = absurd h
  none_stops cause.SpecialSource path h = absurd h
  none_stops cause.TooDeep path h = absurd h
  none_stops (cause.Unnamed count) path h = absurd h
  none_stops cause.PartTaken path h = absurd h
  none_stops cause.TooLong path h = absurd h
  none_stops (cause.Changed said got) path h = absurd h

  stops : (stage : Stage) (why : Cause) (path : Option Route) → LinkStops c stage why path log (Some now) → Stays
  stops at.Make why path (inl read) = same (some_log now log read.1)
  stops at.Make why path (inr run) = refused (MakeLink c.part (link_text (current log) c.source)) why path run.1
  stops at.Place why path run = refused (Rename c.part c.target) why path run
  stops (at.Clean follows) why path run = refused (RemoveFile c.part) why path run
  stops at.Decided why path run = refused (SyncFolder (folder_of c.target)) why path run
  stops at.Left why path run = none_stops why path run
  stops at.Again why path run = none_stops why path run

  rows_at : (stage : Stage) → c.stage ≡ stage → AllDone log (next_call (current log) c c.stage) (Some now) → AllDone log (next_call (current log) c stage) (Some now)
  rows_at stage is rows = subst (λ x. AllDone log (next_call (current log) c x) (Some now)) is rows

  begun : c.stage ≡ at.Make → AllDone log (MakeLink c.part (link_text (current log) c.source) ∷ []) (Some now) → Stays
  begun is rows =
      let b = known.begins is in
      row_named name l known.clean known.nested log now (MakeLink c.part (link_text (current log) c.source)) b.0 (Ok tt) known.tree (row_done log now (MakeLink c.part (link_text (current log) c.source)) rows)
      (λ q ns off. subst (λ r. IsNoneOf q ns r) (sym b.1) off) b.2 known.levels

  removed : (follows : _) → c.stage ≡ at.Clean follows → AllDone log (RemoveFile c.part ∷ []) (Some now) → Stays
  removed follows is rows =
      let item = known.item (ap has_part is) in
      let work = item.work in
      row_named name l known.clean known.nested log now (RemoveFile c.part) work.k (Ok tt) known.tree (row_done log now (RemoveFile c.part) rows)
      (λ q ns off. subst (λ r. IsNoneOf q ns r) (sym work.part_is) off) item.off known.levels

  placed : c.stage ≡ at.Place → AllDone log (Rename c.part c.target ∷ []) (Some now) → LevelsKnow now name (passed_levels false l)
  placed is rows =
      let item = known.item (ap has_part is) in
      row_renamed name (passed_levels false l) known.clean known.nested log now c.part c.target (Ok tt) known.tree (row_done log now (Rename c.part c.target) rows) item.work (levels_passed log name false l known.levels)

  pub link_step : (moved : LinkCopying) (did : Did) (old new : Seen) → old.levels ≡ l → Tells c did moved → LinkCalls c did log (Some now) → new ≡ after_link did moved (idle old) → LevelsKnow now name new.levels
  link_step moved (Began part) old new levels_are (stage, part_is, new_is) (read, rows) stands =
      link_then now name moved (Began part) old new UnderWay (ap (λ (x : LinkCopying). link_progress x.stage) new_is) stands (subst (LevelsKnow now name) (sym levels_are) (begun stage (rows_at at.Make stage rows)))
  link_step moved (Placed path) old new levels_are (stage, path_is, new_is) (read, rows) stands =
      link_then now name moved (Placed path) old new Decided (ap (λ (x : LinkCopying). link_progress x.stage) new_is) stands (subst (λ (x : Levels). LevelsKnow now name (passed_levels false x)) (sym levels_are) (placed stage (rows_at at.Place stage rows)))
  link_step moved (Cleaned part) old new levels_are (follows, stage, part_is, new_is) (read, rows) stands =
      link_then now name moved (Cleaned part) old new (link_progress (after_clean follows)) (ap (λ (x : LinkCopying). link_progress x.stage) new_is) stands
      (needs now name (link_progress (after_clean follows)) old.levels (subst (LevelsKnow now name) (sym levels_are) (removed follows stage (rows_at (at.Clean follows) stage rows))))
  link_step moved Barrier old new levels_are (stage, dirty, new_is) (read, rows) stands =
      link_then now name moved Barrier old new (link_progress moved.stage) refl stands (needs now name (link_progress moved.stage) old.levels (subst (LevelsKnow now name) (sym levels_are)
      (row_quiet name l known.clean known.nested log now (SyncFolder (folder_of c.target)) (Ok tt) known.tree (row_done log now (SyncFolder (folder_of c.target)) (rows_at at.Decided stage rows)) (λ q ns. tt) known.levels)))
  link_step moved (Troubled trouble) old new levels_are tells calls stands =
      link_then now name moved (Troubled trouble) old new (link_progress moved.stage) refl stands (needs now name (link_progress moved.stage) old.levels (subst (LevelsKnow now name) (sym levels_are) (stops c.stage trouble.cause trouble.path calls)))
  link_step moved did old new levels_are tells calls stands = absurd tells
