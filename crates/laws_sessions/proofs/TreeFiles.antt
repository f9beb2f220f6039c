-- A step in the copy of a file keeps what is known of the folders that a tree's copy has open.
use Rattle.std.proofs.Common.{◌≡◌, ℕ, Bool, true, false, List, [], ◌∷◌, refl, sym, ap, subst, inl, inr, Option, Some, Ok}
use Rattle.mc_text.specs.Routes.{Route}
use Rattle.tree_trait.specs.Calls.{Call, RemoveFile, SyncFolder}
use Rattle.tree_trait.specs.Change.{CallLog, current}
use Rattle.tree_trait.specs.CrashImages.{Among}
use Rattle.tree_trait.specs.Shape.{IsTree}
use Rattle.job_reports.specs.CallRuns.{AllDone, RunStops}
use Rattle.job_reports.specs.Paths.{folder_of}
use Rattle.job_reports.specs.declared.report.Cause.{Cause}
use Rattle.job_reports.specs.declared.report.Did.{Did}
use Rattle.job_reports.specs.declared.report.Did.TheVariants.{Began, Chunk, Placed, Removed, Made, Set, Kept, Skipped, Cleaned, Barrier, Asked, Merges, Moved, Troubled, Ended}
use Rattle.job_reports.proofs.CallAnswers.{some_log}
use Rattle.copy_file.specs.CopyCalls.{making, writing}
use Rattle.copy_file.specs.Copying as file
use Rattle.copy_file.specs.Copying.{Copying, Tells, after_clean, part_at, places_of}
use Rattle.copy_file.specs.PartNames.{IsFirstFree, IsShort, part_name, part_path}
use Rattle.copy_file.specs.declared.stage.Stage.{Stage}
use Rattle.copy_file.specs.declared.stage.Stage.TheVariants as at
use Rattle.copy_tree.specs.declared.item.ItemAtWork.{ItemAtWork}
use Rattle.copy_tree.specs.declared.item.ItemAtWork.TheVariants.{File}
use Rattle.copy_tree.specs.declared.progress.Progress.{Progress}
use Rattle.copy_tree.specs.declared.progress.Progress.TheVariants.{UnderWay, Decided, Anew}
use Rattle.copy_folders.specs.Levels.{Levels, coming, dirtied_levels, is_around_dirty, passed_levels}
use Rattle.copy_tree.specs.Parts.{IsShortPart}
use Rattle.copy_tree.specs.Progress.{progress}
use Rattle.copy_tree.specs.Standing.{Seen}
use Rattle.copy_tree.specs.TreeCopySteps.{after_file, idle, noted_copy, copy_after_progress}
use Rattle.laws_sessions.proofs.FileMoves.{MoveCalls, MoveStops}
use Rattle.laws_sessions.proofs.FilledCalls.{IsNoneOf}
use Rattle.laws_sessions.proofs.AtWork.{HasItem}
use Rattle.laws_sessions.proofs.OpenFolders.{LevelsKnow}
use Rattle.laws_sessions.proofs.FoldersLie.{AreNested}
use Rattle.laws_sessions.proofs.QuietRuns.{part_stops, row_done, row_stops}
use Rattle.laws_sessions.proofs.TreeKnows.{levels_passed, levels_quiet, levels_refused}
use Rattle.laws_sessions.proofs.TreeRuns.{Ready, part_placed, row_named, row_quiet}

-- What is known of open folders stays known where one of them gets dirty, and the next name is done with.
module _ (now : CallLog) (name : List ℕ) where
  dirty_levels : (changed : Bool) (l : Levels) → LevelsKnow now name l → LevelsKnow now name (dirtied_levels changed l)
  dirty_levels true l known = record { inner = known.inner; around = known.around }
  dirty_levels false l known = record { inner = known.inner; around = known.around }

  passed_dirty : (changed : Bool) (l : Levels) → LevelsKnow now name (passed_levels false l) → LevelsKnow now name (passed_levels false (dirtied_levels changed l))
  passed_dirty true l known = record { inner = known.inner; around = known.around }
  passed_dirty false l known = record { inner = known.inner; around = known.around }

  -- what has to be known by how far a file or a link is
  abbrev pub Needs : Progress → Levels → Type 0
  Needs UnderWay l = LevelsKnow now name l
  Needs Decided l = LevelsKnow now name (passed_levels false l)
  Needs Anew l = LevelsKnow now name l

  pub needs : (p : Progress) (l : Levels) → LevelsKnow now name l → Needs p l
  needs UnderWay l known = known
  needs Decided l known = levels_passed now name false l known
  needs Anew l known = known

  pub settled_levels : (p : Progress) (item : ItemAtWork) (did : Did) (changed : Bool) (c : Seen) → Needs p c.levels → LevelsKnow now name (let s : Seen = copy_after_progress p item (noted_copy did changed c) in s.levels)
  settled_levels UnderWay item did changed c known = dirty_levels changed c.levels known
  settled_levels Decided item did changed c known = passed_dirty changed c.levels known
  settled_levels Anew item did changed c known = dirty_levels changed c.levels known

  file_then : (moved : Copying) (did : Did) (old new : Seen) (p : Progress) → progress moved.stage ≡ p → new ≡ after_file did moved (idle old) → Needs p old.levels → LevelsKnow now name new.levels
  file_then moved did old new p p_is stands known =
      subst (λ (s : Seen). LevelsKnow now name s.levels) (sym stands)
      (subst (λ q. LevelsKnow now name (let s : Seen = copy_after_progress q (File moved) (noted_copy did (file.is_dirty moved.folder) (idle old)) in s.levels)) (sym p_is)
      (settled_levels p (File moved) did (file.is_dirty moved.folder) (idle old) known))

-- Of a file: where its part stands, and that a part which is begun has the name of nothing that is yet to be met.
pub record FileKnown (unclaimed : Route → Type 0) (log : CallLog) (name : List ℕ) (l : Levels) (f : Copying) : Type 0 where
  pub tree : IsTree (current log)
  pub clean : is_around_dirty l.around ≡ false
  pub nested : AreNested l.inner.copy.target l.around
  pub levels : LevelsKnow log name l
  pub within : folder_of f.target ≡ l.inner.copy.target
  pub item : (part : Route) → part_at f.stage ≡ Some part → HasItem log name l part f.target
  pub begins : f.stage ≡ at.Begin → (k : ℕ) → IsFirstFree (current log) unclaimed (places_of f) k → IsShort (part_path (places_of f) k) → Among (coming name l.inner.names l.around) (part_name f.job k) → ⊥

module _ (unclaimed : Route → Type 0) (log now : CallLog) (name : List ℕ) (l : Levels) (f : Copying) (known : FileKnown unclaimed log name l f) where
  abbrev Stays : Type 0
  Stays = LevelsKnow now name l

  refused : (call : Call) (why : Cause) (path : Option Route) → RunStops (call ∷ []) why path log (Some now) → Stays
  refused call why path stops = elim (row_stops log now call why path stops) [
    | inl same ↦ subst (λ (x : CallLog). LevelsKnow x name l) (sym same) known.levels
    | inr e ↦ levels_refused log now known.tree call e.0 e.1 name l known.levels
  ]

  same : now ≡ log → Stays
  same is = subst (λ (x : CallLog). LevelsKnow x name l) (sym is) known.levels

  begun : f.stage ≡ at.Begin → (k : ℕ) → IsFirstFree (current log) unclaimed (places_of f) k → IsShort (part_path (places_of f) k) → AllDone log (making (current log) (places_of f) k ∷ []) (Some now) → Stays
  begun is k free short rows =
      row_named name l known.clean known.nested log now (making (current log) (places_of f) k) (part_name f.job k) (Ok tt) known.tree (row_done log now (making (current log) (places_of f) k) rows)
      (λ q ns off. subst (λ r. IsNoneOf q ns (part_name f.job k ∷ r)) (sym known.within) off) (known.begins is k free short) known.levels

  removed : (part : Route) → part_at f.stage ≡ Some part → AllDone log (RemoveFile part ∷ []) (Some now) → Stays
  removed part is rows =
      let item = known.item part is in
      let work = item.work in
      row_named name l known.clean known.nested log now (RemoveFile part) work.k (Ok tt) known.tree (row_done log now (RemoveFile part) rows)
      (λ q ns off. subst (λ r. IsNoneOf q ns r) (sym work.part_is) off) item.off known.levels

  ready : (part : Route) → part_at f.stage ≡ Some part → Ready name (passed_levels false l) known.clean known.nested log part f.target
  ready part is = let item = known.item part is in record { tree = known.tree; known = levels_passed log name false l known.levels; work = item.work }

  -- a trouble, by where the copy stands
  stops : (stage : Stage) → f.stage ≡ stage → (why : Cause) (path : Option Route) → MoveStops unclaimed (places_of f) stage why path log (Some now) → Stays
  stops at.Begin is why path (inl none) = same (some_log now log none)
  stops at.Begin is why path (inr (k, free, run)) = refused (making (current log) (places_of f) k) why path run
  stops (at.Fill part said done) is why path (inl (less, inl read)) = same (some_log now log read.1)
  stops (at.Fill part said done) is why path (inl (less, inr write)) = refused (writing (current log) (places_of f) part said done) why path write
  stops (at.Fill part said done) is why path (inr (full, run)) = part_stops (λ (x : CallLog). LevelsKnow x name l) (λ from c tree none is. levels_quiet from c tree none name l is) log now known.tree said.mode part f.target why path run known.levels
  stops (at.Clean part follows) is why path run = refused (RemoveFile part) why path run
  stops (at.Left part) is why path none = absurd none
  stops at.Decided is why path run = refused (SyncFolder (folder_of f.target)) why path run

  pub file_step : (moved : Copying) (did : Did) (old new : Seen) → old.levels ≡ l → IsShortPart (part_at moved.stage) → Tells f did moved → MoveCalls unclaimed f did moved log (Some now) → new ≡ after_file did moved (idle old)
      → LevelsKnow now name new.levels
  file_step moved (Began part) old new levels_are short (stage, (facts, new_is)) (looked, began_of, (k, part_is, free, rows)) stands =
      file_then now name moved (Began part) old new UnderWay (ap (λ (c : Copying). progress c.stage) new_is) stands (subst (LevelsKnow now name) (sym levels_are)
      (begun stage k free (subst IsShort part_is (subst (λ (c : Copying). IsShortPart (part_at c.stage)) new_is short)) rows))
  file_step moved (Chunk count) old new levels_are short (part, facts, done, stage, least, most, fits, new_is) (part_now, facts_now, done_now, stage_now, count_is, rows) stands =
      file_then now name moved (Chunk count) old new UnderWay (ap (λ (c : Copying). progress c.stage) new_is) stands (subst (LevelsKnow now name) (sym levels_are)
      (row_quiet name l known.clean known.nested log now (writing (current log) (places_of f) part_now facts_now done_now) (Ok tt) known.tree
      (row_done log now (writing (current log) (places_of f) part_now facts_now done_now) rows) (λ q ns. tt) known.levels))
  file_step moved (Placed path) old new levels_are short (part, facts, stage, path_is, new_is) (part_now, facts_now, stage_now, rows) stands =
      file_then now name moved (Placed path) old new Decided (ap (λ (c : Copying). progress c.stage) new_is) stands (subst (λ (x : Levels). LevelsKnow now name (passed_levels false x)) (sym levels_are)
      (part_placed name (passed_levels false l) known.clean known.nested log now facts_now.mode part_now f.target (ready part_now (ap part_at stage_now)) rows))
  file_step moved (Cleaned part) old new levels_are short (follows, stage, new_is) rows stands =
      file_then now name moved (Cleaned part) old new (progress (after_clean follows)) (ap (λ (c : Copying). progress c.stage) new_is) stands
      (needs now name (progress (after_clean follows)) old.levels (subst (LevelsKnow now name) (sym levels_are) (removed part (ap part_at stage) rows)))
  file_step moved Barrier old new levels_are short tells rows stands =
      file_then now name moved Barrier old new (progress moved.stage) refl stands (needs now name (progress moved.stage) old.levels (subst (LevelsKnow now name) (sym levels_are)
      (row_quiet name l known.clean known.nested log now (SyncFolder (folder_of f.target)) (Ok tt) known.tree (row_done log now (SyncFolder (folder_of f.target)) rows) (λ q ns. tt) known.levels)))
  file_step moved (Troubled trouble) old new levels_are short tells calls stands =
      file_then now name moved (Troubled trouble) old new (progress moved.stage) refl stands (needs now name (progress moved.stage) old.levels (subst (LevelsKnow now name) (sym levels_are) (stops f.stage refl trouble.cause trouble.path calls)))
  file_step moved (Ended ending part) old new levels_are short tells calls stands =
      file_then now name moved (Ended ending part) old new (progress moved.stage) refl stands (needs now name (progress moved.stage) old.levels (subst (LevelsKnow now name) (sym levels_are) (same (some_log now log calls))))
  file_step moved did old new levels_are short tells calls stands = absurd tells
