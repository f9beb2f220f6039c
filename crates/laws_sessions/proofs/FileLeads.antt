-- A step of the copy of a file at work, as a step of the copy of folders that works it.
use Rattle.std.proofs.Common.{◌≡◌, true, List, refl, sym, ◌∙◌, ap, subst, inl, Some}
use Rattle.std.specs.Prelude.{if◌then◌else◌}
use Rattle.std.proofs.lemmas.Bool.{or_right}
use Rattle.mc_text.specs.Routes.{Route}
use Rattle.tree_trait.specs.Change.{CallLog, current}
use Rattle.laws_crash.specs.Guarded.{Marks}
use Rattle.job_reports.specs.declared.report.Did.{Did}
use Rattle.job_reports.specs.declared.report.Did.TheVariants.{Began, Chunk, Placed, Removed, Made, Set, Kept, Skipped, Cleaned, Barrier, Asked, Merges, Moved, Troubled, Ended}
use Rattle.copy_file.specs.Copying.{Copying, Tells, is_dirty}
use Rattle.copy_folders.specs.FolderCopying as folder
use Rattle.copy_folders.specs.Levels.{is_around_dirty, target_around}
use Rattle.job_unsynced.specs.Folders.{with_change}
use Rattle.copy_tree.specs.InPlace.{IsMoved}
use Rattle.copy_tree.specs.Progress.{progress}
use Rattle.copy_tree.specs.Standing.{Seen}
use Rattle.copy_tree.specs.TreeCopySteps.{FileWorks, idle, noted_copy, copy_after_progress}
use Rattle.copy_tree.specs.declared.item.ItemAtWork.{ItemAtWork}
use Rattle.copy_tree.specs.declared.item.ItemAtWork.TheVariants.{File}
use Rattle.copy_tree.specs.declared.progress.Progress.{Progress}
use Rattle.copy_tree.specs.declared.progress.Progress.TheVariants.{UnderWay, Decided, Anew}
use Rattle.copy_job.specs.Marks.{brings_in, folder_worked, is_dirty_after, is_left_dirty, was_dirty}
use Rattle.copy_job.specs.Standing.{SubtreeCopying}
use Rattle.copy_move.specs.declared.run.Course.TheVariants.{GoesOn}
use Rattle.copy_move.specs.declared.work.Work.TheVariants.{Copy}
use Rattle.copy_move.specs.Jobs.{course_after}
use Rattle.laws_sessions.proofs.CopySteps.{copy_tells}
use Rattle.laws_sessions.proofs.KnownParts.{FileKnows}
use Rattle.laws_sessions.proofs.Knowing.{IsKept, HistoryFacts}
use Rattle.laws_sessions.proofs.ListSteps.{left_marks}
use Rattle.laws_sessions.proofs.NameMarks.{dirty_stays}
use Rattle.laws_sessions.proofs.Stepped.{StepRan, comes_map, said_after}
use Rattle.laws_sessions.proofs.TreeKnown.{ItemHas, TargetKnows}
use Rattle.laws_sessions.proofs.TreeSkipped.{file_has}

-- a mark stays where a file is passed
pub settled_dirty : (p : Progress) (item : ItemAtWork) (c : Seen) → folder.is_dirty c.levels.inner.copy.names ≡ true → (let n : Seen = copy_after_progress p item c in folder.is_dirty n.levels.inner.copy.names) ≡ true
settled_dirty UnderWay item c dirty = dirty
settled_dirty Decided item c dirty = dirty
settled_dirty Anew item c dirty = dirty

module _ (told : HistoryFacts) (dirty dirty_after : List Route) (marks : Marks) (log now : CallLog) (kept : IsKept told dirty marks log) (c : SubtreeCopying) (f : Copying) (old new : Seen) (did : Did) (unclaimed : Route → Type 0) (item : old.item ≡ File f)
    (going : progress f.stage ≡ UnderWay) (lies : IsMoved c.top f.source f.target) (marked : folder.is_dirty old.levels.inner.copy.names ≡ true) (calm : told.calm c.top.target ≡ true)
    (known : FileKnows told dirty marks (current log) GoesOn f) (list : dirty_after ≡ with_change (was_dirty old) (is_dirty_after old did new) (folder_worked old) dirty) (w : FileWorks unclaimed f old new did (Some log) (Some now)) where
  abbrev moved : Copying
  moved = w.moved

  new_marked : folder.is_dirty new.levels.inner.copy.names ≡ true
  new_marked = ap (λ (x : Seen). folder.is_dirty x.levels.inner.copy.names) w.stands
      ∙ settled_dirty (progress moved.stage) (File moved) (noted_copy did (is_dirty moved.folder) (idle old)) (dirty_stays (is_dirty moved.folder) old.levels marked)

  -- so the list of dirty folders does
  list_same : dirty_after ≡ dirty
  list_same =
      list
      ∙ (ap (λ b. with_change (if b then true else folder.is_dirty old.levels.inner.copy.names) (if b then is_around_dirty new.levels.around else is_left_dirty did new)
      (if b then target_around old.levels.around else old.levels.inner.copy.target) dirty) (ap (λ i. brings_in i old.levels) item)
      ∙ (ap (λ b. with_change b (is_left_dirty did new) old.levels.inner.copy.target dirty) marked ∙ ap (λ b. with_change true b old.levels.inner.copy.target dirty) (left_marks did new new_marked)))

  abbrev after : HistoryFacts
  after = said_after now did (Copy c) told

  -- what is known then of the copy of folders
  abbrev pub KnownThen : Marks → Type 0
  KnownThen m = ItemHas after dirty_after m (current now) (course_after did) new.item × TargetKnows after m (current now) (record c { at = new })

  -- the target is calm still
  calm_then : (d : Did) → Tells f d moved → (let s : HistoryFacts = said_after now d (Copy c) told in s.calm c.top.target) ≡ true
  calm_then (Began part) t = or_right _ _ calm
  calm_then (Chunk count) t = calm
  calm_then (Cleaned part) t = calm
  calm_then (Troubled trouble) t = calm
  calm_then (Placed path) t = calm
  calm_then Barrier t = calm
  calm_then (Ended ending part) t = calm
  calm_then did t = absurd t

  -- a step of the file at work
  pub file_comes : StepRan told after dirty_after log now KnownThen
  file_comes = comes_map told after dirty_after log now (λ m. FileKnows after dirty_after m (current now) (course_after did) moved) KnownThen
      (λ m k file. (
        subst (λ (x : Seen). ItemHas after dirty_after m (current now) (course_after did) x.item) (sym w.stands)
            (file_has after dirty_after m (current now) (course_after did) moved (noted_copy did (is_dirty moved.folder) old) moved.stage refl file),
        inl (calm_then did w.tells),
      ))
      (subst (λ routes. StepRan told after routes log now (λ m. FileKnows after routes m (current now) (course_after did) moved)) (sym list_same)
      (copy_tells told dirty marks log now kept c f lies unclaimed moved did going known w.tells (w.called log refl)))
