-- Where a copy of folders begins a file: its part is made, or a trouble comes before.
use Rattle.std.proofs.Common.{◌≡◌, ◌⊎◌, Bool, true, false, List, ◌∷◌, refl, sym, ◌∙◌, ap, subst, inl, inr, Some, None, []}
use Rattle.std.proofs.lemmas.Bool.{or_left}
use Rattle.mc_text.specs.Routes.{Route, is_prefix}
use Rattle.tree_trait.specs.CrashImages.{Among}
use Rattle.tree_trait.specs.Change.{Nothing, CallLog, current, found_node, with_change}
use Rattle.tree_trait.proofs.Walking.{stat-found}
use Rattle.laws_crash.specs.Guarded.{Marks}
use Rattle.job_answers.specs.declared.replies.Replies.{Replies}
use Rattle.job_reports.specs.Paths.{folder_of}
use Rattle.job_reports.specs.declared.report.Did.{Did}
use Rattle.job_reports.specs.declared.report.Did.TheVariants.{Began, Chunk, Placed, Removed, Made, Set, Kept, Skipped, Cleaned, Barrier, Asked, Merges, Moved, Troubled, Ended}
use Rattle.job_reports.specs.declared.report.Ending.TheVariants.{Finished, Aborted, Killed, NoMemory}
use Rattle.job_reports.specs.declared.report.Trouble.{Trouble}
use Rattle.job_reports.proofs.CallAnswers.{one_done, some_log}
use Rattle.copy_file.specs.Copying as file
use Rattle.copy_file.specs.Copying.{Copying, places_of}
use Rattle.copy_file.specs.CopyCalls.{making}
use Rattle.copy_file.specs.declared.stage.FolderState.TheVariants.{Dirty}
use Rattle.copy_folders.specs.Levels.{is_around_dirty}
use Rattle.job_unsynced.specs.Folders.{joined_folders, with_change as change_list}
use Rattle.copy_tree.specs.Parts.{IsPartPlace, ahead}
use Rattle.copy_tree.specs.Progress.{progress}
use Rattle.copy_tree.specs.Standing.{Seen, target_name}
use Rattle.copy_tree.specs.TreeCopySteps.{TakesFile, idle, noted_copy, copy_after_progress}
use Rattle.copy_tree.specs.declared.item.ItemAtWork.TheVariants.{Next, File}
use Rattle.copy_job.specs.Marks.{folder_worked, is_dirty_after, is_left_dirty, was_dirty}
use Rattle.copy_job.specs.Standing.{SubtreeCopying}
use Rattle.copy_move.specs.declared.run.Course.TheVariants.{GoesOn}
use Rattle.copy_move.specs.declared.work.Work.TheVariants.{Copy}
use Rattle.laws_sessions.proofs.BareTargets.{free_or_bare}
use Rattle.laws_sessions.proofs.FileMoves.{MoveCalls, taken_moves}
use Rattle.laws_sessions.proofs.Calming.{stopped_is}
use Rattle.laws_sessions.proofs.CopySteps.{copy_begins}
use Rattle.laws_sessions.proofs.DeletionSteps.{joined_holds, joined_more}
use Rattle.laws_sessions.proofs.Filling.{making_stands}
use Rattle.laws_sessions.proofs.FilledFolders.{IsFilling, met_found}
use Rattle.laws_sessions.proofs.Knowing.{HasCalmMode, IsKept, HistoryFacts}
use Rattle.laws_sessions.proofs.KnownParts.{FileKnows, HasName}
use Rattle.laws_sessions.proofs.PathsBelow.{is_below}
use Rattle.laws_sessions.proofs.Resting.{IsSureFolder}
use Rattle.laws_sessions.proofs.Stepped.{StepRan, comes_map, said_after}
use Rattle.laws_sessions.proofs.TreeBefore.{Before, Result, Then, idle_quiet}
use Rattle.laws_sessions.proofs.TreeBegins.{MayChange, Meets, may_change_now, met_own, worked_filled}
use Rattle.laws_sessions.proofs.TreeKnown.{ItemHas}
use Rattle.laws_sessions.proofs.TreeSkipped.{file_has}
use Rattle.laws_sessions.proofs.TreeSteps.{IsNextOf, among_next, next_of}
use Rattle.laws_sessions.proofs.Untouched.{IsAsFound, IsBare}
use Rattle.laws_sessions.proofs.TreeListed.{list_joins, list_stays, no_part, noted_clean, noted_dirty}
use Rattle.copy_file.specs.declared.stage.Stage.TheVariants.{Fill}

module _ (told : HistoryFacts) (dirty dirty_after : List Route) (marks : Marks) (log now : CallLog) (kept : IsKept told dirty marks log) (c : SubtreeCopying) (mid : Seen) (b : Before told dirty marks log c mid) (none : mid.item ≡ Next)
    (clean : is_around_dirty mid.levels.around ≡ false) (free : Route → Bool) (replies : Replies) where
  abbrev Comes_to : Did → Seen → Type 0
  Comes_to did new = Result told dirty dirty_after log now c did new

  abbrev Listed : Did → Seen → Type 0
  Listed did new = dirty_after ≡ change_list (was_dirty mid) (is_dirty_after mid did new) (folder_worked mid) dirty

  abbrev up : Route
  up = mid.levels.inner.copy.target

  part_none : told.part ≡ None
  part_none = no_part told dirty dirty_after marks log now kept c mid b none clean free

  -- a file is begun
  module _ (did : Did) (new : Seen) (t : TakesFile (IsPartPlace free mid) replies mid new did (Some log) (Some now)) (list : Listed did new) where
    abbrev f : Copying
    f = let p = t.pair in file.begun_copy mid.job p.source p.target

    met : IsNextOf mid mid.levels.inner.names.names t.pair
    met = next_of mid mid.levels.inner.names.names t.pair t.next

    here : folder_of (let p = t.pair in p.target) ≡ up
    here = ap folder_of met.target_is

    abbrev Works : Copying → Did → Type 0
    Works moved did = new ≡ copy_after_progress (progress moved.stage) (File moved) (noted_copy did (file.is_dirty moved.folder) (idle mid))

    -- the trouble of it
    file_stops : (trouble : Trouble) (moved : Copying) → did ≡ Troubled trouble → moved ≡ f → Works moved did → MoveCalls (IsPartPlace free mid) f (Troubled trouble) moved log (Some now) → Comes_to did new
    file_stops trouble moved is moved_is stands calls =
        subst (λ d. Comes_to d new) (sym is)
        (idle_quiet told dirty dirty_after marks log now kept c mid b none trouble new
        (ap (λ (x : Seen). x.item) stands ∙ ap (λ (m : Copying). (let x : Seen = copy_after_progress (progress m.stage) (File m) (noted_copy did (file.is_dirty m.folder) (idle mid)) in x.item)) moved_is)
        (list_stays told dirty dirty_after marks log now kept c mid b none clean free did new list
        (ap (λ d. is_left_dirty d new) is ∙ noted_clean (progress moved.stage) (File moved) did (file.is_dirty moved.folder) mid new stands (ap (λ (m : Copying). file.is_dirty m.folder) moved_is)))
        (how calls))
      where
        how : MoveCalls (IsPartPlace free mid) f (Troubled trouble) moved log (Some now) → (now ≡ log) ⊎ (now ≡ with_change log Nothing)
        how (inl same) = inl (some_log now log same)
        how (inr (k, first, run)) = stopped_is log now (making (current log) (places_of f) k) trouble.cause trouble.path (λ s left. refl) run

    -- its part is made
    module _ (part : Route) (moved : Copying) (is : did ≡ Began part) (stands : Works moved did) (tells : file.Tells f (Began part) moved) (calls : MoveCalls (IsPartPlace free mid) f (Began part) moved log (Some now)) where
      meets : Meets log t.pair
      meets =
          let p = t.pair in
          let ready = calls.0 in
          let made = calls.2 in
          record {
            stands = making_stands log now f made.0 (one_done log (making (current log) (places_of f) made.0) now made.3);
            open_to = free_or_bare (current log) p.target ready.bare;
            n = found_node (current log) p.source;
            source = stat-found (current log) p.source ready.source;
          }

      may : MayChange marks log c mid
      may = may_change_now told dirty marks log kept c mid b.n b.leaves b.stands none t.pair t.next meets b.begun b.owed

      own : is_prefix c.top.target f.target ≡ true
      own = met_own told dirty marks log kept c mid b.n b.leaves b.stands none t.pair t.next meets

      filling : IsFilling log up (ahead mid)
      filling = worked_filled told dirty marks log kept c mid b.n b.leaves b.stands none t.pair t.next meets clean may.here

      firm : IsSureFolder log up
      firm = filling.firm

      -- its target is as it was found
      found_so : IsAsFound marks (current log) f.target
      found_so =
          let ready = calls.0 in
          let bare : IsBare (current log) f.target = ready.bare in
          subst (λ q. IsAsFound marks (current log) q) (sym met.target_is)
          (met_found told dirty marks log up (ahead mid) (target_name mid met.name) kept filling (among_next mid met.name met.rest met.names_are) (subst (λ q. IsBare (current log) q) met.target_is bare) (subst (HasCalmMode marks (current log)) met.target_is (let still = may.calm f.target own in still.mode)))

      name : HasName f.target
      name = record { name = target_name mid met.name; is = met.target_is ∙ ap (λ q. (let r : Route = target_name mid met.name ∷ q in r)) (sym here) }

      moved_is : moved ≡ record f { stage = Fill part (let facts = tells.1 in facts.0) 0; folder = Dirty }
      moved_is = (let facts = tells.1 in facts.1)

      changed : file.is_dirty moved.folder ≡ true
      changed = ap (λ (x : Copying). file.is_dirty x.folder) moved_is

      joins : dirty_after ≡ joined_folders up dirty
      joins = list_joins told dirty dirty_after marks log now kept c mid b none clean free did new list
          (ap (λ d. is_left_dirty d new) is ∙ noted_dirty (progress moved.stage) (File moved) did (file.is_dirty moved.folder) mid new stands changed)

      abbrev after : HistoryFacts
      after = said_after now (Began part) (Copy c) told

      come : StepRan told after dirty_after log now (λ m. FileKnows after dirty_after m (current now) GoesOn moved)
      come = copy_begins told dirty dirty_after marks log now kept f moved part (IsPartPlace free mid) (folder_of c.top.target) (is_prefix c.top.target) name part_none tells calls.0 (calls.1, calls.2) found_so
          (subst (IsSureFolder log) (sym here) firm) may.firm may.calm
          (subst (λ xs. Among xs (folder_of f.target)) (sym joins) (subst (λ q. Among (joined_folders q dirty) (folder_of f.target)) here (joined_holds (folder_of f.target) dirty))) (λ q among. subst (λ xs. Among xs q) (sym joins) (joined_more up q dirty among))

      pub file_begins : Comes_to did new
      file_begins =
          subst (λ d. Comes_to d new) (sym is)
          (comes_map told after dirty_after log now (λ m. FileKnows after dirty_after m (current now) GoesOn moved) (Then told dirty_after log now c (Began part) new)
          (λ m kept_then known. record {
            part = subst (λ (x : Seen). ItemHas after dirty_after m (current now) GoesOn x.item) (sym stands)
                (file_has after dirty_after m (current now) GoesOn moved (noted_copy did (file.is_dirty moved.folder) mid) moved.stage refl known);
            around = λ some. inl (or_left _ _ (is_below c.top.target []));
            had = λ some. (may.outside, may.has);
            modes = λ h. h;
          }) come)

  pub takes_file : (did : Did) (new : Seen) (t : TakesFile (IsPartPlace free mid) replies mid new did (Some log) (Some now)) → Listed did new → Comes_to did new
  takes_file (Began part) new t list = (let w = taken_moves (IsPartPlace free mid) replies mid new (Began part) (Some log) (Some now) t in file_begins (Began part) new t list part w.moved refl w.stands w.tells (w.called log refl))
  takes_file (Troubled trouble) new t list = (let w = taken_moves (IsPartPlace free mid) replies mid new (Troubled trouble) (Some log) (Some now) t in let tells = w.tells in file_stops (Troubled trouble) new t list trouble w.moved refl tells.1 w.stands (w.called log refl))
  takes_file (Chunk count) new t list = (let w = taken_moves (IsPartPlace free mid) replies mid new (Chunk count) (Some log) (Some now) t in let tells = w.tells in absurd (let e = tells.3 in let f : ⊥ = cc in f))
  takes_file (Placed path) new t list = (let w = taken_moves (IsPartPlace free mid) replies mid new (Placed path) (Some log) (Some now) t in let tells = w.tells in absurd (let e = tells.2 in let f : ⊥ = cc in f))
  takes_file (Cleaned part) new t list = (let w = taken_moves (IsPartPlace free mid) replies mid new (Cleaned part) (Some log) (Some now) t in let tells = w.tells in absurd (let e = tells.1 in let f : ⊥ = cc in f))
  takes_file Barrier new t list = (let w = taken_moves (IsPartPlace free mid) replies mid new Barrier (Some log) (Some now) t in let tells = w.tells in absurd (let e = tells.0 in let f : ⊥ = cc in f))
  takes_file (Ended Finished part) new t list = (let w = taken_moves (IsPartPlace free mid) replies mid new (Ended Finished part) (Some log) (Some now) t in let tells = w.tells in absurd (let e = tells.0 in let f : ⊥ = cc in f))
  takes_file (Ended Aborted part) new t list = (let w = taken_moves (IsPartPlace free mid) replies mid new (Ended Aborted part) (Some log) (Some now) t in absurd w.tells)
  takes_file (Ended Killed part) new t list = (let w = taken_moves (IsPartPlace free mid) replies mid new (Ended Killed part) (Some log) (Some now) t in absurd w.tells)
  takes_file (Ended NoMemory part) new t list = (let w = taken_moves (IsPartPlace free mid) replies mid new (Ended NoMemory part) (Some log) (Some now) t in absurd w.tells)
  takes_file (Removed path) new t list = (let w = taken_moves (IsPartPlace free mid) replies mid new (Removed path) (Some log) (Some now) t in absurd w.tells)
  takes_file (Made path) new t list = (let w = taken_moves (IsPartPlace free mid) replies mid new (Made path) (Some log) (Some now) t in absurd w.tells)
  takes_file (Set path) new t list = (let w = taken_moves (IsPartPlace free mid) replies mid new (Set path) (Some log) (Some now) t in absurd w.tells)
  takes_file (Kept path) new t list = (let w = taken_moves (IsPartPlace free mid) replies mid new (Kept path) (Some log) (Some now) t in absurd w.tells)
  takes_file (Asked question) new t list = (let w = taken_moves (IsPartPlace free mid) replies mid new (Asked question) (Some log) (Some now) t in absurd w.tells)
  takes_file (Merges transfer pair names) new t list = (let w = taken_moves (IsPartPlace free mid) replies mid new (Merges transfer pair names) (Some log) (Some now) t in absurd w.tells)
  takes_file (Moved pair) new t list = (let w = taken_moves (IsPartPlace free mid) replies mid new (Moved pair) (Some log) (Some now) t in absurd w.tells)
  takes_file (Skipped path cause) new t list = (let w = taken_moves (IsPartPlace free mid) replies mid new (Skipped path cause) (Some log) (Some now) t in absurd w.tells)
