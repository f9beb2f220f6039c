-- A step moves the dirty folders as its report says.
use Rattle.std.proofs.Common.{◌≡◌, ℕ, Bool, true, false, List, ◌∷◌, refl, sym, ◌∙◌, ap, subst, inl, inr, Option, Some, None}
use Rattle.std.proofs.lemmas.Bool.{true≢false, false≢true}
use Rattle.mc_text.specs.Routes.{Route}
use Rattle.tree_trait.specs.declared.calls.TreeError.{TreeError}
use Rattle.tree_trait.specs.Change.{CallLog}
use Rattle.job_answers.specs.declared.replies.Replies.{Replies}
use Rattle.job_reports.specs.declared.job.Pair.{Pair}
use Rattle.job_reports.specs.declared.report.Did.{Did}
use Rattle.job_reports.specs.declared.report.Did.TheVariants.{Began, Chunk, Placed, Removed, Made, Set, Kept, Skipped, Cleaned, Barrier, Asked, Merges, Moved, Troubled, Ended}
use Rattle.job_reports.specs.declared.report.Ending.{Ending}
use Rattle.job_reports.specs.declared.report.Ending.TheVariants.{Finished, Aborted, Killed, NoMemory}
use Rattle.session_entries.specs.declared.history.Event.TheVariants.{Step}
use Rattle.session_entries.specs.declared.history.Entry.{Entry}
use Rattle.copy_move.specs.declared.work.Work.{Work}
use Rattle.copy_move.specs.declared.work.Work.TheVariants.{Copy, Delete, Make, Move, SetMode, RemoveEmptied}
use Rattle.copy_move.specs.declared.run.Course.{Course}
use Rattle.copy_move.specs.declared.run.Course.TheVariants.{GoesOn, Asking, InTrouble, OwedSyncFailed, Skips, Ends}
use Rattle.delete_job.specs.Deletions.{Deleting, DeletionLeaves}
use Rattle.delete_job.specs.Deletions as deletions
use Rattle.delete_job.specs.DeletionSteps.{after_try}
use Rattle.make_job.specs.declared.making.MakingStage.{MakingStage}
use Rattle.make_job.specs.declared.making.MakingStage.TheVariants as making
use Rattle.make_job.specs.Makings as makings
use Rattle.move_job.specs.Movings.{Moving, with_moves}
use Rattle.emptied_job.specs.declared.removal.RemovalStage.{RemovalStage}
use Rattle.emptied_job.specs.declared.removal.RemovalStage.TheVariants as removal
use Rattle.emptied_job.specs.Removals as removals
use Rattle.mode_job.specs.Settings as settings
use Rattle.copy_move.specs.Jobs.{Running, TellsOn, WorkTells}
use Rattle.copy_move.specs.Settling.{WorkLeaves, is_own, with_change}
use Rattle.job_unsynced.specs.Folders.{joined_folders}
use Rattle.tree_trait.proofs.Visible.{same_path-self}
use Rattle.job_reports.specs.Paths.{folder_of, without}
use Rattle.copy_move.specs.JobStepReports.{LeavesDirty, RunStep, step_made}
use Rattle.laws_sessions.proofs.Intact.{own_folder}
use Rattle.mc_desk.specs.Desks.{HasMoved, HasRemoved, HasSynced, MovesDirty}
use Rattle.mc_desk.proofs.Adding.{entry}
use Rattle.mc_desk.proofs.MovedFolders.{FoldersMove, folders_move}

-- a job that is finished has synced its folder
making_clean : (stage : MakingStage) → makings.is_done stage ≡ true → makings.is_dirty stage ≡ false
making_clean making.Make h = absurd (false≢true h)
making_clean making.Sync h = absurd (false≢true h)
making_clean making.Finish h = refl
making_clean making.PassedOver h = refl

making_finishes : (m new : makings.Making) (ending : Ending) (part : Option Route) → makings.Tells m (Ended ending part) new → (ending ≡ Finished) × (makings.is_dirty m.stage ≡ false)
making_finishes m new Finished part t = (refl, making_clean m.stage t.0)
making_finishes m new Aborted part t = absurd t
making_finishes m new Killed part t = absurd t
making_finishes m new NoMemory part t = absurd t

removal_clean : (stage : RemovalStage) → removals.is_done stage ≡ true → removals.is_dirty stage ≡ false
removal_clean removal.Remove h = absurd (false≢true h)
removal_clean removal.Sync h = absurd (false≢true h)
removal_clean removal.Finish h = refl
removal_clean removal.PassedOver h = refl

removal_finishes : (replies : Replies) (r new : removals.Removing) (ending : Ending) (part : Option Route) → removals.Tells replies r (Ended ending part) new → (ending ≡ Finished) × (removals.is_dirty r.stage ≡ false)
removal_finishes replies r new Finished part t = (refl, removal_clean r.stage t.0)
removal_finishes replies r new Aborted part t = absurd t
removal_finishes replies r new Killed part t = absurd t
removal_finishes replies r new NoMemory part t = absurd t

setting_finishes : (replies : Replies) (s new : settings.Setting) (ending : Ending) (part : Option Route) → settings.Tells replies s (Ended ending part) new → (ending ≡ Finished) × (settings.is_dirty s.stage ≡ false)
setting_finishes replies s new Finished part t = (refl, ap settings.is_dirty t.0)
setting_finishes replies s new Aborted part t = absurd t
setting_finishes replies s new Killed part t = absurd t
setting_finishes replies s new NoMemory part t = absurd t

-- a dirty folder is clean only after the report of its sync
making_synced : (m new : makings.Making) (did : Did) → makings.Tells m did new → makings.is_dirty m.stage ≡ true → makings.is_dirty new.stage ≡ false → did ≡ Barrier
making_synced m new Barrier t was now = refl
making_synced m new (Made path) t was now = absurd (true≢false (sym was ∙ ap makings.is_dirty t.0))
making_synced m new (Troubled trouble) t was now = absurd (true≢false (sym was ∙ (sym (ap (λ (n : makings.Making). makings.is_dirty n.stage) t.1) ∙ now)))
making_synced m new (Ended ending part) t was now = absurd (true≢false (sym was ∙ (making_finishes m new ending part t).1))
making_synced m new (Began part) t was now = absurd t
making_synced m new (Chunk count) t was now = absurd t
making_synced m new (Asked question) t was now = absurd t
making_synced m new (Merges transfer pair names) t was now = absurd t
making_synced m new (Moved pair) t was now = absurd t
making_synced m new (Set path) t was now = absurd t
making_synced m new (Placed path) t was now = absurd t
making_synced m new (Removed made) t was now = absurd t
making_synced m new (Kept kept) t was now = absurd t
making_synced m new (Skipped path cause) t was now = absurd t
making_synced m new (Cleaned part) t was now = absurd t

-- so is the folder around one that was removed
removal_synced : (replies : Replies) (r new : removals.Removing) (did : Did) → removals.Tells replies r did new → removals.is_dirty r.stage ≡ true → removals.is_dirty new.stage ≡ false → did ≡ Barrier
removal_synced replies r new Barrier t was now = refl
removal_synced replies r new (Removed path) t was now = absurd (true≢false (sym was ∙ ap removals.is_dirty t.0))
removal_synced replies r new (Kept path) t was now = absurd (true≢false (sym was ∙ ap removals.is_dirty t.0))
removal_synced replies r new (Skipped path cause) t was now = absurd (true≢false (sym was ∙ ap removals.is_dirty t.0))
removal_synced replies r new (Troubled trouble) t was now = absurd (true≢false (sym was ∙ (sym (ap (λ (n : removals.Removing). removals.is_dirty n.stage) t.3) ∙ now)))
removal_synced replies r new (Ended ending part) t was now = absurd (true≢false (sym was ∙ (removal_finishes replies r new ending part t).1))
removal_synced replies r new (Began part) t was now = absurd t
removal_synced replies r new (Chunk count) t was now = absurd t
removal_synced replies r new (Asked question) t was now = absurd t
removal_synced replies r new (Merges transfer pair names) t was now = absurd t
removal_synced replies r new (Moved pair) t was now = absurd t
removal_synced replies r new (Set path) t was now = absurd t
removal_synced replies r new (Placed path) t was now = absurd t
removal_synced replies r new (Made path) t was now = absurd t
removal_synced replies r new (Cleaned part) t was now = absurd t

-- so is a thing that was given a mode
setting_synced : (replies : Replies) (s new : settings.Setting) (did : Did) → settings.Tells replies s did new → settings.is_dirty s.stage ≡ true → settings.is_dirty new.stage ≡ false → did ≡ Barrier
setting_synced replies s new Barrier t was now = refl
setting_synced replies s new (Set path) t was now = absurd (true≢false (sym was ∙ ap settings.is_dirty t.0))
setting_synced replies s new (Troubled trouble) t was now = absurd (true≢false (sym was ∙ (sym (ap (λ (n : settings.Setting). settings.is_dirty n.stage) t.2) ∙ now)))
setting_synced replies s new (Ended ending part) t was now = absurd (true≢false (sym was ∙ (setting_finishes replies s new ending part t).1))
setting_synced replies s new (Began part) t was now = absurd t
setting_synced replies s new (Chunk count) t was now = absurd t
setting_synced replies s new (Asked question) t was now = absurd t
setting_synced replies s new (Merges transfer pair names) t was now = absurd t
setting_synced replies s new (Moved pair) t was now = absurd t
setting_synced replies s new (Placed path) t was now = absurd t
setting_synced replies s new (Removed path) t was now = absurd t
setting_synced replies s new (Made path) t was now = absurd t
setting_synced replies s new (Kept path) t was now = absurd t
setting_synced replies s new (Skipped path cause) t was now = absurd (true≢false (sym was ∙ ap settings.is_dirty t.0))
setting_synced replies s new (Cleaned part) t was now = absurd t

module _ (job : Option Running) (newest older : List Entry) (dirty dirty_after : List Route) (seat calls count shown number : ℕ) (did : Did) (more : newest ≡ entry seat calls count shown (Step number did) ∷ older) where
  abbrev Moves : Type 0
  Moves = MovesDirty job newest dirty dirty_after

  synced : (folder : Route) → did ≡ Barrier → dirty_after ≡ without folder dirty → Moves
  synced folder is left = inr (inr (inr (inr (folder, left, subst HasSynced (sym more) (number, ap (Step number) is)))))

  joins : (live : Running) (folder : Route) → job ≡ Some live → is_own live.work folder ≡ true → dirty_after ≡ joined_folders folder dirty → Moves
  joins live folder is own left = inr (inl (record { live = live; job_is = is; folder = folder; own = own; joins = left }))

  removes : (path : Route) → did ≡ Removed path → dirty_after ≡ without path (joined_folders (folder_of path) dirty) → Moves
  removes path is left = inr (inr (inl (record { path = path; removed = subst (λ es. HasRemoved es path) (sym more) (number, ap (Step number) is); leaves = left })))

  -- of a move both folders join with the renaming, and each leaves with its sync
  moving_moves : {pair : Pair} → FoldersMove did pair dirty dirty_after → Moves
  moving_moves {pair} (inl still) = inl still
  moving_moves {pair} (inr (inl (is, left))) = inr (inr (inr (inl (record { pair = pair; moved = subst (λ es. HasMoved es pair) (sym more) (number, ap (Step number) is); join = left }))))
  moving_moves {pair} (inr (inr (folder, is, left))) = synced folder is left

  -- the one folder in which a step of a copy or a making changes names, or the thing that is given a mode
  folder_moves : (live : Running) (folder : Route) → job ≡ Some live → is_own live.work folder ≡ true → (was now : Bool) → (was ≡ true → now ≡ false → did ≡ Barrier) → dirty_after ≡ with_change was now folder dirty → Moves
  folder_moves live folder is own false true reports left = joins live folder is own left
  folder_moves live folder is own true false reports left = synced folder (reports refl refl) left
  folder_moves live folder is own false false reports left = inl left
  folder_moves live folder is own true true reports left = inl left

  deletion_moves : (replies : Replies) (live : Running) (d new : Deleting) (before after : Option CallLog) → job ≡ Some live → live.work ≡ Delete d → (x : Did) → did ≡ x → deletions.Tells replies d x new → DeletionLeaves d x dirty dirty_after before after → Moves
  deletion_moves replies live d new before after is work (Removed path) did_is (going, within, at) (inl h) =
      joins live (folder_of path) is (subst (λ w. is_own w (folder_of path) ≡ true) (sym work) (own_folder d path (folder_of path) within refl)) h.0
  deletion_moves replies live d new before after is work (Removed path) did_is (going, within, at) (inr h) = removes path did_is h.0
  deletion_moves replies live d new before after is work Barrier did_is t (folder, own, left, called) = synced folder did_is left
  deletion_moves replies live d new before after is work (Kept path) did_is t h = inl h
  deletion_moves replies live d new before after is work (Troubled trouble) did_is t h = inl h
  deletion_moves replies live d new before after is work (Ended ending part) did_is t h = inl h.1
  deletion_moves replies live d new before after is work (Began part) did_is t h = absurd t
  deletion_moves replies live d new before after is work (Chunk bytes) did_is t h = absurd t
  deletion_moves replies live d new before after is work (Asked question) did_is t h = absurd t
  deletion_moves replies live d new before after is work (Merges transfer pair names) did_is t h = absurd t
  deletion_moves replies live d new before after is work (Moved pair) did_is t h = absurd t
  deletion_moves replies live d new before after is work (Set path) did_is t h = absurd t
  deletion_moves replies live d new before after is work (Placed path) did_is t h = absurd t
  deletion_moves replies live d new before after is work (Made made) did_is t h = absurd t
  deletion_moves replies live d new before after is work (Skipped path cause) did_is t h = inl h
  deletion_moves replies live d new before after is work (Cleaned part) did_is t h = absurd t

  work_moves : (replies : Replies) (live : Running) (old work new : Work) (before after : Option CallLog) → job ≡ Some live → live.work ≡ old → work ≡ new → WorkTells replies old did work → WorkLeaves old did new dirty dirty_after before after → Moves
  work_moves replies live (Make m) (Make w) (Make new) before after is work same t h =
      folder_moves live (folder_of m.path) is (subst (λ x. is_own x (folder_of m.path) ≡ true) (sym work) (same_path-self (folder_of m.path))) (makings.is_dirty m.stage) (makings.is_dirty new.stage)
      (λ was now. making_synced m w did t was (ap begun same ∙ now)) h
    where
      begun : Work → Bool
      begun (Make x) = makings.is_dirty x.stage
      begun other = false
  work_moves replies live (Move m) (Move w) (Move new) before after is work same t h =
      moving_moves (folders_move m w dirty dirty_after replies did t (h ∙ ap (λ s. with_moves m.stage s m.pair dirty) (sym (stage_of same))))
    where
      stage_of : Move w ≡ Move new → w.stage ≡ new.stage
      stage_of e = let all : w ≡ new = cc in ap (λ (k : Moving). k.stage) all
  work_moves replies live (SetMode s) (SetMode w) (SetMode new) before after is work same t h =
      folder_moves live s.path is (subst (λ x. is_own x s.path ≡ true) (sym work) (same_path-self s.path)) (settings.is_dirty s.stage) (settings.is_dirty new.stage)
      (λ was now. setting_synced replies s w did t was (ap begun same ∙ now)) h
    where
      begun : Work → Bool
      begun (SetMode x) = settings.is_dirty x.stage
      begun other = false
  work_moves replies live (Copy c) (Copy w) (Copy new) before after is work same t h =
      folder_moves live h.folder is (subst (λ x. is_own x h.folder ≡ true) (sym work) h.own) h.was h.now h.synced h.list
  work_moves replies live (Delete d) (Delete w) (Delete new) before after is work same t h = deletion_moves replies live d w before after is work did refl t h
  work_moves replies live (RemoveEmptied r) (RemoveEmptied w) (RemoveEmptied new) before after is work same t h =
      folder_moves live (folder_of r.path) is (subst (λ x. is_own x (folder_of r.path) ≡ true) (sym work) (same_path-self (folder_of r.path))) (removals.is_dirty r.stage) (removals.is_dirty new.stage)
      (λ was now. removal_synced replies r w did t was (ap begun same ∙ now)) h
    where
      begun : Work → Bool
      begun (RemoveEmptied x) = removals.is_dirty x.stage
      begun other = false
  work_moves replies live (Copy c) (Copy w) new before after is work same t h = absurd h
  work_moves replies live (Delete d) (Delete w) new before after is work same t h = absurd h
  work_moves replies live (Make m) (Make w) new before after is work same t h = absurd h
  work_moves replies live (Move m) (Move w) new before after is work same t h = absurd h
  work_moves replies live (SetMode s) (SetMode w) new before after is work same t h = absurd h
  work_moves replies live (RemoveEmptied r) (RemoveEmptied w) new before after is work same t h = absurd h
  work_moves replies live old stepped new before after is work same t h = absurd t

  tries : (folder : Route) (refusal : Option TreeError) (d : Did) → did ≡ d → dirty_after ≡ after_try d refusal folder dirty → Moves
  tries folder None Barrier is left = synced folder is left
  tries folder (Some e) Barrier is left = inl left
  tries folder refusal (Began part) is left = inl left
  tries folder refusal (Chunk bytes) is left = inl left
  tries folder refusal (Asked question) is left = inl left
  tries folder refusal (Merges transfer pair names) is left = inl left
  tries folder refusal (Moved pair) is left = inl left
  tries folder refusal (Set path) is left = inl left
  tries folder refusal (Placed path) is left = inl left
  tries folder refusal (Removed path) is left = inl left
  tries folder refusal (Made made) is left = inl left
  tries folder refusal (Kept kept) is left = inl left
  tries folder refusal (Skipped path cause) is left = inl left
  tries folder refusal (Cleaned part) is left = inl left
  tries folder refusal (Troubled trouble) is left = inl left
  tries folder refusal (Ended ending part) is left = inl left

  pub run_moves : (unclaimed : Route → Type 0) (live stepped : Running) (made : ℕ) (before after : Option CallLog) (f0 f1 : ℕ) → job ≡ Some live
      → RunStep unclaimed (step_made live stepped did made dirty dirty_after before after f0 f1) → Moves
  run_moves unclaimed live stepped made before after f0 f1 is (inr s) = elim s.synced [ inl h ↦ synced s.path h.did_is h.dirty_is | inr h ↦ inl h.dirty_is ]
  run_moves unclaimed live stepped made before after f0 f1 is (inl o) = by live.course o.own.tells o.leaves
    where
      by : (course : Course) → TellsOn course live did stepped → LeavesDirty course live.work did stepped.work dirty dirty_after before after → Moves
      by GoesOn (work, tells, new_is) leaves = work_moves live.replies live live.work work stepped.work before after is refl (sym (ap (λ (s : Running). s.work) new_is)) tells leaves
      by (InTrouble halt) tells leaves = absurd tells
      by (OwedSyncFailed cause) tells leaves = absurd tells
      by Asking tells leaves = absurd tells
      by (Skips cause) tells leaves = inl leaves
      by (Ends ending) tells leaves = tries leaves.folder leaves.refusal did refl leaves.dirty_is
