-- What a history tells of a job follows each thing that the job does.
use Rattle.std.proofs.Common.{◌≡◌, ℕ, Bool, true, false, [], ◌∷◌, refl, sym, ap, ◌∙◌, ◌⊎◌, inl, inr, Option, Some, None}
use Rattle.std.specs.Prelude.{is_some, ◌&&◌, nat_le, not, if◌then◌else◌}
use Rattle.std.specs.Option.{option_map}
use Rattle.mc_text.specs.Routes.{Route, parent_of, same_path}
use Rattle.std.proofs.lemmas.Bool.{false≢true}
use Rattle.job_reports.specs.declared.report.Trouble.{Trouble}
use Rattle.job_reports.specs.declared.report.Ending.{Ending}
use Rattle.job_reports.specs.declared.report.Ending.TheVariants.{Finished, Aborted, Killed, NoMemory}
use Rattle.job_reports.specs.declared.report.Did.{Did}
use Rattle.job_reports.specs.declared.report.Did.TheVariants.{Began, Chunk, Placed, Removed, Made, Set, Kept, Skipped, Cleaned, Barrier, Asked, Merges, Moved, Troubled, Ended}
use Rattle.job_reports.specs.Stops.{out_of_memory_at}
use Rattle.job_reports.specs.declared.job.Job.{Job}
use Rattle.job_reports.specs.declared.job.Job.TheVariants as plan
use Rattle.job_reports.specs.declared.answer.Answer.{Answer}
use Rattle.job_reports.specs.declared.answer.Answer.TheVariants.{Yes, No, All, Update, Nothing, SizeDiffers, Retry, Skip, SkipAll, Abort}
use Rattle.copy_move.specs.declared.work.Work.{Work}
use Rattle.copy_move.specs.declared.work.Work.TheVariants.{Copy, Delete, Make, Move, SetMode, RemoveEmptied}
use Rattle.copy_move.specs.declared.run.Course.{Course}
use Rattle.copy_move.specs.declared.run.Course.TheVariants.{GoesOn, Asking, InTrouble, OwedSyncFailed, Skips, Ends}
use Rattle.tree_walk.specs.Places.{unopened_walk}
use Rattle.delete_job.specs.declared.deletion.Depth.TheVariants.{Top}
use Rattle.delete_job.specs.declared.deletion.Stage.{Stage as DeletionStage}
use Rattle.delete_job.specs.declared.deletion.Stage.TheVariants as deletion
use Rattle.delete_job.specs.Standing.{after_item}
use Rattle.delete_job.specs.Standing as standing
use Rattle.job_reports.specs.Jobs.{is_link_text}
use Rattle.make_job.specs.declared.making.MakingStage.{MakingStage}
use Rattle.make_job.specs.declared.making.MakingStage.TheVariants as making
use Rattle.make_job.specs.declared.new_thing.NewThing.TheVariants as thing
use Rattle.delete_job.specs.Deletions.{Deleting, IsAtStage}
use Rattle.delete_job.specs.Deletions as deletions
use Rattle.make_job.specs.Makings.{Making}
use Rattle.make_job.specs.Makings as makings
use Rattle.mode_job.specs.ModeSettings as modes
use Rattle.mode_job.specs.declared.setting.Stage.{Stage as SettingStage}
use Rattle.mode_job.specs.declared.setting.Stage.TheVariants as setting
use Rattle.mode_job.specs.Settings.{Setting}
use Rattle.mode_job.specs.Settings as settings
use Rattle.copy_move.specs.Jobs.{Running, JobTells, TellsOn, WorkTells, WorkWinds, answered_job, answered_on, copies, course_after, deletes, first_work, halt_of, is_fresh, makes, moves, removes_emptied, sets, PassesOver, taken_anew, unreported_skip}
use Rattle.job_reports.specs.Reports.{ends}
use Rattle.job_answers.specs.declared.replies.Replies.{Replies}
use Rattle.job_reports.specs.declared.job.Pair.{Pair}
use Rattle.copy_tree.specs.declared.copy.Stage.{Stage as TreeStage}
use Rattle.copy_tree.specs.declared.copy.Stage.TheVariants as tree_stage
use Rattle.copy_tree.specs.Standing.{after_report, is_fresh as is_tree_fresh}
use Rattle.copy_job.specs.Reporting.{IsAfterLastStep}
use Rattle.copy_job.specs.Standing as tree
use Rattle.copy_job.specs.Standing.{SubtreeCopying}
use Rattle.copy_job.specs.Told.{IsAfter, part_after}
use Rattle.copy_job.proofs.Tellings.{told_law}
use Rattle.copy_move.specs.TreeCopies as trees
use Rattle.copy_move.specs.Told.{after_step, course_told, if_closed, running, skipped_work, synced_work, told_job, work_told}
use Rattle.copy_move.proofs.MovingTold.{moving_told, moving_winds, synced_moving}
use Rattle.copy_move.proofs.RemovalTold.{removal_told, removal_winds, synced_removal}

-- a job, by its parts
abbrev job_of : ℕ → Replies → Work → Course → Running
job_of id replies work course = record { id = id; work = work; course = course; replies = replies }

-- a deletion at this stage is told so, wherever its walk stands
abbrev told_at : Deleting → DeletionStage → Work
told_at d stage = Delete (record { path = d.path; stage = stage; depth = Top; place = unopened_walk; tried = 0 })

told_same : (id : ℕ) (d new : Deleting) → new.path ≡ d.path → told_at d new.stage ≡ work_told id (Delete new)
told_same id d new path_is = ap (λ p. Delete (record { path = p; stage = new.stage; depth = Top; place = unopened_walk; tried = 0 })) (sym path_is)

stage_is_told : (id : ℕ) (d new : Deleting) (stage : DeletionStage) → IsAtStage d stage new → told_at d stage ≡ work_told id (Delete new)
stage_is_told id d new stage at = ap (told_at d) (sym at.stage_is) ∙ told_same id d new at.path_is

-- a copy is told by its parts
told_is : (id : ℕ) (c new : SubtreeCopying) (stage : TreeStage) (part : Option Route) → new.top ≡ c.top → new.at.stage ≡ stage → tree.part_of new.at.item ≡ part
    → Copy (trees.told_at id c.top stage part) ≡ work_told id (Copy new)
told_is id c new stage part top_is stage_is part_is =
    ap (λ t. Copy (trees.told_at id t stage part)) (sym top_is)
    ∙ (ap (λ s. Copy (trees.told_at id new.top s part)) (sym stage_is)
    ∙ ap (λ p. Copy (trees.told_at id new.top new.at.stage p)) (sym part_is))

-- where a report changes nothing of that
told_so : (id : ℕ) (c new : SubtreeCopying) (did : Did) → IsAfter did c new → part_after did (tree.part_of c.at.item) ≡ tree.part_of c.at.item → after_report did c.at.stage ≡ c.at.stage → work_told id (Copy c) ≡ work_told id (Copy new)
told_so id c new did a part stage = told_is id c new c.at.stage (tree.part_of c.at.item) a.top (a.stage ∙ stage) (a.part ∙ part)

skipped_told : (id : ℕ) (work new : Work) (path : Route) → PassesOver work path new → skipped_work path (work_told id work) ≡ work_told id new
skipped_told id (Copy c) (Copy new) path (cause, a) = told_so id c new (Skipped path cause) a refl refl
skipped_told id (Delete d) (Delete new) path at = stage_is_told id d new (after_item d.path path d.stage) at
skipped_told id (Make m) (Make new) path (path_is, new_is) = ap Make (sym new_is)
skipped_told id (Move m) (Move new) path (path_is, new_is) = ap Move (sym new_is)
skipped_told id (SetMode s) (SetMode new) path (path_is, new_is) = ap SetMode (sym new_is)
skipped_told id (RemoveEmptied r) (RemoveEmptied new) path (path_is, new_is) = ap RemoveEmptied (sym new_is)
skipped_told id old new path h = absurd h

retries_told : (id : ℕ) (top : Pair) (stage : TreeStage) (part : Option Route) → tree.retries (trees.told_at id top stage part) ≡ trees.told_at id top stage part
retries_told id top stage None = refl
retries_told id top stage (Some part) = refl

anew_told : (id : ℕ) (work : Work) → taken_anew (work_told id work) ≡ work_told id (taken_anew work)
anew_told id (Copy c) =
    let law = told_law in
    let k = law.retry c in
    ap Copy (retries_told id c.top c.at.stage (tree.part_of c.at.item)) ∙ told_is id c (tree.retries c) c.at.stage (tree.part_of c.at.item) refl k.stage k.part
anew_told id (Delete d) = refl
anew_told id (Make m) = refl
anew_told id (Move m) = refl
anew_told id (SetMode s) = refl
anew_told id (RemoveEmptied r) = refl

-- before the first change no trouble of the work is at a barrier
deletion_bars : (stage : DeletionStage) (barrier : Bool) → barrier ≡ standing.at_barrier stage → (standing.is_fresh stage && barrier) ≡ false
deletion_bars deletion.Begin barrier h = h
deletion_bars deletion.Going barrier h = refl
deletion_bars deletion.Sync barrier h = refl

making_bars : (stage : MakingStage) (barrier : Bool) → barrier ≡ makings.at_barrier stage → (makings.is_fresh stage && barrier) ≡ false
making_bars making.Make barrier h = h
making_bars making.Sync barrier h = refl
making_bars making.Finish barrier h = refl
making_bars making.PassedOver barrier h = refl

setting_bars : (stage : SettingStage) (barrier : Bool) → barrier ≡ settings.at_barrier stage → (settings.is_fresh stage && barrier) ≡ false
setting_bars setting.Give barrier h = h
setting_bars setting.Sync barrier h = refl
setting_bars setting.Done barrier h = refl

-- the trouble of a making is at a barrier where its next call is
making_trouble_bars : (stage : MakingStage) (path : Route) (trouble : Trouble) → makings.IsTroubleAt stage path trouble → trouble.barrier ≡ makings.at_barrier stage
making_trouble_bars making.Make path trouble (e, is) = ap (λ (t : Trouble). t.barrier) is
making_trouble_bars making.Sync [] trouble h = absurd h
making_trouble_bars making.Sync (name ∷ folder) trouble (e, is) = ap (λ (t : Trouble). t.barrier) is
making_trouble_bars making.Finish path trouble h = absurd h
making_trouble_bars making.PassedOver path trouble h = absurd h

pub fresh_told : (id : ℕ) (work : Work) → is_fresh (work_told id work) ≡ is_fresh work
fresh_told id (Copy c) = refl
fresh_told id (Delete d) = refl
fresh_told id (Make m) = refl
fresh_told id (Move m) = refl
fresh_told id (SetMode s) = refl
fresh_told id (RemoveEmptied r) = refl

-- then the job is in trouble, as its history tells it
in_trouble : (id : ℕ) (work : Work) (trouble : Trouble) → (is_fresh work && trouble.barrier) ≡ false → course_told (work_told id work) trouble ≡ InTrouble (halt_of trouble)
in_trouble id work trouble h = ap (λ b. if b && trouble.barrier then OwedSyncFailed trouble.cause else InTrouble (halt_of trouble)) (fresh_told id work)
    ∙ ap (λ b. if b then OwedSyncFailed trouble.cause else InTrouble (halt_of trouble)) h

pub making_in_trouble : (m : Making) (trouble : Trouble) → makings.IsTroubleAt m.stage m.path trouble → course_told (Make m) trouble ≡ InTrouble (halt_of trouble)
making_in_trouble m trouble h = in_trouble 0 (Make m) trouble (making_bars m.stage trouble.barrier (making_trouble_bars m.stage m.path trouble h))

and_none : (b : Bool) → (b && false) ≡ false
and_none true = refl
and_none false = refl

pub skip_in_trouble : (id : ℕ) (work : Work) → course_told (work_told id work) (out_of_memory_at false) ≡ InTrouble unreported_skip
skip_in_trouble id work = in_trouble id work (out_of_memory_at false) (and_none (is_fresh work))

-- a deletion that goes on
deletion_told : (id : ℕ) (replies : Replies) (old new : Deleting) (did : Did) → deletions.Tells replies old did new → ends did ≡ false
    → after_step did (told_job (job_of id replies (Delete old) GoesOn)) ≡ Some (told_job (job_of id replies (Delete new) (course_after did)))
deletion_told id replies old new (Removed path) (going, within, at) h = ap (λ w. Some (job_of id replies w GoesOn)) (stage_is_told id old new (after_item old.path path deletion.Going) at)
deletion_told id replies old new (Kept path) (going, at) h = ap (λ w. Some (job_of id replies w GoesOn)) (stage_is_told id old new (after_item old.path path old.stage) at)
deletion_told id replies old new Barrier (from, at) h = ap (λ w. Some (job_of id replies w GoesOn)) (stage_is_told id old new old.stage at)
deletion_told id replies old new (Troubled trouble) (barrier, at) h =
    ap (λ course. Some (job_of id replies (work_told id (Delete old)) course)) (in_trouble id (Delete old) trouble (deletion_bars old.stage trouble.barrier barrier))
    ∙ ap (λ w. Some (job_of id replies w (InTrouble (halt_of trouble)))) (stage_is_told id old new old.stage at)
deletion_told id replies old new (Ended Finished part) t h = absurd cc
deletion_told id replies old new (Ended Aborted part) t h = absurd t
deletion_told id replies old new (Ended Killed part) t h = absurd t
deletion_told id replies old new (Ended NoMemory part) t h = absurd t
deletion_told id replies old new (Began part) t h = absurd t
deletion_told id replies old new (Chunk count) t h = absurd t
deletion_told id replies old new (Asked question) t h = absurd t
deletion_told id replies old new (Merges transfer pair names) t h = absurd t
deletion_told id replies old new (Moved pair) t h = absurd t
deletion_told id replies old new (Set path) t h = absurd t
deletion_told id replies old new (Placed path) t h = absurd t
deletion_told id replies old new (Made made) t h = absurd t
deletion_told id replies old new (Skipped path cause) (going, passes, at) h = ap (λ w. Some (job_of id replies w GoesOn)) (stage_is_told id old new (after_item old.path path old.stage) at)
deletion_told id replies old new (Cleaned part) t h = absurd t

-- a making that goes on
making_told : (id : ℕ) (replies : Replies) (old new : Making) (did : Did) → makings.Tells old did new → ends did ≡ false
    → after_step did (told_job (job_of id replies (Make old) GoesOn)) ≡ Some (told_job (job_of id replies (Make new) (course_after did)))
making_told id replies old new (Made path) (from, path_is, is) h = rw is refl
making_told id replies old new Barrier (from, is) h = rw is (ap (λ stage. Some (job_of id replies (Make (record old { stage = makings.after_sync stage })) GoesOn)) from)
making_told id replies old new (Troubled trouble) (where_is, is) h = rw is (ap (λ course. Some (job_of id replies (Make old) course)) (making_in_trouble old trouble where_is))
making_told id replies old new (Ended Finished part) t h = absurd cc
making_told id replies old new (Ended Aborted part) t h = absurd t
making_told id replies old new (Ended Killed part) t h = absurd t
making_told id replies old new (Ended NoMemory part) t h = absurd t
making_told id replies old new (Began part) t h = absurd t
making_told id replies old new (Chunk count) t h = absurd t
making_told id replies old new (Asked question) t h = absurd t
making_told id replies old new (Merges transfer pair names) t h = absurd t
making_told id replies old new (Moved pair) t h = absurd t
making_told id replies old new (Set path) t h = absurd t
making_told id replies old new (Placed path) t h = absurd t
making_told id replies old new (Removed made) t h = absurd t
making_told id replies old new (Kept kept) t h = absurd t
making_told id replies old new (Skipped path cause) t h = absurd t
making_told id replies old new (Cleaned part) t h = absurd t

-- a setting that goes on
setting_told : (id : ℕ) (replies : Replies) (old new : Setting) (did : Did) → settings.Tells replies old did new → ends did ≡ false
    → after_step did (told_job (job_of id replies (SetMode old) GoesOn)) ≡ Some (told_job (job_of id replies (SetMode new) (course_after did)))
setting_told id replies old new (Set path) (from, path_is, is) h = rw is refl
setting_told id replies old new Barrier (from, is) h = rw is (ap (λ stage. Some (job_of id replies (SetMode (record old { stage = modes.after_sync stage })) GoesOn)) from)
setting_told id replies old new (Troubled trouble) (barrier, cause, is) h =
    rw is (ap (λ course. Some (job_of id replies (SetMode old) course)) (in_trouble id (SetMode old) trouble (setting_bars old.stage trouble.barrier barrier)))
setting_told id replies old new (Ended ending part) t h = absurd cc
setting_told id replies old new (Began part) t h = absurd t
setting_told id replies old new (Chunk count) t h = absurd t
setting_told id replies old new (Asked question) t h = absurd t
setting_told id replies old new (Merges transfer pair names) t h = absurd t
setting_told id replies old new (Moved pair) t h = absurd t
setting_told id replies old new (Placed path) t h = absurd t
setting_told id replies old new (Removed path) t h = absurd t
setting_told id replies old new (Made path) t h = absurd t
setting_told id replies old new (Kept path) t h = absurd t
setting_told id replies old new (Skipped path cause) (from, path_is, passes, is) h =
    rw is (ap (λ stage. Some (job_of id replies (SetMode (record old { stage = settings.skipped_stage stage })) GoesOn)) from)
setting_told id replies old new (Cleaned part) t h = absurd t

-- a copy that goes on
bars_apart : (fresh barrier : Bool) → (fresh ≡ true → barrier ≡ false) → (fresh && barrier) ≡ false
bars_apart true barrier h = h refl
bars_apart false barrier h = refl

begun_before : (stage : TreeStage) → (is_tree_fresh stage ≡ true → ⊥) → stage ≡ tree_stage.Going
begun_before tree_stage.Begin h = absurd (h refl)
begun_before tree_stage.Going h = refl

tree_told : (id : ℕ) (replies : Replies) (old new : SubtreeCopying) (did : Did) → trees.Tells replies old did new → ends did ≡ false
    → after_step did (told_job (job_of id replies (Copy old) GoesOn)) ≡ Some (told_job (job_of id replies (Copy new) (course_after did)))
tree_told id replies old new (Began part) t h = (let a = t.after in ap (λ w. Some (job_of id replies w GoesOn)) (told_is id old new tree_stage.Going (Some part) a.top a.stage a.part))
tree_told id replies old new (Placed path) t h = (let a = t.after in ap (λ w. Some (job_of id replies w GoesOn)) (told_is id old new tree_stage.Going None a.top a.stage a.part))
tree_told id replies old new (Cleaned part) t h = (let a = t.after in ap (λ w. Some (job_of id replies w GoesOn)) (told_is id old new tree_stage.Going None a.top a.stage a.part))
tree_told id replies old new (Made path) t h = (let a = t.after in ap (λ w. Some (job_of id replies w GoesOn)) (told_is id old new tree_stage.Going (tree.part_of old.at.item) a.top a.stage a.part))
tree_told id replies old new (Set path) t h = (let a = t.after in ap (λ w. Some (job_of id replies w GoesOn)) (told_is id old new tree_stage.Going (tree.part_of old.at.item) a.top a.stage a.part))
tree_told id replies old new (Chunk count) t h = ap (λ w. Some (job_of id replies w GoesOn)) (told_so id old new (Chunk count) t.after refl (sym (begun_before old.at.stage t.first)))
tree_told id replies old new Barrier t h = ap (λ w. Some (job_of id replies w GoesOn)) (told_so id old new Barrier t.after refl (sym (begun_before old.at.stage t.first)))
tree_told id replies old new (Skipped path cause) t h = ap (λ w. Some (job_of id replies w GoesOn)) (told_so id old new (Skipped path cause) t.after refl refl)
tree_told id replies old new (Troubled trouble) t h =
    ap (λ course. Some (job_of id replies (work_told id (Copy old)) course)) (in_trouble id (Copy old) trouble (bars_apart (is_tree_fresh old.at.stage) trouble.barrier (t.apart trouble refl)))
    ∙ ap (λ w. Some (job_of id replies w (InTrouble (halt_of trouble)))) (told_so id old new (Troubled trouble) t.after refl refl)
tree_told id replies old new (Asked question) t h = ap (λ w. Some (job_of id replies w Asking)) (told_so id old new (Asked question) t.after refl refl)
tree_told id replies old new (Merges transfer pair names) t h = ap (λ w. Some (job_of id replies w GoesOn)) (told_so id old new (Merges transfer pair names) t.after refl refl)
tree_told id replies old new (Moved pair) t h = absurd t.may
tree_told id replies old new (Removed path) t h = absurd t.may
tree_told id replies old new (Kept path) t h = ap (λ w. Some (job_of id replies w GoesOn)) (told_so id old new (Kept path) t.after refl refl)
tree_told id replies old new (Ended ending part) t h = absurd cc

tree_winds : (id : ℕ) (replies : Replies) (ending : Ending) (old new : SubtreeCopying) (did : Did) → IsAfterLastStep ending old did new → ends did ≡ false
    → after_step did (told_job (job_of id replies (Copy old) (Ends ending))) ≡ Some (told_job (job_of id replies (Copy new) (Ends ending)))
tree_winds id replies ending old new (Cleaned part) w h = ap (λ x. Some (job_of id replies x (Ends ending))) (told_is id old new old.at.stage None w.top w.stage w.part)
tree_winds id replies ending old new Barrier w h = ap (λ x. Some (job_of id replies x (Ends ending))) (told_is id old new old.at.stage (tree.part_of old.at.item) w.top w.stage w.part)
tree_winds id replies ending old new (Ended how part) w h = absurd cc
tree_winds id replies ending old new (Began part) w h = absurd w.may
tree_winds id replies ending old new (Chunk count) w h = absurd w.may
tree_winds id replies ending old new (Asked question) w h = absurd w.may
tree_winds id replies ending old new (Merges transfer pair names) w h = absurd w.may
tree_winds id replies ending old new (Moved pair) w h = absurd w.may
tree_winds id replies ending old new (Set path) w h = absurd w.may
tree_winds id replies ending old new (Placed path) w h = absurd w.may
tree_winds id replies ending old new (Removed path) w h = absurd w.may
tree_winds id replies ending old new (Made path) w h = absurd w.may
tree_winds id replies ending old new (Kept path) w h = absurd w.may
tree_winds id replies ending old new (Skipped path cause) w h = absurd w.may
tree_winds id replies ending old new (Troubled trouble) w h = absurd w.may

-- the last steps
deletion_winds : (id : ℕ) (replies : Replies) (ending : Ending) (old new : Deleting) (did : Did) → deletions.Winds ending old did new → ends did ≡ false
    → after_step did (told_job (job_of id replies (Delete old) (Ends ending))) ≡ Some (told_job (job_of id replies (Delete new) (Ends ending)))
deletion_winds id replies ending old new Barrier (path_is, stage_is) h = ap (λ w. Some (job_of id replies w (Ends ending))) (ap (told_at old) (sym stage_is) ∙ told_same id old new path_is)
deletion_winds id replies ending old new (Ended how part) t h = absurd cc
deletion_winds id replies ending old new (Began part) t h = absurd t
deletion_winds id replies ending old new (Chunk count) t h = absurd t
deletion_winds id replies ending old new (Asked question) t h = absurd t
deletion_winds id replies ending old new (Merges transfer pair names) t h = absurd t
deletion_winds id replies ending old new (Moved pair) t h = absurd t
deletion_winds id replies ending old new (Set path) t h = absurd t
deletion_winds id replies ending old new (Placed path) t h = absurd t
deletion_winds id replies ending old new (Removed path) t h = absurd t
deletion_winds id replies ending old new (Made made) t h = absurd t
deletion_winds id replies ending old new (Kept kept) t h = absurd t
deletion_winds id replies ending old new (Skipped path cause) t h = absurd t
deletion_winds id replies ending old new (Cleaned part) t h = absurd t
deletion_winds id replies ending old new (Troubled trouble) t h = absurd t

making_winds : (id : ℕ) (replies : Replies) (ending : Ending) (old new : Making) (did : Did) → makings.Winds ending old did new → ends did ≡ false
    → after_step did (told_job (job_of id replies (Make old) (Ends ending))) ≡ Some (told_job (job_of id replies (Make new) (Ends ending)))
making_winds id replies ending old new Barrier (from, is) h = rw is (ap (λ stage. Some (job_of id replies (Make (record old { stage = makings.after_sync stage })) (Ends ending))) from)
making_winds id replies ending old new (Ended how part) t h = absurd cc
making_winds id replies ending old new (Began part) t h = absurd t
making_winds id replies ending old new (Chunk count) t h = absurd t
making_winds id replies ending old new (Asked question) t h = absurd t
making_winds id replies ending old new (Merges transfer pair names) t h = absurd t
making_winds id replies ending old new (Moved pair) t h = absurd t
making_winds id replies ending old new (Set path) t h = absurd t
making_winds id replies ending old new (Placed path) t h = absurd t
making_winds id replies ending old new (Made path) t h = absurd t
making_winds id replies ending old new (Removed made) t h = absurd t
making_winds id replies ending old new (Kept kept) t h = absurd t
making_winds id replies ending old new (Skipped path cause) t h = absurd t
making_winds id replies ending old new (Cleaned part) t h = absurd t
making_winds id replies ending old new (Troubled trouble) t h = absurd t

setting_winds : (id : ℕ) (replies : Replies) (ending : Ending) (old new : Setting) (did : Did) → modes.Winds ending old did new → ends did ≡ false
    → after_step did (told_job (job_of id replies (SetMode old) (Ends ending))) ≡ Some (told_job (job_of id replies (SetMode new) (Ends ending)))
setting_winds id replies ending old new Barrier (from, is) h = rw is (ap (λ stage. Some (job_of id replies (SetMode (record old { stage = modes.after_sync stage })) (Ends ending))) from)
setting_winds id replies ending old new (Ended how part) t h = absurd cc
setting_winds id replies ending old new (Began part) t h = absurd t
setting_winds id replies ending old new (Chunk count) t h = absurd t
setting_winds id replies ending old new (Asked question) t h = absurd t
setting_winds id replies ending old new (Merges transfer pair names) t h = absurd t
setting_winds id replies ending old new (Moved pair) t h = absurd t
setting_winds id replies ending old new (Set path) t h = absurd t
setting_winds id replies ending old new (Placed path) t h = absurd t
setting_winds id replies ending old new (Removed path) t h = absurd t
setting_winds id replies ending old new (Made path) t h = absurd t
setting_winds id replies ending old new (Kept path) t h = absurd t
setting_winds id replies ending old new (Skipped path cause) t h = absurd t
setting_winds id replies ending old new (Cleaned part) t h = absurd t
setting_winds id replies ending old new (Troubled trouble) t h = absurd t

goes_told : (id : ℕ) (replies : Replies) (old new : Work) (did : Did) → WorkTells replies old did new → ends did ≡ false
    → after_step did (told_job (job_of id replies old GoesOn)) ≡ Some (told_job (job_of id replies new (course_after did)))
goes_told id replies (Copy c) (Copy new) did t h = tree_told id replies c new did t h
goes_told id replies (Delete d) (Delete new) did t h = deletion_told id replies d new did t h
goes_told id replies (Make m) (Make new) did t h = making_told id replies m new did t h
goes_told id replies (Move m) (Move new) did t h = moving_told id replies m new did t h
goes_told id replies (SetMode s) (SetMode new) did t h = setting_told id replies s new did t h
goes_told id replies (RemoveEmptied r) (RemoveEmptied new) did t h = removal_told id replies r new did t h
goes_told id replies old new did t h = absurd t

winds_told : (id : ℕ) (replies : Replies) (ending : Ending) (old new : Work) (did : Did) → WorkWinds ending old did new → ends did ≡ false
    → after_step did (told_job (job_of id replies old (Ends ending))) ≡ Some (told_job (job_of id replies new (Ends ending)))
winds_told id replies ending (Copy c) (Copy new) did t h = tree_winds id replies ending c new did t h
winds_told id replies ending (Delete d) (Delete new) did t h = deletion_winds id replies ending d new did t h
winds_told id replies ending (Make m) (Make new) did t h = making_winds id replies ending m new did t h
winds_told id replies ending (Move m) (Move new) did t h = moving_winds id replies ending m new did t h
winds_told id replies ending (SetMode s) (SetMode new) did t h = setting_winds id replies ending s new did t h
winds_told id replies ending (RemoveEmptied r) (RemoveEmptied new) did t h = removal_winds id replies ending r new did t h
winds_told id replies ending old new did t h = absurd t

told_on : (course : Course) (id : ℕ) (replies : Replies) (work : Work) (new : Running) (did : Did) → TellsOn course (job_of id replies work course) did new → ends did ≡ false
    → after_step did (told_job (job_of id replies work course)) ≡ Some (told_job new)
told_on GoesOn id replies work new did (after, tells, is) h = rw is (goes_told id replies work after did tells h)
told_on (InTrouble halt) id replies work new did t h = absurd t
told_on (OwedSyncFailed cause) id replies work new did t h = absurd t
told_on Asking id replies work new did t h = absurd t
told_on (Skips cause) id replies work new did (inl (path, after, did_is, passes, new_is)) h = rw (did_is, new_is) (ap (λ w. Some (job_of id replies w GoesOn)) (skipped_told id work after path passes))
told_on (Skips cause) id replies work new did (inr (apart, did_is, new_is)) h = rw (did_is, new_is) (ap (λ course. Some (job_of id replies (work_told id work) course)) (skip_in_trouble id work))
told_on (Ends ending) id replies work new did (after, tells, is) h = rw is (winds_told id replies ending work after did tells h)

-- what a history tells of a job follows its steps
pub told_follows : (job new : Running) (did : Did) → JobTells job did new → ends did ≡ false → after_step did (told_job job) ≡ Some (told_job new)
told_follows job new did t h = told_on job.course job.id job.replies job.work new did t h

-- after an end there is none
pub step_told : (job new : Running) (did : Did) → JobTells job did new → option_map told_job (if ends did then None else Some new) ≡ after_step did (told_job job)
step_told job new (Began part) t = sym (told_follows job new (Began part) t refl)
step_told job new (Chunk count) t = sym (told_follows job new (Chunk count) t refl)
step_told job new (Asked question) t = sym (told_follows job new (Asked question) t refl)
step_told job new (Merges transfer pair names) t = sym (told_follows job new (Merges transfer pair names) t refl)
step_told job new (Moved pair) t = sym (told_follows job new (Moved pair) t refl)
step_told job new (Set path) t = sym (told_follows job new (Set path) t refl)
step_told job new (Placed path) t = sym (told_follows job new (Placed path) t refl)
step_told job new (Removed path) t = sym (told_follows job new (Removed path) t refl)
step_told job new (Made made) t = sym (told_follows job new (Made made) t refl)
step_told job new (Kept kept) t = sym (told_follows job new (Kept kept) t refl)
step_told job new (Skipped path cause) t = sym (told_follows job new (Skipped path cause) t refl)
step_told job new (Cleaned part) t = sym (told_follows job new (Cleaned part) t refl)
step_told job new Barrier t = sym (told_follows job new Barrier t refl)
step_told job new (Troubled trouble) t = sym (told_follows job new (Troubled trouble) t refl)
step_told job new (Ended ending part) t = refl

-- an answer, and the beginning of a job, are told whole
pub answered_told : (answer : Answer) (job : Running) → told_job (answered_job answer job) ≡ answered_job answer (told_job job)
answered_told answer job = answers job.course answer
  where
    answers : (course : Course) (answer : Answer) → told_job (answered_on course answer (job_of job.id job.replies job.work course)) ≡ answered_on course answer (told_job (job_of job.id job.replies job.work course))
    answers (InTrouble halt) Retry = ap (λ w. job_of job.id job.replies w GoesOn) (sym (anew_told job.id job.work))
    answers (InTrouble halt) Skip = refl
    answers (InTrouble halt) SkipAll = refl
    answers (InTrouble halt) Abort = refl
    answers (InTrouble halt) Yes = refl
    answers (InTrouble halt) No = refl
    answers (InTrouble halt) All = refl
    answers (InTrouble halt) Update = refl
    answers (InTrouble halt) Nothing = refl
    answers (InTrouble halt) SizeDiffers = refl
    answers (OwedSyncFailed cause) Retry = ap (λ w. job_of job.id job.replies w GoesOn) (sym (anew_told job.id job.work))
    answers (OwedSyncFailed cause) Skip = refl
    answers (OwedSyncFailed cause) SkipAll = refl
    answers (OwedSyncFailed cause) Abort = refl
    answers (OwedSyncFailed cause) Yes = refl
    answers (OwedSyncFailed cause) No = refl
    answers (OwedSyncFailed cause) All = refl
    answers (OwedSyncFailed cause) Update = refl
    answers (OwedSyncFailed cause) Nothing = refl
    answers (OwedSyncFailed cause) SizeDiffers = refl
    answers Asking Yes = refl
    answers Asking No = refl
    answers Asking All = refl
    answers Asking Update = refl
    answers Asking Nothing = refl
    answers Asking SizeDiffers = refl
    answers Asking Retry = refl
    answers Asking Skip = refl
    answers Asking SkipAll = refl
    answers Asking Abort = refl
    answers GoesOn answer = refl
    answers (Skips cause) answer = refl
    answers (Ends ending) answer = refl

began_if : (id : ℕ) (b : Bool) (work : Work) → work_told id work ≡ work → option_map told_job (option_map (running id) (if b then Some work else None)) ≡ option_map (running id) (if b then Some work else None)
began_if id true work same = ap (λ w. Some (running id w)) same
began_if id false work same = refl

pub began_told : (id : ℕ) (plan : Job) → option_map told_job (option_map (running id) (first_work id plan)) ≡ option_map (running id) (first_work id plan)
began_told id (plan.Delete []) = refl
began_told id (plan.Delete (path ∷ [])) = began_if id (is_some (parent_of path)) (deletes path) refl
began_told id (plan.Delete (path ∷ more ∷ paths)) = refl
began_told id (plan.Copy []) = refl
began_told id (plan.Copy (pair ∷ [])) = began_if id (is_some (parent_of pair.source) && is_some (parent_of pair.target)) (copies id pair) refl
began_told id (plan.Copy (pair ∷ more ∷ pairs)) = refl
began_told id (plan.Move []) = refl
began_told id (plan.Move (pair ∷ [])) = began_if id ((is_some (parent_of pair.source) && is_some (parent_of pair.target)) && not (same_path pair.source pair.target)) (moves pair) refl
began_told id (plan.Move (pair ∷ more ∷ pairs)) = refl
began_told id (plan.MakeFolder path) = began_if id (is_some (parent_of path)) (makes thing.Folder path) refl
began_told id (plan.MakeLink path text) = began_if id (is_some (parent_of path) && is_link_text text) (makes (thing.Link text) path) refl
began_told id (plan.SetMode [] mode) = refl
began_told id (plan.SetMode (path ∷ []) mode) = began_if id (is_some (parent_of path) && nat_le mode 0o7777) (sets path mode) refl
began_told id (plan.SetMode (path ∷ more ∷ paths) mode) = refl
began_told id (plan.RemoveEmptied path) = began_if id (is_some (parent_of path)) (removes_emptied path) refl

-- the sync of what an ended job left dirty comes before the first change, and leaves the work as it is
synced_making : (m : Making) (stage : MakingStage) → makings.is_fresh stage ≡ true → synced_work (Make (record m { stage = stage })) ≡ Make (record m { stage = stage })
synced_making m making.Make h = refl
synced_making m making.Sync h = absurd (false≢true h)
synced_making m making.Finish h = absurd (false≢true h)
synced_making m making.PassedOver h = absurd (false≢true h)

synced_setting : (s : Setting) (stage : SettingStage) → settings.is_fresh stage ≡ true → synced_work (SetMode (record s { stage = stage })) ≡ SetMode (record s { stage = stage })
synced_setting s setting.Give h = refl
synced_setting s setting.Sync h = absurd (false≢true h)
synced_setting s setting.Done h = absurd (false≢true h)

fresh_synced : (id : ℕ) (work : Work) → is_fresh work ≡ true → synced_work (work_told id work) ≡ work_told id work
fresh_synced id (Copy c) h = refl
fresh_synced id (Delete d) h = refl
fresh_synced id (Make m) h = synced_making m m.stage h
fresh_synced id (Move m) h = synced_moving m m.stage h
fresh_synced id (SetMode s) h = synced_setting s s.stage h
fresh_synced id (RemoveEmptied r) h = synced_removal r r.stage h

fresh_unsettled : (id : ℕ) (work : Work) (trouble : Trouble) → is_fresh work ≡ true → trouble.barrier ≡ true → course_told (work_told id work) trouble ≡ OwedSyncFailed trouble.cause
fresh_unsettled id work trouble fresh barrier =
    ap (λ b. if b && trouble.barrier then OwedSyncFailed trouble.cause else InTrouble (halt_of trouble)) (fresh_told id work ∙ fresh)
    ∙ ap (λ b. if b then OwedSyncFailed trouble.cause else InTrouble (halt_of trouble)) barrier

-- what is told of a job follows the sync of what an ended job left dirty, or its trouble
pub sync_told : (job : Running) (did : Did) (after : Option Running) → is_fresh job.work ≡ true
    → ((did ≡ Barrier) × (after ≡ Some job)) ⊎ ((trouble : Trouble) × (did ≡ Troubled trouble) × (trouble.barrier ≡ true) × (after ≡ Some (record job { course = OwedSyncFailed trouble.cause })))
    → option_map told_job after ≡ after_step did (told_job job)
sync_told job did after fresh (inl h) = rw (h.0, h.1) (ap (λ w. Some (job_of job.id job.replies w job.course)) (sym (fresh_synced job.id job.work fresh)))
sync_told job did after fresh (inr (trouble, did_is, barred, after_is)) =
    rw (did_is, after_is) (ap (λ course. Some (job_of job.id job.replies (work_told job.id job.work) course)) (sym (fresh_unsettled job.id job.work trouble fresh barred)))

pub closed_told : (closed : Bool) (job : Option Running) → option_map told_job (if_closed closed job) ≡ if_closed closed (option_map told_job job)
closed_told true None = refl
closed_told true (Some job) = refl
closed_told false job = refl
