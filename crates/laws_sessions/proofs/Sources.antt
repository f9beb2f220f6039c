-- A step leaves a job its number and its item.
use Rattle.std.proofs.Common.{◌≡◌, ℕ, Bool, true, false, [], ◌∷◌, refl, sym, ◌∙◌, ap, inl, inr, Some, None}
use Rattle.std.specs.Prelude.{if◌then◌else◌, is_some, nat_le, not, ◌&&◌}
use Rattle.std.specs.Option.{option_map}
use Rattle.mc_text.specs.Routes.{Route, parent_of, same_path}
use Rattle.job_answers.specs.declared.replies.Replies.{Replies}
use Rattle.job_reports.specs.declared.job.Job.{Job}
use Rattle.job_reports.specs.declared.job.Pair.{Pair}
use Rattle.job_reports.specs.declared.job.Job.TheVariants as plan
use Rattle.job_reports.specs.Jobs.{ItemOfJob, Copies, Moves, Removes, Makes, MakesLink, Sets, RemovesEmptied, folder_changed, is_link_text, item_of}
use Rattle.job_reports.specs.declared.report.Ending.{Ending}
use Rattle.job_reports.specs.declared.report.Ending.TheVariants.{Finished}
use Rattle.job_reports.specs.declared.report.Did.{Did}
use Rattle.job_reports.specs.declared.report.Did.TheVariants.{Removed, Made, Set, Kept, Skipped, Barrier, Asked, Merges, Moved, Troubled, Ended}
use Rattle.job_reports.specs.Paths.{folder_of}
use Rattle.job_reports.specs.declared.answer.Answer.{Answer}
use Rattle.job_reports.specs.declared.answer.Answer.TheVariants.{Yes, No, All, Update, Nothing, SizeDiffers, Retry, Skip, SkipAll, Abort}
use Rattle.make_job.specs.declared.new_thing.NewThing.{NewThing}
use Rattle.make_job.specs.declared.new_thing.NewThing.TheVariants as thing
use Rattle.copy_move.specs.declared.work.Work.{Work}
use Rattle.copy_move.specs.declared.work.Work.TheVariants.{Copy, Delete, Make, Move, SetMode, RemoveEmptied}
use Rattle.copy_move.specs.declared.run.Course.{Course}
use Rattle.copy_move.specs.declared.run.Course.TheVariants.{GoesOn, Asking, InTrouble, OwedSyncFailed, Skips, Ends}
use Rattle.delete_job.specs.Deletions.{Deleting}
use Rattle.delete_job.specs.Deletions as deletions
use Rattle.make_job.specs.Makings.{Making}
use Rattle.make_job.specs.Makings as makings
use Rattle.move_job.specs.Movings.{Moving}
use Rattle.move_job.specs.Movings as movings
use Rattle.emptied_job.specs.Removals.{Removing}
pub use Rattle.emptied_job.proofs.RemovalFolders.{removal_stays, removal_winds_there}
use Rattle.mode_job.specs.ModeSettings as modes
use Rattle.mode_job.specs.Settings.{Setting}
use Rattle.mode_job.specs.Settings as settings
use Rattle.copy_move.specs.Jobs.{PassesOver, Running, JobTells, TellsOn, WorkTells, WorkWinds, answered_job, answered_on, copies, deletes, first_work, makes, moves, removes_emptied, sets, taken_anew}
use Rattle.copy_move.specs.Settling.{changed_folder}
use Rattle.laws_sessions.specs.Touched.{touches}
use Rattle.laws_sessions.proofs.OwnNames.{may_change}

-- what is made at a path
abbrev pub making_item : NewThing → Route → ItemOfJob
making_item thing.Folder path = Makes path
making_item (thing.Link text) path = MakesLink path text

-- what a work is at, whatever its stage
abbrev pub item_in : Work → ItemOfJob
item_in (Copy c) = Copies c.top.source c.top.target
item_in (Delete d) = Removes d.path
item_in (Make m) = making_item m.thing m.path
item_in (Move m) = Moves m.pair.source m.pair.target
item_in (SetMode s) = Sets s.path s.mode
item_in (RemoveEmptied r) = RemovesEmptied r.path

-- of a copy
abbrev tree_item : Pair → ItemOfJob
tree_item top = Copies top.source top.target

-- of a move
abbrev move_item : Pair → ItemOfJob
move_item pair = Moves pair.source pair.target

making_folder : (new : NewThing) (path : Route) → folder_changed (making_item new path) ≡ folder_of path
making_folder thing.Folder path = refl
making_folder (thing.Link text) path = refl

-- the folder in which it changes names is that of its item
pub folder_is : (work : Work) → folder_changed (item_in work) ≡ changed_folder work
folder_is (Copy c) = refl
folder_is (Delete d) = refl
folder_is (Make m) = making_folder m.thing m.path
folder_is (Move m) = refl
folder_is (SetMode s) = refl
folder_is (RemoveEmptied r) = refl

-- where a thing is made, its name changes and no other
making_may : (new : NewThing) (path p : Route) → may_change (making_item new path) p ≡ same_path p path
making_may thing.Folder path p = refl
making_may (thing.Link text) path p = refl

pub making_changed : (new : NewThing) (path p : Route) → may_change (making_item new path) p ≡ true → same_path p path ≡ true
making_changed new path p h = sym (making_may new path p) ∙ h

pub making_changes : (new : NewThing) (path p : Route) → same_path p path ≡ true → may_change (making_item new path) p ≡ true
making_changes new path p h = making_may new path p ∙ h

-- so it does where that is touched
pub making_touched : (new : NewThing) (path p : Route) → touches (making_item new path) p ≡ true → same_path p path ≡ true
making_touched thing.Folder path p h = h
making_touched (thing.Link text) path p h = h

-- works on the same item change names in the same folder
pub folder_same : (old new : Work) → item_in old ≡ item_in new → changed_folder old ≡ changed_folder new
folder_same old new e = sym (folder_is old) ∙ (ap folder_changed e ∙ folder_is new)

-- a plan begins the work on its item
first_if : (b : Bool) (work : Work) → (if b then Some (item_in work) else None) ≡ option_map item_in (if b then Some work else None)
first_if true work = refl
first_if false work = refl

pub first_item : (id : ℕ) (job : Job) → item_of job ≡ option_map item_in (first_work id job)
first_item id (plan.Delete []) = refl
first_item id (plan.Delete (path ∷ [])) = first_if (is_some (parent_of path)) (deletes path)
first_item id (plan.Delete (path ∷ more ∷ paths)) = refl
first_item id (plan.Copy []) = refl
first_item id (plan.Copy (pair ∷ [])) = first_if (is_some (parent_of pair.source) && is_some (parent_of pair.target)) (copies id pair)
first_item id (plan.Copy (pair ∷ more ∷ pairs)) = refl
first_item id (plan.Move []) = refl
first_item id (plan.Move (pair ∷ [])) = first_if ((is_some (parent_of pair.source) && is_some (parent_of pair.target)) && not (same_path pair.source pair.target)) (moves pair)
first_item id (plan.Move (pair ∷ more ∷ pairs)) = refl
first_item id (plan.MakeFolder path) = first_if (is_some (parent_of path)) (makes thing.Folder path)
first_item id (plan.MakeLink path text) = first_if (is_some (parent_of path) && is_link_text text) (makes (thing.Link text) path)
first_item id (plan.SetMode [] mode) = refl
first_item id (plan.SetMode (path ∷ []) mode) = first_if (is_some (parent_of path) && nat_le mode 0o7777) (sets path mode)
first_item id (plan.SetMode (path ∷ more ∷ paths) mode) = refl
first_item id (plan.RemoveEmptied path) = first_if (is_some (parent_of path)) (removes_emptied path)

deletion_paths : (replies : Replies) (d new : Deleting) (did : Did) → deletions.Tells replies d did new → item_in (Delete new) ≡ item_in (Delete d)
deletion_paths replies d new (Removed path) (going, within, at) = ap Removes at.path_is
deletion_paths replies d new Barrier (stage, at) = ap Removes at.path_is
deletion_paths replies d new (Troubled trouble) (barrier, at) = ap Removes at.path_is
deletion_paths replies d new (Ended Finished part) (stage, part_is, at) = ap Removes at.path_is
deletion_paths replies d new (Kept path) (going, at) = ap Removes at.path_is
deletion_paths replies d new (Skipped path why) (going, passes, at) = ap Removes at.path_is
deletion_paths replies d new did t = absurd t

making_paths : (m new : Making) (did : Did) → makings.Tells m did new → item_in (Make new) ≡ item_in (Make m)
making_paths m new (Made path) (stage, path_is, new_is) = ap (λ (x : Making). item_in (Make x)) new_is
making_paths m new Barrier (stage, new_is) = ap (λ (x : Making). item_in (Make x)) new_is
making_paths m new (Troubled trouble) (at, new_is) = ap (λ (x : Making). item_in (Make x)) new_is
making_paths m new (Ended Finished part) (is_done, part_is, new_is) = ap (λ (x : Making). item_in (Make x)) new_is
making_paths m new did t = absurd t

deletion_winds : (ending : Ending) (d new : Deleting) (did : Did) → deletions.Winds ending d did new → item_in (Delete new) ≡ item_in (Delete d)
deletion_winds ending d new Barrier (path_is, stage_is) = ap Removes path_is
deletion_winds ending d new (Ended how part) (how_is, part_is, path_is, stage_is) = ap Removes path_is
deletion_winds ending d new did t = absurd t

making_winds : (ending : Ending) (m new : Making) (did : Did) → makings.Winds ending m did new → item_in (Make new) ≡ item_in (Make m)
making_winds ending m new Barrier (stage, new_is) = ap (λ (x : Making). item_in (Make x)) new_is
making_winds ending m new (Ended how part) (stage, how_is, part_is, new_is) = ap (λ (x : Making). item_in (Make x)) new_is
making_winds ending m new did t = absurd t

setting_paths : (replies : Replies) (s new : Setting) (did : Did) → settings.Tells replies s did new → item_in (SetMode new) ≡ item_in (SetMode s)
setting_paths replies s new (Set path) (stage, path_is, new_is) = ap (λ (x : Setting). item_in (SetMode x)) new_is
setting_paths replies s new Barrier (stage, new_is) = ap (λ (x : Setting). item_in (SetMode x)) new_is
setting_paths replies s new (Troubled trouble) (at, told, new_is) = ap (λ (x : Setting). item_in (SetMode x)) new_is
setting_paths replies s new (Ended Finished part) (is_done, part_is, new_is) = ap (λ (x : Setting). item_in (SetMode x)) new_is
setting_paths replies s new (Skipped path why) (stage, path_is, passes, new_is) = ap (λ (x : Setting). item_in (SetMode x)) new_is
setting_paths replies s new did t = absurd t

setting_winds : (ending : Ending) (s new : Setting) (did : Did) → modes.Winds ending s did new → item_in (SetMode new) ≡ item_in (SetMode s)
setting_winds ending s new Barrier (stage, new_is) = ap (λ (x : Setting). item_in (SetMode x)) new_is
setting_winds ending s new (Ended how part) (stage, how_is, part_is, new_is) = ap (λ (x : Setting). item_in (SetMode x)) new_is
setting_winds ending s new did t = absurd t

-- a move stays at its two paths
pub moving_stays : (replies : Replies) (m new : Moving) (did : Did) → movings.Tells replies m did new → new.pair ≡ m.pair
moving_stays replies m new (Moved pair) (stage, pair_is, new_is) = ap (λ (x : Moving). x.pair) new_is
moving_stays replies m new (Kept path) (stage, path_is, new_is) = ap (λ (x : Moving). x.pair) new_is
moving_stays replies m new (Skipped path why) (stage, path_is, passes, new_is) = ap (λ (x : Moving). x.pair) new_is
moving_stays replies m new Barrier (dirty, new_is) = ap (λ (x : Moving). x.pair) new_is
moving_stays replies m new (Asked question) (stage, new_is) = ap (λ (x : Moving). x.pair) new_is
moving_stays replies m new (Troubled trouble) (barrier, off, told, new_is) = ap (λ (x : Moving). x.pair) new_is
moving_stays replies m new (Ended Finished part) (is_done, part_is, new_is) = ap (λ (x : Moving). x.pair) new_is
moving_stays replies m new (Merges transfer pair names) (stage, merges, new_is) = ap (λ (x : Moving). x.pair) new_is
moving_stays replies m new did t = absurd t

moving_winds : (ending : Ending) (m new : Moving) (did : Did) → movings.Winds ending m did new → new.pair ≡ m.pair
moving_winds ending m new Barrier (dirty, new_is) = ap (λ (x : Moving). x.pair) new_is
moving_winds ending m new (Ended how part) (clean, how_is, part_is, new_is) = ap (λ (x : Moving). x.pair) new_is
moving_winds ending m new did t = absurd t

pub work_paths : (replies : Replies) (old new : Work) (did : Did) → WorkTells replies old did new → item_in new ≡ item_in old
work_paths replies (Delete d) (Delete new) did t = deletion_paths replies d new did t
work_paths replies (Make m) (Make new) did t = making_paths m new did t
work_paths replies (Move m) (Move new) did t = ap move_item (moving_stays replies m new did t)
work_paths replies (SetMode s) (SetMode new) did t = setting_paths replies s new did t
work_paths replies (Copy c) (Copy new) did t = let after = t.after in ap tree_item after.top
work_paths replies (RemoveEmptied r) (RemoveEmptied new) did t = ap RemovesEmptied (removal_stays replies r new did t)
work_paths replies old new did t = absurd t

wind_paths : (ending : Ending) (old new : Work) (did : Did) → WorkWinds ending old did new → item_in new ≡ item_in old
wind_paths ending (Delete d) (Delete new) did t = deletion_winds ending d new did t
wind_paths ending (Make m) (Make new) did t = making_winds ending m new did t
wind_paths ending (Move m) (Move new) did t = ap move_item (moving_winds ending m new did t)
wind_paths ending (SetMode s) (SetMode new) did t = setting_winds ending s new did t
wind_paths ending (Copy c) (Copy new) did t = ap tree_item t.top
wind_paths ending (RemoveEmptied r) (RemoveEmptied new) did t = ap RemovesEmptied (removal_winds_there ending r new did t)
wind_paths ending old new did t = absurd t

skip_paths : (work new : Work) (path : Route) → PassesOver work path new → item_in new ≡ item_in work
skip_paths (Delete d) (Delete new) path at = ap Removes at.path_is
skip_paths (Make m) (Make new) path (path_is, new_is) = ap (λ (x : Making). item_in (Make x)) new_is
skip_paths (Move m) (Move new) path (path_is, new_is) = ap (λ (x : Moving). item_in (Move x)) new_is
skip_paths (Copy c) (Copy new) path (cause, after) = ap tree_item after.top
skip_paths (SetMode s) (SetMode new) path (path_is, new_is) = ap (λ (x : Setting). item_in (SetMode x)) new_is
skip_paths (RemoveEmptied r) (RemoveEmptied new) path (path_is, new_is) = ap (λ (x : Removing). item_in (RemoveEmptied x)) new_is
skip_paths old new path h = absurd h

anew_paths : (work : Work) → item_in (taken_anew work) ≡ item_in work
anew_paths (Copy c) = refl
anew_paths (Delete d) = refl
anew_paths (Make m) = refl
anew_paths (Move m) = refl
anew_paths (SetMode s) = refl
anew_paths (RemoveEmptied r) = refl

abbrev pub IsSame : Running → Running → Type 0
IsSame old new = (new.id ≡ old.id) × (item_in new.work ≡ item_in old.work)

on_same : (old new : Running) (did : Did) (course : Course) → TellsOn course old did new → IsSame old new
on_same old new did GoesOn (work, tells, new_is) = (ap (λ (x : Running). x.id) new_is, ap (λ (x : Running). item_in x.work) new_is ∙ work_paths old.replies old.work work did tells)
on_same old new did (InTrouble halt) t = absurd t
on_same old new did (OwedSyncFailed why) t = absurd t
on_same old new did Asking t = absurd t
on_same old new did (Skips why) (inl (path, work, did_is, passes, new_is)) = (ap (λ (x : Running). x.id) new_is, ap (λ (x : Running). item_in x.work) new_is ∙ skip_paths old.work work path passes)
on_same old new did (Skips why) (inr (apart, did_is, new_is)) = (ap (λ (x : Running). x.id) new_is, ap (λ (x : Running). item_in x.work) new_is)
on_same old new did (Ends ending) (work, winds, new_is) = (ap (λ (x : Running). x.id) new_is, ap (λ (x : Running). item_in x.work) new_is ∙ wind_paths ending old.work work did winds)

pub tells_same : (old new : Running) (did : Did) → JobTells old did new → IsSame old new
tells_same old new did t = on_same old new did old.course t

answer_on : (course : Course) (answer : Answer) (job : Running) → IsSame job (answered_on course answer job)
answer_on (InTrouble halt) Retry job = (refl, anew_paths job.work)
answer_on (InTrouble halt) Skip job = (refl, refl)
answer_on (InTrouble halt) SkipAll job = (refl, refl)
answer_on (InTrouble halt) Abort job = (refl, refl)
answer_on (OwedSyncFailed why) Retry job = (refl, anew_paths job.work)
answer_on (OwedSyncFailed why) Skip job = (refl, refl)
answer_on (OwedSyncFailed why) SkipAll job = (refl, refl)
answer_on (OwedSyncFailed why) Abort job = (refl, refl)
answer_on (InTrouble halt) Yes job = (refl, refl)
answer_on (InTrouble halt) No job = (refl, refl)
answer_on (InTrouble halt) All job = (refl, refl)
answer_on (InTrouble halt) Update job = (refl, refl)
answer_on (InTrouble halt) Nothing job = (refl, refl)
answer_on (InTrouble halt) SizeDiffers job = (refl, refl)
answer_on (OwedSyncFailed why) Yes job = (refl, refl)
answer_on (OwedSyncFailed why) No job = (refl, refl)
answer_on (OwedSyncFailed why) All job = (refl, refl)
answer_on (OwedSyncFailed why) Update job = (refl, refl)
answer_on (OwedSyncFailed why) Nothing job = (refl, refl)
answer_on (OwedSyncFailed why) SizeDiffers job = (refl, refl)
answer_on Asking Yes job = (refl, refl)
answer_on Asking No job = (refl, refl)
answer_on Asking All job = (refl, refl)
answer_on Asking Update job = (refl, refl)
answer_on Asking Nothing job = (refl, refl)
answer_on Asking SizeDiffers job = (refl, refl)
answer_on Asking Retry job = (refl, refl)
answer_on Asking Skip job = (refl, refl)
answer_on Asking SkipAll job = (refl, refl)
answer_on Asking Abort job = (refl, refl)
answer_on GoesOn answer job = (refl, refl)
answer_on (Skips why) answer job = (refl, refl)
answer_on (Ends ending) answer job = (refl, refl)

pub answer_same : (answer : Answer) (job : Running) → IsSame job (answered_job answer job)
answer_same answer job = answer_on job.course answer job
