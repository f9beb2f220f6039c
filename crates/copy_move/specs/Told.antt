-- What a history tells of its jobs: the live one, but for where the walk of a deletion or of a copy stands,
-- with the size and the mode that a file was said to have and how many of its bytes were copied. Histories
-- stand newest first here.
use Rattle.std.specs.Prelude.{◌≡◌, ◌⊎◌, ℕ, Bool, true, false, ◌&&◌, Option, Some, None, if◌then◌else◌}
use Rattle.std.specs.Option.{option_map}
use Rattle.mc_text.specs.Routes.{Route}
use Rattle.job_reports.specs.declared.job.Job.{Job}
use Rattle.job_reports.specs.declared.report.Trouble.{Trouble}
use Rattle.job_reports.specs.Jobs.{is_workable}
use Rattle.job_reports.specs.declared.report.Ending.TheVariants.{Finished, NoMemory}
use Rattle.job_reports.specs.declared.report.Did.{Did}
use Rattle.job_reports.specs.declared.report.Did.TheVariants.{Began, Chunk, Placed, Removed, Made}
use Rattle.job_reports.specs.declared.report.Did.TheVariants.{Set, Kept, Skipped, Cleaned, Barrier}
use Rattle.job_reports.specs.declared.report.Did.TheVariants.{Asked, Merges, Moved, Troubled, Ended}
use Rattle.job_answers.specs.Decisions.{no_replies}
use Rattle.tree_walk.specs.Places.{unopened_walk}
use Rattle.delete_job.specs.declared.deletion.Depth.TheVariants.{Top}
use Rattle.delete_job.specs.declared.deletion.Stage.TheVariants.{Going}
use Rattle.delete_job.specs.Standing.{after_item}
use Rattle.make_job.specs.declared.making.MakingStage.TheVariants as making
use Rattle.copy_move.specs.declared.work.Work.{Work}
use Rattle.copy_move.specs.declared.work.Work.TheVariants.{Copy, Delete, Make, Move, SetMode, RemoveEmptied}
use Rattle.copy_move.specs.declared.run.Course.{Course}
use Rattle.copy_move.specs.declared.run.Course.TheVariants.{GoesOn, Asking, InTrouble, OwedSyncFailed}
use Rattle.make_job.specs.Makings as makings
use Rattle.move_job.specs.declared.moving.MovingStage.TheVariants as moving
use Rattle.move_job.specs.Movings as movings
use Rattle.emptied_job.specs.declared.removal.RemovalStage.TheVariants as removal
use Rattle.emptied_job.specs.Removals as removals
use Rattle.mode_job.specs.ModeSettings as modes
use Rattle.mode_job.specs.declared.setting.Stage.TheVariants as setting
use Rattle.mode_job.specs.Settings as settings
use Rattle.copy_move.specs.TreeCopies as trees
use Rattle.copy_job.specs.Standing.{SubtreeCopying}
use Rattle.copy_move.specs.Jobs.{Running, JobTells, closed_job, first_work}
use Rattle.copy_move.specs.Jobs.{halt_of, is_fresh, part_of, waits_on}

-- the work of the job with this number
abbrev pub work_told : ℕ → Work → Work
work_told id (Copy c) = Copy (trees.as_told id c)
work_told id (Delete d) = Delete (record d { depth = Top; place = unopened_walk; tried = 0 })
work_told id (Make m) = Make m
work_told id (Move m) = Move m
work_told id (SetMode s) = SetMode s
work_told id (RemoveEmptied r) = RemoveEmptied r

-- a job as its history tells it
abbrev pub told_job : Running → Running
told_job job = record job { work = work_told job.id job.work }

-- the work once a part stands
abbrev pub with_part : Route → Work → Work
with_part part (Copy c) = Copy (trees.with_part (Some part) c)
with_part part (Delete d) = Delete d
with_part part (Make m) = Make m
with_part part (Move m) = Move m
with_part part (SetMode s) = SetMode s
with_part part (RemoveEmptied r) = RemoveEmptied r

-- the work once something of what it copies was placed
abbrev pub placed_work : Work → Work
placed_work (Copy c) = Copy (trees.with_part None c)
placed_work (Delete d) = Delete d
placed_work (Make m) = Make m
placed_work (Move m) = Move m
placed_work (SetMode s) = SetMode s
placed_work (RemoveEmptied r) = RemoveEmptied r

-- the work once this was removed
abbrev pub removed_work : Route → Work → Work
removed_work path (Copy c) = Copy c
removed_work path (Delete d) = Delete (record d { stage = after_item d.path path Going })
removed_work path (Make m) = Make m
removed_work path (Move m) = Move m
removed_work path (SetMode s) = SetMode s
removed_work path (RemoveEmptied r) = RemoveEmptied (record r { stage = removal.Sync })

-- the work once its thing, or a folder of what it copies, was made
abbrev pub made_work : Work → Work
made_work (Copy c) = Copy (trees.changed_copy c)
made_work (Delete d) = Delete d
made_work (Make m) = Make (record m { stage = making.Sync })
made_work (Move m) = Move m
made_work (SetMode s) = SetMode s
made_work (RemoveEmptied r) = RemoveEmptied r

-- the work once its thing was moved
abbrev pub moved_work : Work → Work
moved_work (Copy c) = Copy c
moved_work (Delete d) = Delete d
moved_work (Make m) = Make m
moved_work (Move m) = Move (record m { stage = moving.SyncTarget })
moved_work (SetMode s) = SetMode s
moved_work (RemoveEmptied r) = RemoveEmptied r

-- the work once its folder was merged with that at its target: what lies in it are sources of their own
-- then. Of a copy the history tells the same as before.
abbrev pub merged_work : Work → Work
merged_work (Copy c) = Copy c
merged_work (Delete d) = Delete d
merged_work (Make m) = Make m
merged_work (Move m) = Move (record m { stage = moving.PassedOver })
merged_work (SetMode s) = SetMode s
merged_work (RemoveEmptied r) = RemoveEmptied r

-- the work once its thing, or a folder of what it copies, was given the mode
abbrev pub mode_given : Work → Work
mode_given (Copy c) = Copy (trees.changed_copy c)
mode_given (Delete d) = Delete d
mode_given (Make m) = Make m
mode_given (Move m) = Move m
mode_given (SetMode s) = SetMode (record s { stage = setting.Sync })
mode_given (RemoveEmptied r) = RemoveEmptied r

-- the work once this folder was kept, or what stands at the target of a copy or a move, or the emptied folder
abbrev pub spared_work : Route → Work → Work
spared_work path (Copy c) = Copy c
spared_work path (Delete d) = Delete (record d { stage = after_item d.path path d.stage })
spared_work path (Make m) = Make m
spared_work path (Move m) = Move (record m { stage = moving.PassedOver })
spared_work path (SetMode s) = SetMode s
spared_work path (RemoveEmptied r) = RemoveEmptied (record r { stage = removal.PassedOver })

-- the work once this was left as it is
abbrev pub skipped_work : Route → Work → Work
skipped_work path (Copy c) = Copy c
skipped_work path (Delete d) = Delete (record d { stage = after_item d.path path d.stage })
skipped_work path (Make m) = Make (record m { stage = makings.skipped_stage m.stage })
skipped_work path (Move m) = Move (record m { stage = movings.skipped_stage m.stage })
skipped_work path (SetMode s) = SetMode (record s { stage = settings.skipped_stage s.stage })
skipped_work path (RemoveEmptied r) = RemoveEmptied (record r { stage = removals.skipped_stage r.stage })

-- a copy once its part was removed; in its last steps only the part is gone
abbrev pub cleaned_tree : Course → SubtreeCopying → SubtreeCopying
cleaned_tree GoesOn c = trees.with_part None c
cleaned_tree course c = trees.without_part c

abbrev pub cleaned_work : Course → Work → Work
cleaned_work course (Copy c) = Copy (cleaned_tree course c)
cleaned_work course (Delete d) = Delete d
cleaned_work course (Make m) = Make m
cleaned_work course (Move m) = Move m
cleaned_work course (SetMode s) = SetMode s
cleaned_work course (RemoveEmptied r) = RemoveEmptied r

-- The work once a folder, or the thing itself, was synced, or that was tried. A deletion and a copy
-- stand where they stood. The sync of what an ended job left dirty comes before the first change, and
-- leaves the work as it is.
abbrev pub synced_work : Work → Work
synced_work (Copy c) = Copy c
synced_work (Delete d) = Delete d
synced_work (Make m) = Make (record m { stage = makings.after_sync m.stage })
synced_work (Move m) = Move (record m { stage = movings.after_sync m.pair m.stage })
synced_work (SetMode s) = SetMode (record s { stage = modes.after_sync s.stage })
synced_work (RemoveEmptied r) = RemoveEmptied (record r { stage = removals.after_sync r.stage })

-- a trouble at a barrier before the first change is that of what an ended job left dirty
abbrev pub course_told : Work → Trouble → Course
course_told work trouble =
    if is_fresh work && trouble.barrier then OwedSyncFailed trouble.cause else InTrouble (halt_of trouble)

-- the job after a step
abbrev pub after_step : Did → Running → Option Running
after_step (Began part) job = Some (record job { work = with_part part job.work })
after_step (Chunk count) job = Some job
after_step (Set path) job = Some (record job { work = mode_given job.work })
after_step (Placed path) job = Some (record job { work = placed_work job.work })
after_step (Removed path) job = Some (record job { work = removed_work path job.work })
after_step (Made path) job = Some (record job { work = made_work job.work })
after_step (Kept path) job = Some (record job { work = spared_work path job.work })
after_step (Skipped path cause) job = Some (record job { work = skipped_work path job.work; course = GoesOn })
after_step (Cleaned part) job = Some (record job { work = cleaned_work job.course job.work })
after_step Barrier job = Some (record job { work = synced_work job.work })
after_step (Asked question) job = Some (record job { course = Asking })
after_step (Merges transfer pair names) job = Some (record job { work = merged_work job.work })
after_step (Moved pair) job = Some (record job { work = moved_work job.work })
after_step (Troubled trouble) job = Some (record job { course = course_told job.work trouble })
after_step (Ended ending part) job = None

-- a job just begun
abbrev pub running : ℕ → Work → Running
running id work = record { id = id; work = work; course = GoesOn; replies = no_replies }

-- The job as it takes up this work, its next source's: what was to be skipped of all that meets the same
-- goes on to be, and what was answered for all items goes on to hold.
abbrev pub with_next : Running → Work → Running
with_next job work =
    record { id = job.id; work = work; course = GoesOn; replies = record job.replies { item = None } }

-- the job goes on with its next source, of which this is the plan
abbrev pub turned_job : Job → Running → Option Running
turned_job plan job = option_map (λ work. with_next job work) (first_work job.id plan)

abbrev pub if_closed : Bool → Option Running → Option Running
if_closed true job = option_map closed_job job
if_closed false job = job

-- some job of which the history tells this much may report it
abbrev pub Reports : Running → Did → Type 0
Reports job did = (old : Running) × (new : Running) × (told_job old ≡ job) × JobTells old did new

-- a job goes on with a next source where some job of which the history tells this much may
-- report that it is finished
abbrev pub MayTurn : Running → Job → Type 0
MayTurn job plan = (job.course ≡ GoesOn) × Reports job (Ended Finished None) × (is_workable plan ≡ true)

-- any job that waits for nothing may end out of memory, and names the part that stands then
abbrev pub EndsWithoutMemory : Running → Did → Type 0
EndsWithoutMemory job did = (waits_on job.course ≡ false) × (did ≡ Ended NoMemory (part_of job.work))

-- a job that has changed nothing yet may report the sync of what an ended job left dirty, or
-- its trouble at a barrier
abbrev pub ReportsSync : Running → Did → Type 0
ReportsSync job did =
    (job.course ≡ GoesOn) × (is_fresh job.work ≡ true)
    × ((did ≡ Barrier) ⊎ ((trouble : Trouble) × (did ≡ Troubled trouble) × (trouble.barrier ≡ true)))

-- a step that a job may report, as far as its history tells
abbrev pub IsAllowedStep : Running → Did → Type 0
IsAllowedStep job did = Reports job did ⊎ (EndsWithoutMemory job did ⊎ ReportsSync job did)

-- a live job that waits for nothing
abbrev pub IsReady : Option Running → Type 0
IsReady None = ⊥
IsReady (Some job) = waits_on job.course ≡ false
