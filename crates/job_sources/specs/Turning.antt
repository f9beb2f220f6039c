-- How a job goes on with its sources: which is taken up next, what is written down of a step, and
-- where the job stands then.
use Rattle.std.specs.Prelude.{◌≡◌, ◌⊎◌, ℕ, zero, suc, ◌+◌, ◌-◌, ◌*◌, ◌^◌, ⊤, Bool, true, false, ◌&&◌}
use Rattle.std.specs.Prelude.{not, is_some, if◌then◌else◌, List, [], ◌∷◌, length, Option, Some, None}
use Rattle.std.specs.Option.{option_map_or}
use Rattle.mc_text.specs.Routes.{Route, parent_of, same_path}
use Rattle.job_reports.specs.declared.job.Job.{Job}
use Rattle.job_reports.specs.declared.job.Job.TheVariants as plan
use Rattle.job_reports.specs.declared.job.Pair.{Pair}
use Rattle.job_reports.specs.declared.report.Did.{Did}
use Rattle.job_reports.specs.declared.report.Did.TheVariants.{Ended, Merges}
use Rattle.job_reports.specs.declared.report.Ending.TheVariants.{Finished, NoMemory}
use Rattle.job_reports.specs.declared.report.Transfer.{Transfer}
use Rattle.job_reports.specs.declared.report.Transfer.TheVariants.{ByCopy, ByMove}
use Rattle.job_reports.specs.Jobs.{is_workable}
use Rattle.job_reports.specs.Reports.{ends}
use Rattle.copy_folders.specs.FolderCopying.{is_dirty}
use Rattle.session_entries.specs.declared.history.Event.TheVariants.{Step, Next}
use Rattle.session_entries.specs.SourcesLeft.{left_by}
use Rattle.copy_job.specs.Leaving.{owes_at_end}
use Rattle.tree_walk.specs.Places.{is_empty}
use Rattle.copy_tree.specs.declared.item.ItemAtWork.{ItemAtWork}
use Rattle.copy_tree.specs.declared.item.ItemAtWork.TheVariants as item
use Rattle.copy_tree.specs.Standing.{Seen}
use Rattle.move_job.specs.Movings as movings
use Rattle.copy_move.specs.declared.run.Course.{Course}
use Rattle.copy_move.specs.declared.run.Course.TheVariants.{GoesOn as OnWay, Asking, InTrouble}
use Rattle.copy_move.specs.declared.run.Course.TheVariants.{OwedSyncFailed, Skips, Ends}
use Rattle.copy_move.specs.declared.work.Work.{Work}
use Rattle.copy_move.specs.declared.work.Work.TheVariants as work
use Rattle.copy_move.specs.Jobs.{Running, copies, first_work, moves, part_of, removes_emptied}
use Rattle.copy_move.specs.Ranks.{rank_with, work_rank}
use Rattle.copy_move.specs.Told.{turned_job}
use Rattle.job_sources.specs.declared.turning.Stepped.{Stepped}

-- the plan of one source: of a path that is deleted, or given this mode; of a pair that is
-- copied; of one that is moved
abbrev pub path_source : Option ℕ → Route → Job
path_source None path = plan.Delete (path ∷ [])
path_source (Some mode) path = plan.SetMode (path ∷ []) mode

abbrev pub pair_source : Pair → Job
pair_source pair = plan.Copy (pair ∷ [])

abbrev pub move_source : Pair → Job
move_source pair = plan.Move (pair ∷ [])

-- the first of these sources is taken, if there is one
abbrev pub Takes : List Job → Option Job → List Job → Type 0
Takes left None after = (left ≡ []) × (after ≡ [])
Takes left (Some source) after = (left ≡ source ∷ after) × (is_workable source ≡ true)

-- the report that a source is finished
abbrev pub finishes : Did → Bool
finishes (Ended Finished part) = true
finishes did = false

-- the report that a folder is merged, whose children are sources then
abbrev pub merges : Did → Bool
merges (Merges transfer pair names) = true
merges did = false

-- What lies in this folder may come to the one at its target so. Things are moved out of a folder only into
-- another one, and only out of one that can be removed.
abbrev pub MayLeave : Transfer → Pair → Type 0
MayLeave ByCopy pair = ⊤
MayLeave ByMove pair = (is_some (parent_of pair.source) ≡ true) × (same_path pair.source pair.target ≡ false)

-- a report of which each source that it leaves can be worked
abbrev pub MayFollow : Did → Type 0
MayFollow (Merges transfer pair names) = MayLeave transfer pair
MayFollow did = ⊤

-- The step is written down as its report; an end leaves no job, and no source to come, and a folder that is
-- merged leaves its children before all others.
pub record Reports (job : Running) (did : Did) (calls : ℕ) (left : List Job) (stepped : Stepped)
    (after : List Job) : Type 0 where
  pub told : stepped.what ≡ Step job.id did
  pub counted : stepped.calls ≡ calls
  pub stands : stepped.job ≡ (if ends did then None else Some job)
  pub rest : after ≡ left_by did left

-- The job goes on with its next source by its own plan, which is written down in place of the end.
pub record Turns (job : Running) (source : Job) (stepped : Stepped) : Type 0 where
  pub workable : is_workable source ≡ true
  pub told : stepped.what ≡ Next job.id source
  pub uncounted : stepped.calls ≡ 0
  pub run : Running
  pub run_is : turned_job source job ≡ Some run
  pub stands : stepped.job ≡ Some run

-- There is no memory to go on with the next source, or to keep those of a folder that is
-- merged, and the job ends so.
pub record RunsShort (job : Running) (stepped : Stepped) : Type 0 where
  pub told : stepped.what ≡ Step job.id (Ended NoMemory (part_of job.work))
  pub uncounted : stepped.calls ≡ 0
  pub stands : stepped.job ≡ None

-- How a job goes on after a step that reports this and made so many calls, and which sources are left then.
-- It is told to be finished only where none is.
abbrev pub GoesOn : Running → Did → ℕ → List Job → Stepped → List Job → Type 0
GoesOn job did calls left stepped after =
    (Reports job did calls left stepped after × (finishes did ≡ true → left ≡ []))
    ⊎ ((finishes did ≡ true) × (source : Job) × (left ≡ source ∷ after) × Turns job source stepped)
    ⊎ (((finishes did ≡ true) ⊎ (merges did ≡ true)) × (after ≡ []) × RunsShort job stepped)

-- how many steps work takes that is just begun, and one more
abbrev pub steps_of : Work → ℕ
steps_of work = 3 * work_rank work + 1

abbrev pub tree_steps : ℕ
tree_steps = steps_of (copies 0 (record { source = []; target = [] }))

abbrev pub removal_steps : ℕ
removal_steps = steps_of (removes_emptied [])

-- of a move those of the removal of its folder, too, once that is emptied
abbrev pub moving_steps : ℕ
moving_steps = steps_of (moves (record { source = []; target = [] })) + removal_steps

-- A path has at most 4,096 names, each with its slash in a text of as many bytes: so many more
-- may come below it, and one.
abbrev pub room_below : Route → ℕ
room_below path = 4097 - length path

-- How many steps a source takes at most that takes so many itself, with all that is copied or moved in its
-- place once it is merged: a folder has at most as many names as a number of 64 bits counts, and each thing
-- in it has one name less below it.
abbrev pub merged_steps : ℕ → ℕ → ℕ
merged_steps own zero = own
merged_steps own (suc room) = own + 2 ^ 64 * merged_steps own room

-- of what lies in it alone
abbrev pub below_steps : ℕ → ℕ → ℕ
below_steps own zero = 0
below_steps own (suc room) = 2 ^ 64 * merged_steps own room

-- how many steps the sources take that are left: each those of its work, just begun, and one more; a copy
-- or a move also those of all that is copied or moved in its place
abbrev pub work_steps : ℕ → Job → ℕ
work_steps id source = option_map_or steps_of (first_work id source) 1

abbrev pub pair_steps : ℕ → List Pair → ℕ
pair_steps own [] = 1
pair_steps own (pair ∷ more) = merged_steps own (room_below pair.source)

abbrev pub source_rank : ℕ → Job → ℕ
source_rank id (plan.Copy pairs) = pair_steps tree_steps pairs
source_rank id (plan.Move pairs) = pair_steps moving_steps pairs
source_rank id (plan.Delete paths) = work_steps id (plan.Delete paths)
source_rank id (plan.MakeFolder path) = work_steps id (plan.MakeFolder path)
source_rank id (plan.MakeLink path text) = work_steps id (plan.MakeLink path text)
source_rank id (plan.SetMode paths mode) = work_steps id (plan.SetMode paths mode)
source_rank id (plan.RemoveEmptied path) = work_steps id (plan.RemoveEmptied path)

abbrev pub sources_rank : ℕ → List Job → ℕ
sources_rank id [] = 0
sources_rank id (source ∷ more) = source_rank id source + sources_rank id more

-- nothing is left to be copied, and nothing is owed, as after a merge
abbrev pub is_next : ItemAtWork → Bool
is_next item.Next = true
is_next (item.File copy) = false
is_next (item.Link copy) = false
is_next (item.Stays part) = false

abbrev pub is_over : Seen → Bool
is_over c = is_next c.item && (is_empty c.levels.around && (is_empty c.levels.inner.names.names
    && (not (owes_at_end c.levels.inner.copy.stage false) && not (is_dirty c.levels.inner.copy.names))))

-- how many steps those sources take at most that a merge of this folder leaves
abbrev pub within_steps : Transfer → Pair → ℕ
within_steps ByCopy pair = below_steps tree_steps (room_below pair.source)
within_steps ByMove pair = below_steps moving_steps (room_below pair.source) + removal_steps

-- how many steps those take that the live job may leave as sources yet, since it merges its folder
abbrev pub children_left : Work → ℕ
children_left (work.Copy c) = if is_over c.at then 0 else within_steps ByCopy c.top
children_left (work.Delete d) = 0
children_left (work.Make m) = 0
children_left (work.Move m) = if movings.is_fresh m.stage then within_steps ByMove m.pair else 0
children_left (work.SetMode s) = 0
children_left (work.RemoveEmptied r) = 0

abbrev pub children_on : Course → Work → ℕ
children_on OnWay work = children_left work
children_on (Skips cause) work = children_left work
children_on (InTrouble halt) work = 0
children_on (OwedSyncFailed cause) work = 0
children_on Asking work = 0
children_on (Ends ending) work = 0

-- how many steps are left to a job with these sources to come
abbrev pub rank_left : List Route → Option Running → List Job → ℕ
rank_left dirty None left = length dirty
rank_left dirty (Some job) left =
    rank_with dirty (Some job) + (children_on job.course job.work + sources_rank job.id left)
