-- A live job: what it does, how far it is, and whether it goes on; what a step of it may report, and what
-- that says of the tree's calls.
use Rattle.std.specs.Prelude.{◌≡◌, ◌⊎◌, ℕ, ⊤, Bool, true, false, not, ◌&&◌, nat_le, is_some}
use Rattle.std.specs.Prelude.{List, [], ◌∷◌, Option, Some, None, if◌then◌else◌, IsOk}
use Rattle.mc_text.specs.Routes.{Route, parent_of, same_path}
use Rattle.tree_trait.specs.Change.{CallLog}
use Rattle.job_reports.specs.declared.report.Cause.{Cause}
use Rattle.job_answers.specs.declared.answer.Waiting.{Waiting}
use Rattle.job_answers.specs.declared.answer.Waiting.TheVariants as waits
use Rattle.job_answers.specs.declared.replies.Replies.{Replies}
use Rattle.job_answers.specs.Answers as answers
use Rattle.job_answers.specs.Decisions.{with_reply, with_skips}
use Rattle.job_reports.specs.declared.report.Trouble.{Trouble}
use Rattle.job_reports.specs.declared.report.Ending.{Ending}
use Rattle.job_reports.specs.declared.report.Ending.TheVariants.{Aborted}
use Rattle.job_reports.specs.declared.report.Did.{Did}
use Rattle.job_reports.specs.declared.report.Did.TheVariants.{Began, Chunk, Placed, Removed, Made}
use Rattle.job_reports.specs.declared.report.Did.TheVariants.{Set, Kept, Skipped, Cleaned, Barrier}
use Rattle.job_reports.specs.declared.report.Did.TheVariants.{Asked, Merges, Moved, Troubled, Ended}
use Rattle.job_reports.specs.Jobs.{is_link_text}
use Rattle.job_reports.specs.Stops.{out_of_memory_at}
use Rattle.job_reports.specs.declared.job.Job.{Job}
use Rattle.job_reports.specs.declared.job.Job.TheVariants as plan
use Rattle.job_reports.specs.declared.row.JobKind.{JobKind}
use Rattle.job_reports.specs.declared.row.JobKind.TheVariants as kind
use Rattle.job_reports.specs.declared.answer.Answer.{Answer}
use Rattle.job_reports.specs.declared.answer.Answer.TheVariants.{Yes, No, All, Update, Nothing}
use Rattle.job_reports.specs.declared.answer.Answer.TheVariants.{SizeDiffers, Retry, Skip, SkipAll, Abort}
use Rattle.make_job.specs.declared.making.MakingStage.TheVariants as making
use Rattle.make_job.specs.declared.new_thing.NewThing.{NewThing}
use Rattle.make_job.specs.declared.new_thing.NewThing.TheVariants as thing
use Rattle.copy_move.specs.declared.work.Work.{Work}
use Rattle.copy_move.specs.declared.work.Work.TheVariants.{Copy, Delete, Make, Move, SetMode, RemoveEmptied}
use Rattle.copy_move.specs.declared.run.Halt.{Halt}
use Rattle.copy_move.specs.declared.run.Course.{Course}
use Rattle.copy_move.specs.declared.run.Course.TheVariants.{GoesOn, Asking, InTrouble}
use Rattle.copy_move.specs.declared.run.Course.TheVariants.{OwedSyncFailed, Skips, Ends}
use Rattle.delete_job.specs.Standing.{after_item}
use Rattle.delete_job.specs.Standing as standing
use Rattle.delete_job.specs.Deletions.{DeletionCalls, IsAtStage, LastCalls, begun_deletion}
use Rattle.delete_job.specs.Deletions as deletions
use Rattle.make_job.specs.Makings.{LastMakingCalls, MakingCalls}
use Rattle.make_job.specs.Makings as makings
use Rattle.move_job.specs.Movings.{LastMovingCalls, MovingCalls}
use Rattle.move_job.specs.Movings as movings
use Rattle.make_job.specs.NewThings.{making_kind}
use Rattle.emptied_job.specs.Removals.{LastRemovalCalls, RemovalCalls}
use Rattle.emptied_job.specs.Removals as removals
use Rattle.mode_job.specs.ModeSettings.{LastSettingCalls}
use Rattle.mode_job.specs.ModeSettings as modes
use Rattle.copy_move.specs.TreeCopies as trees
use Rattle.job_reports.specs.declared.job.Pair.{Pair}
use Rattle.copy_job.specs.LastCalls.{LastCalls as LastTreeCalls}
use Rattle.copy_job.specs.Reporting.{IsAfterLastStep}
use Rattle.copy_job.specs.Standing.{retries, begun_subtree_copy as tree_started}
use Rattle.copy_job.specs.Standing as tree
use Rattle.copy_tree.specs.Standing as copy_tree
use Rattle.mode_job.specs.declared.setting.Stage.TheVariants.{Give}
use Rattle.mode_job.specs.Settings.{setting}
use Rattle.mode_job.specs.Settings as settings
use Rattle.mode_job.specs.SettingSteps.{SettingCalls}

-- a live job: its number, what it does, whether it goes on, and what was answered to its
-- questions and troubles so far
pub record Running : Type 0 where
  pub id : ℕ
  pub work : Work
  pub course : Course
  pub replies : Replies

-- a copy, just begun
abbrev pub copies : ℕ → Pair → Work
copies id pair = Copy (tree_started id pair)

-- the move of a thing, just begun
abbrev pub moves : Pair → Work
moves pair = Move (movings.begun_move pair)

-- the deletion of a thing with all that lies in it, just begun
abbrev pub deletes : Route → Work
deletes path = Delete (begun_deletion path)

-- the making of a thing, just begun
abbrev pub makes : NewThing → Route → Work
makes new path = Make (record { path = path; thing = new; stage = making.Make })

-- the removal of a folder that a merge has emptied, just begun
abbrev pub removes_emptied : Route → Work
removes_emptied path = RemoveEmptied (removals.begun_removal path)

-- the setting of a thing's mode, just begun
abbrev pub sets : Route → ℕ → Work
sets path mode = SetMode (setting path mode Give)

-- The work of the plan of one source. The root, which no folder holds, is neither copied, moved, removed,
-- made nor given a mode. Nothing is moved to where it is. A mode has twelve bits.
abbrev pub first_work : ℕ → Job → Option Work
first_work id (plan.Delete []) = None
first_work id (plan.Delete (path ∷ [])) = if is_some (parent_of path) then Some (deletes path) else None
first_work id (plan.Delete (path ∷ more ∷ paths)) = None
first_work id (plan.Copy []) = None
first_work id (plan.Copy (pair ∷ [])) =
    if is_some (parent_of pair.source) && is_some (parent_of pair.target) then Some (copies id pair) else None
first_work id (plan.Copy (pair ∷ more ∷ pairs)) = None
first_work id (plan.Move []) = None
first_work id (plan.Move (pair ∷ [])) =
    if (is_some (parent_of pair.source) && is_some (parent_of pair.target))
    && not (same_path pair.source pair.target) then Some (moves pair) else None
first_work id (plan.Move (pair ∷ more ∷ pairs)) = None
first_work id (plan.MakeFolder path) =
    if is_some (parent_of path) then Some (makes thing.Folder path) else None
first_work id (plan.MakeLink path text) =
    if is_some (parent_of path) && is_link_text text then Some (makes (thing.Link text) path) else None
first_work id (plan.SetMode [] mode) = None
first_work id (plan.SetMode (path ∷ []) mode) =
    if is_some (parent_of path) && nat_le mode 0o7777 then Some (sets path mode) else None
first_work id (plan.SetMode (path ∷ more ∷ paths) mode) = None
first_work id (plan.RemoveEmptied path) =
    if is_some (parent_of path) then Some (removes_emptied path) else None

-- the work with which a job begins: that of the first of its sources
abbrev pub begun_work : ℕ → List Job → Option Work
begun_work id [] = None
begun_work id (source ∷ more) = first_work id source

-- what the work does, and to what
abbrev pub kind_of : Work → JobKind
kind_of (Copy c) = kind.Copy
kind_of (Delete d) = kind.Delete
kind_of (Make m) = making_kind m.thing
kind_of (Move m) = kind.Move
kind_of (SetMode s) = kind.SetMode
kind_of (RemoveEmptied r) = kind.Move

abbrev pub path_of : Work → Route
path_of (Copy c) = c.top.source
path_of (Delete d) = d.path
path_of (Make m) = m.path
path_of (Move m) = m.pair.source
path_of (SetMode s) = s.path
path_of (RemoveEmptied r) = r.path

-- the next call is at a barrier, where nothing can be skipped
abbrev pub at_barrier : Work → Bool
at_barrier (Copy c) = tree.at_barrier c.at
at_barrier (Delete d) = standing.at_barrier d.stage
at_barrier (Make m) = makings.at_barrier m.stage
at_barrier (Move m) = movings.at_barrier m.stage
at_barrier (SetMode s) = settings.at_barrier s.stage
at_barrier (RemoveEmptied r) = removals.at_barrier r.stage

-- the work of a job that has changed nothing yet
abbrev pub is_fresh : Work → Bool
is_fresh (Copy c) = copy_tree.is_fresh c.at.stage
is_fresh (Delete d) = standing.is_fresh d.stage
is_fresh (Make m) = makings.is_fresh m.stage
is_fresh (Move m) = movings.is_fresh m.stage
is_fresh (SetMode s) = settings.is_fresh s.stage
is_fresh (RemoveEmptied r) = removals.is_fresh r.stage

-- the work once what stands at this path was left as it is: something of what is copied or deleted, the
-- thing that is not moved, or not made, the one that keeps its mode, or the emptied folder that stays
abbrev pub PassesOver : Work → Route → Work → Type 0
PassesOver (Copy c) path (Copy new) = trees.Passes c path new
PassesOver (Delete d) path (Delete new) = IsAtStage d (after_item d.path path d.stage) new
PassesOver (Make m) path (Make new) =
    (path ≡ m.path) × (new ≡ record m { stage = makings.skipped_stage m.stage })
PassesOver (Move m) path (Move new) =
    (path ≡ m.pair.source) × (new ≡ record m { stage = movings.skipped_stage m.stage })
PassesOver (SetMode s) path (SetMode new) =
    (path ≡ s.path) × (new ≡ record s { stage = settings.skipped_stage s.stage })
PassesOver (RemoveEmptied r) path (RemoveEmptied new) =
    (path ≡ r.path) × (new ≡ record r { stage = removals.skipped_stage r.stage })
PassesOver old path new = ⊥

-- the work taken up once more after a trouble; all but a copy try their call again
abbrev pub taken_anew : Work → Work
taken_anew (Copy c) = Copy (retries c)
taken_anew (Delete d) = Delete d
taken_anew (Make m) = Make m
taken_anew (Move m) = Move m
taken_anew (SetMode s) = SetMode s
taken_anew (RemoveEmptied r) = RemoveEmptied r

-- what was answered, after an answer by which what stands next is left as it is
abbrev pub skipping_by : Answer → Cause → Replies → Replies
skipping_by SkipAll cause replies = with_skips cause replies
skipping_by Yes cause replies = replies
skipping_by No cause replies = replies
skipping_by All cause replies = replies
skipping_by Update cause replies = replies
skipping_by Nothing cause replies = replies
skipping_by SizeDiffers cause replies = replies
skipping_by Retry cause replies = replies
skipping_by Skip cause replies = replies
skipping_by Abort cause replies = replies

-- the part that stands
abbrev pub part_of : Work → Option Route
part_of (Copy c) = tree.part_of c.at.item
part_of (Delete d) = None
part_of (Make m) = None
part_of (Move m) = None
part_of (SetMode s) = None
part_of (RemoveEmptied r) = None

-- work that goes on: no part of it was left in last steps
abbrev pub IsGoing : Work → Type 0
IsGoing (Copy c) = trees.IsGoing c
IsGoing (Delete d) = ⊤
IsGoing (Make m) = ⊤
IsGoing (Move m) = ⊤
IsGoing (SetMode s) = ⊤
IsGoing (RemoveEmptied r) = ⊤

-- Only a job that makes its last steps leaves a part, and nothing is skipped at a barrier.
abbrev pub IsSound : Course → Work → Type 0
IsSound GoesOn work = IsGoing work
IsSound (InTrouble halt) work = IsGoing work × (halt.barrier ≡ at_barrier work)
IsSound (OwedSyncFailed cause) work = IsGoing work
IsSound Asking work = IsGoing work
IsSound (Skips cause) work = IsGoing work × (at_barrier work ≡ false)
IsSound (Ends ending) work = ⊤

-- what a step of the work may report that goes on, where this was answered, and where the work stands then
abbrev pub WorkTells : Replies → Work → Did → Work → Type 0
WorkTells replies (Copy c) did (Copy new) = trees.Tells replies c did new
WorkTells replies (Delete d) did (Delete new) = deletions.Tells replies d did new
WorkTells replies (Make m) did (Make new) = makings.Tells m did new
WorkTells replies (Move m) did (Move new) = movings.Tells replies m did new
WorkTells replies (SetMode s) did (SetMode new) = settings.Tells replies s did new
WorkTells replies (RemoveEmptied r) did (RemoveEmptied new) = removals.Tells replies r did new
WorkTells replies old did new = ⊥

-- the same of a last step
abbrev pub WorkWinds : Ending → Work → Did → Work → Type 0
WorkWinds ending (Copy c) did (Copy new) = IsAfterLastStep ending c did new
WorkWinds ending (Delete d) did (Delete new) = deletions.Winds ending d did new
WorkWinds ending (Make m) did (Make new) = makings.Winds ending m did new
WorkWinds ending (Move m) did (Move new) = movings.Winds ending m did new
WorkWinds ending (SetMode s) did (SetMode new) = modes.Winds ending s did new
WorkWinds ending (RemoveEmptied r) did (RemoveEmptied new) = removals.Winds ending r did new
WorkWinds ending old did new = ⊥

-- why a job waits, as its trouble says it
abbrev pub halt_of : Trouble → Halt
halt_of trouble = record { cause = trouble.cause; barrier = trouble.barrier }

-- there was no memory to report a skip
abbrev pub unreported_skip : Halt
unreported_skip = halt_of (out_of_memory_at false)

-- a job that asked, or whose call was refused, waits for an answer, else it goes on
abbrev pub course_after : Did → Course
course_after (Troubled trouble) = InTrouble (halt_of trouble)
course_after (Asked question) = Asking
course_after (Merges transfer pair names) = GoesOn
course_after (Moved pair) = GoesOn
course_after (Began part) = GoesOn
course_after (Chunk count) = GoesOn
course_after (Set path) = GoesOn
course_after (Placed path) = GoesOn
course_after (Removed path) = GoesOn
course_after (Made made) = GoesOn
course_after (Kept kept) = GoesOn
course_after (Skipped path cause) = GoesOn
course_after (Cleaned part) = GoesOn
course_after Barrier = GoesOn
course_after (Ended ending part) = GoesOn

-- What a step may report of a job that goes so, and what the job is then. What is to be skipped is reported
-- with the cause of its trouble, or there is no memory for the report; it doesn't stand at a barrier.
abbrev pub TellsOn : Course → Running → Did → Running → Type 0
TellsOn GoesOn job did new = (work : Work) × WorkTells job.replies job.work did work
    × (new ≡ record job { work = work; course = course_after did })
TellsOn (InTrouble halt) job did new = ⊥
TellsOn (OwedSyncFailed cause) job did new = ⊥
TellsOn Asking job did new = ⊥
TellsOn (Skips cause) job did new =
    ((path : Route) × (work : Work) × (did ≡ Skipped path cause) × PassesOver job.work path work
    × (new ≡ record job { work = work; course = GoesOn }))
    ⊎ ((at_barrier job.work ≡ false) × (did ≡ Troubled (out_of_memory_at false))
    × (new ≡ record job { course = InTrouble unreported_skip }))
TellsOn (Ends ending) job did new =
    (work : Work) × WorkWinds ending job.work did work × (new ≡ record job { work = work })

abbrev pub JobTells : Running → Did → Running → Type 0
JobTells job did new = TellsOn job.course job did new

-- what a step of the work says of the tree's calls, where this was answered; a part may have the paths
-- that no other job claims
abbrev pub WorkCalls : (Route → Type 0) → Replies → Work → Did → Work → CallLog → Option CallLog → Type 0
WorkCalls unclaimed replies (Copy c) did (Copy new) log after =
    trees.Calls unclaimed replies c did new log after
WorkCalls unclaimed replies (Copy c) did (Delete new) log after = ⊥
WorkCalls unclaimed replies (Copy c) did (Make new) log after = ⊥
WorkCalls unclaimed replies (Copy c) did (Move new) log after = ⊥
WorkCalls unclaimed replies (Copy c) did (SetMode new) log after = ⊥
WorkCalls unclaimed replies (Copy c) did (RemoveEmptied new) log after = ⊥
WorkCalls unclaimed replies (Delete d) did new log after = DeletionCalls did log after
WorkCalls unclaimed replies (Make m) did new log after = MakingCalls m did log after
WorkCalls unclaimed replies (Move m) did new log after = MovingCalls replies m did log after
WorkCalls unclaimed replies (SetMode s) did new log after = SettingCalls s did log after
WorkCalls unclaimed replies (RemoveEmptied r) did new log after = RemovalCalls r did log after

-- the same of a last step
abbrev pub WorkLastCalls : Work → Did → CallLog → Option CallLog → Type 0
WorkLastCalls (Copy c) did log after = LastTreeCalls (tree.part_of c.at.item) did log after
WorkLastCalls (Delete d) did log after = LastCalls did log after
WorkLastCalls (Make m) did log after = LastMakingCalls m did log after
WorkLastCalls (Move m) did log after = LastMovingCalls m did log after
WorkLastCalls (SetMode s) did log after = LastSettingCalls s did log after
WorkLastCalls (RemoveEmptied r) did log after = LastRemovalCalls r did log after

-- What a step of a job says of the tree's calls. The report of a skip makes none.
abbrev pub CallsOn : (Route → Type 0) → Course → Running → Did → Running → CallLog → Option CallLog → Type 0
CallsOn unclaimed GoesOn job did new log after =
    WorkCalls unclaimed job.replies job.work did new.work log after
CallsOn unclaimed (InTrouble halt) job did new log after = ⊥
CallsOn unclaimed (OwedSyncFailed cause) job did new log after = ⊥
CallsOn unclaimed Asking job did new log after = ⊥
CallsOn unclaimed (Skips cause) job did new log after = after ≡ Some log
CallsOn unclaimed (Ends ending) job did new log after = WorkLastCalls job.work did log after

abbrev pub JobCalls : (Route → Type 0) → Running → Did → Running → CallLog → Option CallLog → Type 0
JobCalls unclaimed job did new log after = CallsOn unclaimed job.course job did new log after

-- what is answered to a question, as it makes a job go on
abbrev pub replied_job : Answer → Running → Running
replied_job answer job = record job { replies = with_reply answer job.replies; course = GoesOn }

-- an answer to a question or a trouble, as it makes a job go on
abbrev pub answered_on : Course → Answer → Running → Running
answered_on Asking Yes job = replied_job Yes job
answered_on Asking No job = replied_job No job
answered_on Asking All job = replied_job All job
answered_on Asking Update job = replied_job Update job
answered_on Asking Nothing job = replied_job Nothing job
answered_on Asking SizeDiffers job = replied_job SizeDiffers job
answered_on Asking Abort job = record job { course = Ends Aborted }
answered_on Asking Retry job = job
answered_on Asking Skip job = job
answered_on Asking SkipAll job = job
answered_on (InTrouble halt) Retry job = record job { work = taken_anew job.work; course = GoesOn }
answered_on (InTrouble halt) Skip job = record job { course = Skips halt.cause }
answered_on (InTrouble halt) SkipAll job =
    record job { replies = with_skips halt.cause job.replies; course = Skips halt.cause }
answered_on (InTrouble halt) Abort job = record job { course = Ends Aborted }
answered_on (InTrouble halt) Yes job = job
answered_on (InTrouble halt) No job = job
answered_on (InTrouble halt) All job = job
answered_on (InTrouble halt) Update job = job
answered_on (InTrouble halt) Nothing job = job
answered_on (InTrouble halt) SizeDiffers job = job
answered_on (OwedSyncFailed cause) Retry job = record job { work = taken_anew job.work; course = GoesOn }
answered_on (OwedSyncFailed cause) Abort job = record job { course = Ends Aborted }
answered_on (OwedSyncFailed cause) Skip job = job
answered_on (OwedSyncFailed cause) SkipAll job = job
answered_on (OwedSyncFailed cause) Yes job = job
answered_on (OwedSyncFailed cause) No job = job
answered_on (OwedSyncFailed cause) All job = job
answered_on (OwedSyncFailed cause) Update job = job
answered_on (OwedSyncFailed cause) Nothing job = job
answered_on (OwedSyncFailed cause) SizeDiffers job = job
answered_on GoesOn answer job = job
answered_on (Skips cause) answer job = job
answered_on (Ends ending) answer job = job

abbrev pub answered_job : Answer → Running → Running
answered_job answer job = answered_on job.course answer job

-- a job waits for an answer
abbrev pub waits_on : Course → Bool
waits_on (InTrouble halt) = true
waits_on (OwedSyncFailed cause) = true
waits_on Asking = true
waits_on GoesOn = false
waits_on (Skips cause) = false
waits_on (Ends ending) = false

-- a job waits for an answer to a question
abbrev pub asks_on : Course → Bool
asks_on Asking = true
asks_on (InTrouble halt) = false
asks_on (OwedSyncFailed cause) = false
asks_on GoesOn = false
asks_on (Skips cause) = false
asks_on (Ends ending) = false

-- what a job waits with
abbrev pub waiting_on : Course → Option Waiting
waiting_on Asking = Some waits.Question
waiting_on (InTrouble halt) = Some (if halt.barrier then waits.Barrier else waits.Trouble halt.cause)
waiting_on (OwedSyncFailed cause) = Some waits.Barrier
waiting_on GoesOn = None
waiting_on (Skips cause) = None
waiting_on (Ends ending) = None

-- What the job waits with can be answered so: a question by what it offers, a trouble by a retry or a skip,
-- but at a barrier nothing is passed over; each by the end of the job.
pub record MayAnswer (job : Running) (answer : Answer) : Type 0 where
  pub waits : waits_on job.course ≡ true
  pub fits : IsOk (answers.answer_result (waiting_on job.course) answer)

-- a job is ordered to end so; one that makes its last steps already ends as it was ordered first
abbrev pub ended_course : Ending → Course → Course
ended_course ending GoesOn = Ends ending
ended_course ending (InTrouble halt) = Ends ending
ended_course ending (OwedSyncFailed cause) = Ends ending
ended_course ending Asking = Ends ending
ended_course ending (Skips cause) = Ends ending
ended_course ending (Ends first) = Ends first

-- a job that waits for an answer is aborted when the session closes, and one that would wait later too
abbrev pub closed_course : Course → Course
closed_course GoesOn = GoesOn
closed_course (InTrouble halt) = Ends Aborted
closed_course (OwedSyncFailed cause) = Ends Aborted
closed_course Asking = Ends Aborted
closed_course (Skips cause) = Skips cause
closed_course (Ends ending) = Ends ending

abbrev pub closed_job : Running → Running
closed_job job = record job { course = closed_course job.course }
