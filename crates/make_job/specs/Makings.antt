-- The order in which a thing is made, a folder or a link: what a step may report where the making stands,
-- and where it stands then; and what a report says of the tree's calls. It is made, the folder that holds
-- it is synced, and only then is it finished.
use Rattle.std.specs.Prelude.{◌≡◌, ◌≢◌, Bool, true, false, [], ◌∷◌, Option, Some, None, Result, Ok, Err}
use Rattle.mc_text.specs.Routes.{Route}
use Rattle.tree_trait.specs.Calls.{Call, SyncFolder}
use Rattle.tree_trait.specs.Change.{CallLog}
use Rattle.tree_trait.specs.Answers.{Performs}
use Rattle.tree_trait.specs.declared.calls.TreeError.{TreeError}
use Rattle.job_reports.specs.declared.report.Trouble.{Trouble}
use Rattle.job_reports.specs.declared.report.Ending.{Ending}
use Rattle.job_reports.specs.declared.report.Ending.TheVariants.{Finished}
use Rattle.job_reports.specs.declared.report.Did.{Did}
use Rattle.job_reports.specs.declared.report.Did.TheVariants.{Began, Chunk, Placed, Removed, Made}
use Rattle.job_reports.specs.declared.report.Did.TheVariants.{Set, Kept, Skipped, Cleaned, Barrier}
use Rattle.job_reports.specs.declared.report.Did.TheVariants.{Asked, Merges, Moved, Troubled, Ended}
use Rattle.job_reports.specs.Stops.{sync_answer, cause_of, trouble_at}
use Rattle.make_job.specs.declared.making.MakingStage.{MakingStage}
use Rattle.make_job.specs.declared.making.MakingStage.TheVariants.{Make, Sync, Finish, PassedOver}
use Rattle.make_job.specs.declared.new_thing.NewThing.{NewThing}
use Rattle.make_job.specs.NewThings.{making_call}

-- the making of a thing, as it stands: where, what is made, and what is to be done next
pub record Making : Type 0 where
  pub path : Route
  pub thing : NewThing
  pub stage : MakingStage

-- the next call is at a barrier: the sync of the folder
abbrev pub at_barrier : MakingStage → Bool
at_barrier Make = false
at_barrier Sync = true
at_barrier Finish = true
at_barrier PassedOver = true

-- a thing that is skipped is not made
abbrev pub skipped_stage : MakingStage → MakingStage
skipped_stage Make = PassedOver
skipped_stage Sync = Sync
skipped_stage Finish = Finish
skipped_stage PassedOver = PassedOver

-- nothing is left to be done
abbrev pub is_done : MakingStage → Bool
is_done Make = false
is_done Sync = false
is_done Finish = true
is_done PassedOver = true

-- the folder that holds it has a name more, and no sync has brought that onto the disk
abbrev pub is_dirty : MakingStage → Bool
is_dirty Make = false
is_dirty Sync = true
is_dirty Finish = false
is_dirty PassedOver = false

-- a making that has changed nothing yet
abbrev pub is_fresh : MakingStage → Bool
is_fresh Make = true
is_fresh Sync = false
is_fresh Finish = false
is_fresh PassedOver = false

-- where a making stands once the folder that holds it was synced
abbrev pub after_sync : MakingStage → MakingStage
after_sync Make = Make
after_sync Sync = Finish
after_sync Finish = Finish
after_sync PassedOver = PassedOver

-- the sync of the folder that holds a path
abbrev pub sync_of : Route → Option Call
sync_of [] = None
sync_of (name ∷ folder) = Some (SyncFolder folder)

-- the call that a making makes next; one that has all done makes none
abbrev pub call_of : NewThing → MakingStage → Route → Option Call
call_of thing Make path = Some (making_call thing path)
call_of thing Sync path = sync_of path
call_of thing Finish path = None
call_of thing PassedOver path = None

-- Trouble is at the path of the stage's call. That of the sync stands at a barrier.
abbrev pub IsTroubleAt : MakingStage → Route → Trouble → Type 0
IsTroubleAt Make path t = (e : TreeError) × (t ≡ trouble_at e path false)
IsTroubleAt Sync [] t = ⊥
IsTroubleAt Sync (name ∷ folder) t = (e : TreeError) × (t ≡ trouble_at e folder true)
IsTroubleAt Finish path t = ⊥
IsTroubleAt PassedOver path t = ⊥

-- What a step may report that goes on, and where the making stands then.
abbrev pub Tells : Making → Did → Making → Type 0
Tells m (Made path) new = (m.stage ≡ Make) × (path ≡ m.path) × (new ≡ record m { stage = Sync })
Tells m Barrier new = (m.stage ≡ Sync) × (new ≡ record m { stage = Finish })
Tells m (Troubled trouble) new = IsTroubleAt m.stage m.path trouble × (new ≡ m)
Tells m (Ended Finished part) new = (is_done m.stage ≡ true) × (part ≡ None) × (new ≡ m)
Tells m (Ended ending part) new = ⊥
Tells m (Began part) new = ⊥
Tells m (Chunk count) new = ⊥
Tells m (Set path) new = ⊥
Tells m (Placed path) new = ⊥
Tells m (Removed path) new = ⊥
Tells m (Kept kept) new = ⊥
Tells m (Asked question) new = ⊥
Tells m (Merges transfer pair names) new = ⊥
Tells m (Moved pair) new = ⊥
Tells m (Skipped path cause) new = ⊥
Tells m (Cleaned part) new = ⊥

-- What a last step may report: a sync that is owed is tried once, and the job ends as it was ordered.
abbrev pub Winds : Ending → Making → Did → Making → Type 0
Winds ending m Barrier new = (m.stage ≡ Sync) × (new ≡ record m { stage = Finish })
Winds ending m (Ended how part) new = (m.stage ≢ Sync) × (how ≡ ending) × (part ≡ None) × (new ≡ m)
Winds ending m (Began part) new = ⊥
Winds ending m (Chunk count) new = ⊥
Winds ending m (Set path) new = ⊥
Winds ending m (Placed path) new = ⊥
Winds ending m (Removed path) new = ⊥
Winds ending m (Made made) new = ⊥
Winds ending m (Kept kept) new = ⊥
Winds ending m (Asked question) new = ⊥
Winds ending m (Merges transfer pair names) new = ⊥
Winds ending m (Moved pair) new = ⊥
Winds ending m (Skipped path cause) new = ⊥
Winds ending m (Cleaned part) new = ⊥
Winds ending m (Troubled trouble) new = ⊥

-- a call that changes trees, and its answer; where there is none, the tree's log stays
abbrev pub Answers : CallLog → Option Call → Result (Unit {0}) TreeError → Option CallLog → Type 0
Answers log None answer after = after ≡ Some log
Answers log (Some call) answer after = Performs log call answer after

-- What a step says of the tree's calls. A making and a sync were done; a trouble is the refusal of the next
-- call, with the cause that the tree gives; an end makes no call.
abbrev pub MakingCalls : Making → Did → CallLog → Option CallLog → Type 0
MakingCalls m (Made path) log after = Performs {A = Unit {0}} log (making_call m.thing path) (Ok tt) after
MakingCalls m Barrier log after = Answers log (sync_of m.path) (Ok tt) after
MakingCalls m (Troubled trouble) log after = (e : TreeError) × (trouble.cause ≡ cause_of e)
    × Answers log (call_of m.thing m.stage m.path) (Err e) after
MakingCalls m (Ended ending part) log after = after ≡ Some log
MakingCalls m (Began part) log after = ⊥
MakingCalls m (Chunk count) log after = ⊥
MakingCalls m (Set path) log after = ⊥
MakingCalls m (Placed path) log after = ⊥
MakingCalls m (Removed path) log after = ⊥
MakingCalls m (Kept kept) log after = ⊥
MakingCalls m (Asked question) log after = ⊥
MakingCalls m (Merges transfer pair names) log after = ⊥
MakingCalls m (Moved pair) log after = ⊥
MakingCalls m (Skipped path cause) log after = ⊥
MakingCalls m (Cleaned part) log after = ⊥

-- What a last step says of the tree's calls: the sync was tried, whatever it answered.
abbrev pub LastMakingCalls : Making → Did → CallLog → Option CallLog → Type 0
LastMakingCalls m Barrier log after =
    (answer : Result (Unit {0}) TreeError) × Answers log (sync_of m.path) answer after
LastMakingCalls m (Ended ending part) log after = after ≡ Some log
LastMakingCalls m (Began part) log after = ⊥
LastMakingCalls m (Chunk count) log after = ⊥
LastMakingCalls m (Set path) log after = ⊥
LastMakingCalls m (Placed path) log after = ⊥
LastMakingCalls m (Removed path) log after = ⊥
LastMakingCalls m (Made made) log after = ⊥
LastMakingCalls m (Kept kept) log after = ⊥
LastMakingCalls m (Asked question) log after = ⊥
LastMakingCalls m (Merges transfer pair names) log after = ⊥
LastMakingCalls m (Moved pair) log after = ⊥
LastMakingCalls m (Skipped path cause) log after = ⊥
LastMakingCalls m (Cleaned part) log after = ⊥
LastMakingCalls m (Troubled trouble) log after = ⊥

-- what a last step tells of the folder: the refusal of its sync, if that was tried in vain
abbrev pub MakingLeaves : Making → Did → Option TreeError → CallLog → Option CallLog → Type 0
MakingLeaves m Barrier left log after = Answers log (sync_of m.path) (sync_answer left) after
MakingLeaves m did left log after = left ≡ None
