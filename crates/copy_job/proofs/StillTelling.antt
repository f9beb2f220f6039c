-- A tree that tells what it holds goes on telling after each call.
use Rattle.std.proofs.Common.{◌≡◌, ℕ, Bool, false, List, [], ◌∷◌, take, refl, inl, inr, Option, Some, Result, Ok, Err}
use Rattle.mc_text.specs.Routes.{Route}
use Rattle.tree_trait.specs.declared.calls.TreeError.{TreeError}
use Rattle.tree_trait.specs.declared.calls.TreeError.TheVariants as refused
use Rattle.tree_trait.specs.Calls.{Call, RemoveFile, SyncFolder}
use Rattle.tree_trait.specs.Change.{CallLog, current}
use Rattle.tree_trait.specs.Answers.{Performs}
use Rattle.job_answers.specs.declared.replies.Replies.{Replies}
use Rattle.job_reports.specs.declared.report.Cause.{Cause}
use Rattle.job_reports.specs.declared.report.Cause.TheVariants.{Tree, TargetKind, SpecialSource, TooDeep, PartTaken, TooLong, Unnamed, Changed, Memory}
use Rattle.job_reports.specs.declared.report.Did.{Did}
use Rattle.job_reports.specs.declared.report.Did.TheVariants.{Began, Chunk, Placed, Removed, Made, Set, Kept, Skipped, Cleaned, Barrier, Asked, Merges, Moved, Troubled, Ended}
use Rattle.job_reports.specs.CallRuns.{RunStops, StopsAt}
use Rattle.job_reports.specs.Paths.{folder_of}
use Rattle.job_reports.proofs.Runs.{all_some}
use Rattle.copy_file.specs.declared.stage.SourceFacts.{SourceFacts}
use Rattle.copy_file.specs.declared.stage.Stage.{Stage}
use Rattle.copy_file.specs.declared.stage.Stage.TheVariants.{Begin, Fill, Clean, Left, Decided}
use Rattle.copy_file.specs.Copying as file
use Rattle.copy_file.specs.Copying.{Copying, Places, places_of}
use Rattle.copy_file.specs.CopyCalls.{CopyCalls, CopyStops, PartStops, making, making_with, placing, writing}
use Rattle.copy_file.specs.PartSteps.{MadeCalls}
use Rattle.copy_folders.specs.FolderCopying.{FolderCopying, copying}
use Rattle.copy_folders.specs.FolderSteps as folder
use Rattle.copy_folders.specs.FolderSteps.{FolderCalls}
use Rattle.copy_folders.specs.declared.stage.FolderDid.{FolderDid}
use Rattle.copy_folders.specs.declared.stage.NamesState.TheVariants.{Synced}
use Rattle.copy_folders.specs.declared.stage.Stage.TheVariants.{Make}
use Rattle.copy_folders.specs.declared.stage.FolderDid.TheVariants as folder_did
use Rattle.copy_link.specs.LinkCopying.{LinkCopying}
use Rattle.copy_link.specs.LinkSteps as link
use Rattle.copy_link.specs.LinkSteps.{LinkCalls, LinkStops}
use Rattle.copy_link.specs.declared.stage.Stage.{Stage as LinkStage}
use Rattle.copy_link.specs.declared.stage.Stage.TheVariants as link_stage
use Rattle.copy_tree.specs.declared.item.ItemAtWork.{ItemAtWork}
use Rattle.copy_tree.specs.declared.item.ItemAtWork.TheVariants.{Next, File, Link, Stays}
use Rattle.copy_tree.specs.Parts.{IsPartPlace}
use Rattle.copy_tree.specs.Standing.{Seen}
use Rattle.copy_tree.specs.TreeCopySteps.{FileWorks, LinkWorks, TakesNext, WorksOn, at_end}
use Rattle.job_reports.specs.declared.report.StepResult.{StepResult}
use Rattle.copy_job.specs.Known.{KnownLaw, StillTells}
use Rattle.copy_job.specs.Leaving.{may_leave}
use Rattle.copy_job.specs.SubtreeSteps.{ListSteps}
use Rattle.copy_job.proofs.Targets.{works_at_once}

pub performs_tells : (log : CallLog) (call : Call) (answer : Result (Unit {0}) TreeError) (after : Option CallLog) → Performs {A = Unit {0}} log call answer after → StillTells after
performs_tells log call (Ok done) after h = (_, h.1.1)
performs_tells log call (Err refused.Fault) after h = (_, h.1.1)
performs_tells log call (Err refused.Memory) after h = (log, h)
performs_tells log call (Err e) after h = (_, h.1)

-- calls in a row that stop
stops_tell : (log : CallLog) (calls : List Call) (call : Call) (e : TreeError) (after : Option CallLog) → StopsAt log calls call e after → StillTells after
stops_tell log [] call e after h = absurd h
stops_tell log (first ∷ more) call e after (inl last) = performs_tells log first (Err e) after last.1
stops_tell log (first ∷ more) call e after (inr later) = stops_tell later.0 more call e after later.2

pub run_tells : (calls : List Call) (cause : Cause) (path : Option Route) (log : CallLog) (after : Option CallLog) → RunStops calls cause path log after → StillTells after
run_tells calls (Tree e) path log after h = stops_tell log calls h.0 e after h.2
run_tells calls Memory path log after h = all_some (take h.1.0 calls) log after h.1.2
run_tells calls (TargetKind kind) path log after h = absurd h
run_tells calls SpecialSource path log after h = absurd h
run_tells calls TooDeep path log after h = absurd h
run_tells calls (Unnamed count) path log after h = absurd h
run_tells calls PartTaken path log after h = absurd h
run_tells calls TooLong path log after h = absurd h
run_tells calls (Changed said got) path log after h = absurd h

-- a file
trouble_tells : (unclaimed : Route → Type 0) (p : Places) (stage : Stage) (cause : Cause) (path : Option Route) (log : CallLog) (after : Option CallLog) → CopyStops unclaimed p stage cause path log after
    → StillTells after
trouble_tells unclaimed p Begin cause path log after (inl looks) = (log, looks.1)
trouble_tells unclaimed p Begin cause path log after (inr (inl names)) = (log, names.2)
trouble_tells unclaimed p Begin cause path log after (inr (inr made)) = run_tells (making (current log) p made.0 ∷ []) cause path log after made.3
trouble_tells unclaimed p (Fill part facts done) cause path log after (inl (fewer, inl read)) = (log, read.1)
trouble_tells unclaimed p (Fill part facts done) cause path log after (inl (fewer, inr write)) = run_tells (writing (current log) p part facts done ∷ []) cause path log after write
trouble_tells unclaimed p (Fill part facts done) cause path log after (inr full) = run_tells (placing facts.mode part p.target) cause path log after full.1
trouble_tells unclaimed p (Clean part follows) cause path log after h = run_tells (RemoveFile part ∷ []) cause path log after h
trouble_tells unclaimed p (Left part) cause path log after h = absurd h
trouble_tells unclaimed p Decided cause path log after h = run_tells (SyncFolder (folder_of p.target) ∷ []) cause path log after h

pub copy_tells : (unclaimed : Route → Type 0) (c : Copying) (did : Did) (new : Copying) (log : CallLog) (after : Option CallLog) → CopyCalls unclaimed c did new log after → StillTells after
copy_tells unclaimed c (Began part) new log after h = all_some (making (current log) (places_of c) h.2.0 ∷ []) log after h.2.3
copy_tells unclaimed c (Chunk count) new log after h = all_some (writing (current log) (places_of c) h.0 h.1 h.2 ∷ []) log after h.5
copy_tells unclaimed c (Set path) new log after h = absurd h
copy_tells unclaimed c (Placed path) new log after h = all_some (placing h.1.mode h.0 c.target) log after h.3
copy_tells unclaimed c (Cleaned part) new log after h = all_some (RemoveFile part ∷ []) log after h
copy_tells unclaimed c Barrier new log after h = all_some (SyncFolder (folder_of c.target) ∷ []) log after h
copy_tells unclaimed c (Troubled trouble) new log after h = trouble_tells unclaimed (places_of c) c.stage trouble.cause trouble.path log after h
copy_tells unclaimed c (Removed path) new log after h = absurd h
copy_tells unclaimed c (Made made) new log after h = absurd h
copy_tells unclaimed c (Kept path) new log after h = absurd h
copy_tells unclaimed c (Asked question) new log after h = absurd h
copy_tells unclaimed c (Merges transfer pair names) new log after h = absurd h
copy_tells unclaimed c (Moved pair) new log after h = absurd h
copy_tells unclaimed c (Skipped path cause) new log after h = (log, h)
copy_tells unclaimed c (Ended ending part) new log after h = (log, h)

-- the part of a file, of which the looks have said what it is
part_trouble_tells : (unclaimed : Route → Type 0) (p : Places) (mode : ℕ) (cause : Cause) (path : Option Route) (log : CallLog) (after : Option CallLog) → PartStops unclaimed p mode cause path log after → StillTells after
part_trouble_tells unclaimed p mode cause path log after (inl names) = (log, names.1)
part_trouble_tells unclaimed p mode cause path log after (inr made) = run_tells (making_with mode p made.0 ∷ []) cause path log after made.2

part_tells : (unclaimed : Route → Type 0) (facts : SourceFacts) (c : Copying) (did : Did) (log : CallLog) (after : Option CallLog) → MadeCalls unclaimed facts c did log after → StillTells after
part_tells unclaimed facts c (Began part) log after h = all_some (making_with facts.mode (places_of c) h.0 ∷ []) log after h.3
part_tells unclaimed facts c (Troubled trouble) log after h = part_trouble_tells unclaimed (places_of c) facts.mode trouble.cause trouble.path log after h
part_tells unclaimed facts c (Chunk count) log after h = absurd h
part_tells unclaimed facts c (Placed path) log after h = absurd h
part_tells unclaimed facts c (Removed path) log after h = absurd h
part_tells unclaimed facts c (Made path) log after h = absurd h
part_tells unclaimed facts c (Set path) log after h = absurd h
part_tells unclaimed facts c (Kept path) log after h = absurd h
part_tells unclaimed facts c (Skipped path cause) log after h = absurd h
part_tells unclaimed facts c (Cleaned part) log after h = absurd h
part_tells unclaimed facts c Barrier log after h = absurd h
part_tells unclaimed facts c (Asked question) log after h = absurd h
part_tells unclaimed facts c (Merges transfer pair names) log after h = absurd h
part_tells unclaimed facts c (Moved pair) log after h = absurd h
part_tells unclaimed facts c (Ended ending part) log after h = absurd h

-- a link
link_trouble_tells : (l : LinkCopying) (stage : LinkStage) (cause : Cause) (path : Option Route) (log : CallLog) (after : Option CallLog) → LinkStops l stage cause path log after → StillTells after
link_trouble_tells l link_stage.Make cause path log after (inl read) = (log, read.1)
link_trouble_tells l link_stage.Make cause path log after (inr run) = run_tells (link.next_call (current log) l link_stage.Make) cause path log after run.1
link_trouble_tells l link_stage.Place cause path log after run = run_tells (link.next_call (current log) l link_stage.Place) cause path log after run
link_trouble_tells l (link_stage.Clean follows) cause path log after run = run_tells (link.next_call (current log) l (link_stage.Clean follows)) cause path log after run
link_trouble_tells l link_stage.Left cause path log after run = run_tells (link.next_call (current log) l link_stage.Left) cause path log after run
link_trouble_tells l link_stage.Again cause path log after run = run_tells (link.next_call (current log) l link_stage.Again) cause path log after run
link_trouble_tells l link_stage.Decided cause path log after run = run_tells (link.next_call (current log) l link_stage.Decided) cause path log after run

link_tells : (l : LinkCopying) (did : Did) (log : CallLog) (after : Option CallLog) → LinkCalls l did log after → StillTells after
link_tells l (Troubled trouble) log after h = link_trouble_tells l l.stage trouble.cause trouble.path log after h
link_tells l (Began part) log after h = all_some (link.next_call (current log) l l.stage) log after h.1
link_tells l (Placed path) log after h = all_some (link.next_call (current log) l l.stage) log after h.1
link_tells l (Cleaned part) log after h = all_some (link.next_call (current log) l l.stage) log after h.1
link_tells l Barrier log after h = all_some (link.next_call (current log) l l.stage) log after h.1
link_tells l (Chunk count) log after h = absurd h
link_tells l (Set path) log after h = absurd h
link_tells l (Removed path) log after h = absurd h
link_tells l (Made made) log after h = absurd h
link_tells l (Kept path) log after h = absurd h
link_tells l (Asked question) log after h = absurd h
link_tells l (Merges transfer pair names) log after h = absurd h
link_tells l (Moved pair) log after h = absurd h
link_tells l (Skipped path cause) log after h = absurd h
link_tells l (Ended ending part) log after h = absurd h

-- a folder itself
folder_tells : (c : FolderCopying) (report : FolderDid) (log : CallLog) (after : Option CallLog) → FolderCalls c report log after → StillTells after
folder_tells c (folder_did.Troubled trouble) log after h = run_tells (folder.next_call c.target c.stage c.names) trouble.cause trouble.path log after h
folder_tells c (folder_did.Made path) log after h = all_some (folder.next_call c.target c.stage c.names) log after h
folder_tells c (folder_did.Set path) log after h = all_some (folder.next_call c.target c.stage c.names) log after h
folder_tells c folder_did.Barrier log after h = all_some (folder.next_call c.target c.stage c.names) log after h
folder_tells c folder_did.Closed log after h = (log, h)

-- a step
module _ (unclaimed : Route → Type 0) (replies : Replies) (old new : Seen) (did : Did) (log : CallLog) (after : Option CallLog) where
  file_works : (f : Copying) → FileWorks unclaimed f old new did (Some log) after → StillTells after
  file_works f w = copy_tells unclaimed f did w.moved log after (w.called log refl)

  link_works : (l : LinkCopying) → LinkWorks l old new did (Some log) after → StillTells after
  link_works l w = link_tells l did log after (w.called log refl)

  takes_tells : TakesNext unclaimed replies old new did (Some log) after → StillTells after
  takes_tells (inl s) = (log, s.same)
  takes_tells (inr (inl t)) = (let w = t.works in part_tells unclaimed t.facts (file.begun_copy old.job t.pair.source t.pair.target) did log after (w.called log refl))
  takes_tells (inr (inr (inl t))) = link_works _ t.works
  takes_tells (inr (inr (inr (inl t)))) = (let w = t.works in folder_tells (copying t.pair.source t.pair.target (Make t.mode) Synced) w.report log after (w.called log refl))
  takes_tells (inr (inr (inr (inr (inl t))))) = (log, t.same)
  takes_tells (inr (inr (inr (inr (inr (inl t)))))) = (log, t.same)
  takes_tells (inr (inr (inr (inr (inr (inr (inl t))))))) = (log, t.same)
  takes_tells (inr (inr (inr (inr (inr (inr (inr (next, inl (debt, e))))))))) = folder_tells (let c : Seen = at_end old in c.levels.inner.copy) e.report log after (e.called log refl)
  takes_tells (inr (inr (inr (inr (inr (inr (inr (next, inr (debt, f, same))))))))) = (log, same)

  works_tells : (item : ItemAtWork) → WorksOn item unclaimed replies old new did (Some log) after → StillTells after
  works_tells Next (inl s) = folder_tells (folder.at_sync s.outer.copy) s.report log after (s.called log refl)
  works_tells Next (inr t) = takes_tells t.1
  works_tells (File f) w = file_works f w
  works_tells (Link l) w = link_works l w
  works_tells (Stays part) w = absurd w

list_tells : (free : Route → Bool) (replies : Replies) (old new : Seen) (worked : StepResult) (dirty dirty_after : List Route) (log : CallLog) (after : Option CallLog) (f0 f1 : ℕ) → ListSteps free replies old new worked dirty dirty_after (Some log) after f0 f1
    → may_leave old ≡ false → StillTells after
list_tells free replies old new worked dirty dirty_after log after f0 f1 (inl s) settled = (log, s.same)
list_tells free replies old new worked dirty dirty_after log after f0 f1 (inr s) settled =
    works_tells (IsPartPlace free old) replies old new worked.did log after old.item (works_at_once free replies old new worked.did worked.calls (Some log) after f0 f1 s.steps settled)

pub known_law : KnownLaw
known_law free replies old new did calls dirty dirty_after log after f0 f1 s = list_tells free replies s.mid s.moved s.worked dirty dirty_after log after f0 f1 s.works s.settled
