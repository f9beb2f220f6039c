-- What a step of a link's copy does: its report, the copy after it, and its calls of the tree.
use Rattle.std.specs.Prelude.{◌≡◌, ◌⊎◌, ℕ, ◌<◌, ◌≤◌, ⊤, List, [], ◌∷◌, Option}
use Rattle.std.specs.Prelude.{Some, None, Result, Ok, Err, IfErr, false}
use Rattle.mc_text.specs.Routes.{Route}
use Rattle.tree_trait.specs.declared.file_system.FileSystem.{FileSystem}
use Rattle.tree_trait.specs.declared.calls.TreeError.TheVariants as refused
use Rattle.tree_trait.specs.Calls.{Call, ReadLink, MakeLink, Rename, RemoveFile, SyncFolder}
use Rattle.tree_trait.specs.FileSystem.{node}
use Rattle.tree_trait.specs.Change.{CallLog, current, found_node}
use Rattle.tree_trait.specs.Refusals.{refusal_of}
use Rattle.tree_trait.specs.Answers.{IfKnown, HasRisen}
use Rattle.job_reports.specs.declared.report.Cause.{Cause}
use Rattle.job_reports.specs.declared.report.Cause.TheVariants.{Tree, TargetKind, SpecialSource, TooDeep}
use Rattle.job_reports.specs.declared.report.Cause.TheVariants.{PartTaken, TooLong, Unnamed, Changed, Memory}
use Rattle.job_reports.specs.declared.report.Did.{Did}
use Rattle.job_reports.specs.declared.report.Did.TheVariants.{Began, Chunk, Placed, Removed, Made}
use Rattle.job_reports.specs.declared.report.Did.TheVariants.{Set, Kept, Skipped, Cleaned, Barrier}
use Rattle.job_reports.specs.declared.report.Did.TheVariants.{Asked, Merges, Moved, Troubled, Ended}
use Rattle.job_reports.specs.declared.stop.Stop.{Stop}
use Rattle.job_reports.specs.CallRuns.{AllDone, RunStops, HasMore}
use Rattle.job_reports.specs.Paths.{folder_of}
use Rattle.job_reports.specs.Reading.{IsRefusedWith}
use Rattle.job_reports.specs.Reports.{IsFault}
use Rattle.job_reports.specs.Stops.{out_of_memory_at}
use Rattle.copy_file.specs.declared.stage.FolderState.{FolderState}
use Rattle.copy_link.specs.declared.stage.Stage.{Stage}
use Rattle.copy_link.specs.declared.stage.Stage.TheVariants.{Make, Place, Clean, Left, Again, Decided}
use Rattle.copy_link.specs.declared.work.AfterStep.{AfterStep}
use Rattle.copy_link.specs.LinkCopying.{LinkCopying, LinkPlaces, Tells, at_barrier, skipped_stage, steps_left}

-- the text of the link at a path
abbrev pub link_text : FileSystem → Route → List ℕ
link_text s path = (node s (found_node s path)).bytes

-- the changing call that comes next where the copy stands, if there is one
abbrev pub next_call : FileSystem → LinkCopying → Stage → List Call
next_call s c Make = MakeLink c.part (link_text s c.source) ∷ []
next_call s c Place = Rename c.part c.target ∷ []
next_call s c (Clean follows) = RemoveFile c.part ∷ []
next_call s c Decided = SyncFolder (folder_of c.target) ∷ []
next_call s c Left = []
next_call s c Again = []

-- the link can be read, where that comes first
abbrev pub IsRead : FileSystem → Route → Stage → Type 0
IsRead s source Make = refusal_of s (ReadLink source) ≡ None
IsRead s source stage = ⊤

-- the trouble of reading the link: the call is refused
abbrev pub ReadStops : FileSystem → Route → Cause → Option Route → Type 0
ReadStops s source (Tree e) path = (path ≡ Some source) × IsRefusedWith s (ReadLink source) e
ReadStops s source Memory path = path ≡ None
ReadStops s source (TargetKind kind) path = ⊥
ReadStops s source SpecialSource path = ⊥
ReadStops s source TooDeep path = ⊥
ReadStops s source PartTaken path = ⊥
ReadStops s source TooLong path = ⊥
ReadStops s source (Unnamed count) path = ⊥
ReadStops s source (Changed said got) path = ⊥

-- the trouble before the part stands: the link can't be read, or the part can't be made
abbrev pub MakeStops : LinkCopying → Cause → Option Route → CallLog → Option CallLog → Type 0
MakeStops c cause path log after =
    (ReadStops (current log) c.source cause path × (after ≡ Some log))
    ⊎ (IsRead (current log) c.source Make × RunStops (next_call (current log) c Make) cause path log after)

-- the trouble of a step, by where the copy stands
abbrev pub LinkStops : LinkCopying → Stage → Cause → Option Route → CallLog → Option CallLog → Type 0
LinkStops c Make cause path log after = MakeStops c cause path log after
LinkStops c stage cause path log after = RunStops (next_call (current log) c stage) cause path log after

-- all is done that comes next
abbrev pub IsDone : LinkCopying → CallLog → Option CallLog → Type 0
IsDone c log after =
    IsRead (current log) c.source c.stage × AllDone log (next_call (current log) c c.stage) after

-- A report of work has made the call that came next, and no other; a trouble is the
-- refusal of what came next.
abbrev pub LinkCalls : LinkCopying → Did → CallLog → Option CallLog → Type 0
LinkCalls c (Troubled trouble) log after = LinkStops c c.stage trouble.cause trouble.path log after
LinkCalls c (Began part) log after = IsDone c log after
LinkCalls c (Placed path) log after = IsDone c log after
LinkCalls c (Cleaned part) log after = IsDone c log after
LinkCalls c Barrier log after = IsDone c log after
LinkCalls c (Chunk count) log after = ⊥
LinkCalls c (Set path) log after = ⊥
LinkCalls c (Removed path) log after = ⊥
LinkCalls c (Made made) log after = ⊥
LinkCalls c (Kept path) log after = ⊥
LinkCalls c (Asked question) log after = ⊥
LinkCalls c (Merges transfer pair names) log after = ⊥
LinkCalls c (Moved pair) log after = ⊥
LinkCalls c (Skipped path cause) log after = ⊥
LinkCalls c (Ended ending part) log after = ⊥

-- all but a trouble leaves fewer steps to be made
abbrev pub Falls : Did → LinkCopying → LinkCopying → Type 0
Falls (Troubled trouble) old new = ⊤
Falls did old new = steps_left new.stage new.folder < steps_left old.stage old.folder

-- A step of a link's copy: what it reports is allowed, the copy is then as it says, it made the calls
-- of the tree that it says, at most one of which changes the tree, and it reports a fault only where
-- the tree's count has risen.
pub record StepsOn (old new : LinkCopying) (did : Did) (calls : ℕ) (before after : Option CallLog)
    (faults faults_after : ℕ) : Type 0 where
  pub tells : Tells old did new
  pub called : IfKnown before (λ log. LinkCalls old did log after)
  pub counted : IfKnown before (λ log. IfKnown after (HasMore log calls))
  pub few : calls ≤ 1
  pub unknown : before ≡ None → after ≡ None
  pub later : faults ≤ faults_after
  pub fault : IsFault did → HasRisen faults faults_after
  pub falls : Falls did old new

-- the same of a step that says where it left the copy
abbrev pub MovesOn : LinkCopying → AfterStep → Option CallLog → Option CallLog → ℕ → ℕ → Type 0
MovesOn old moved before after faults faults_after =
    StepsOn old (record old { stage = moved.stage; folder = moved.folder }) moved.did moved.calls before after
    faults faults_after

-- a trouble leaves the copy where it stood
abbrev pub moved_by : Stop → Stage → FolderState → AfterStep
moved_by stop stage folder =
    record { did = Troubled stop.trouble; calls = stop.calls; stage = stage; folder = folder }

-- a skip reports the source as skipped, or that there is no memory for the report,
-- and then it changes nothing
abbrev pub Skips : Cause → LinkCopying → Did → LinkCopying → Type 0
Skips cause old did new =
    ((did ≡ Skipped old.source cause) × (new ≡ record old { stage = skipped_stage old.stage }))
    ⊎ ((did ≡ Troubled (out_of_memory_at (at_barrier old.stage))) × (new ≡ old))

-- the link was read and the part made, or the trouble is one that may come before
abbrev pub MakeRuns : LinkPlaces → Result Route Stop → CallLog → Option CallLog → Type 0
MakeRuns p (Ok made) log after =
    (refusal_of (current log) (ReadLink p.source) ≡ None)
    × AllDone log (MakeLink p.part (link_text (current log) p.source) ∷ []) after
MakeRuns p (Err stop) log after =
    (ReadStops (current log) p.source stop.trouble.cause stop.trouble.path × (after ≡ Some log))
    ⊎ ((refusal_of (current log) (ReadLink p.source) ≡ None)
    × RunStops (MakeLink p.part (link_text (current log) p.source) ∷ []) stop.trouble.cause
    stop.trouble.path log after)

-- how many changing calls that made: one, or those until its trouble
abbrev pub make_calls : Result Route Stop → ℕ
make_calls (Ok made) = 1
make_calls (Err stop) = stop.calls

-- what is known of the report of a part, and of the trouble before
abbrev pub IfMade : LinkPlaces → Result Route Stop → Type 0
IfMade p (Ok made) = made ≡ p.part
IfMade p (Err stop) = stop.trouble.barrier ≡ false

-- What the making of a part comes to, as in `Ran`.
pub record Makes (p : LinkPlaces) (result : Result Route Stop) (before after : Option CallLog)
    (faults faults_after : ℕ) : Type 0 where
  pub runs : IfKnown before (λ log. MakeRuns p result log after)
  pub made : IfMade p result
  pub counted : IfKnown before (λ log. IfKnown after (HasMore log (make_calls result)))
  pub few : make_calls result ≤ 1
  pub unknown : before ≡ None → after ≡ None
  pub later : faults ≤ faults_after
  pub fault : IfErr result (λ stop. stop.trouble.cause ≡ Tree refused.Fault → HasRisen faults faults_after)
