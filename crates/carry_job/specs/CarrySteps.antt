-- What a step of the carrying of a thing does, by where it stands. The copies of a file and of a link say
-- each what their steps report and call; here stands which of them is at work, on which paths, and what comes
-- then.
use Rattle.std.specs.Prelude.{◌≡◌, ◌⊎◌, ℕ, ◌≤◌, Bool, true, false, [], ◌∷◌}
use Rattle.std.specs.Prelude.{Option, None, Result, Ok, Err}
use Rattle.mc_text.specs.Routes.{Route}
use Rattle.tree_trait.specs.Calls.{Call, RemoveFile, SyncFolder}
use Rattle.tree_trait.specs.Change.{CallLog, current}
use Rattle.tree_trait.specs.Answers.{IfKnown, HasRisen}
use Rattle.tree_trait.specs.declared.calls.TreeError.TheVariants as refused
use Rattle.job_reports.specs.declared.report.Cause.{Cause}
use Rattle.job_reports.specs.declared.report.Cause.TheVariants.{Tree}
use Rattle.job_reports.specs.declared.report.Did.{Did}
use Rattle.job_reports.specs.declared.report.Did.TheVariants.{Kept, Skipped, Removed, Barrier, Asked}
use Rattle.job_reports.specs.declared.report.Did.TheVariants.{Troubled, Ended}
use Rattle.job_reports.specs.declared.report.Ending.TheVariants.{Finished}
use Rattle.job_reports.specs.declared.report.Trouble.{Trouble}
use Rattle.job_reports.specs.declared.stop.Stop.{Stop}
use Rattle.job_reports.specs.CallRuns.{HasMore}
use Rattle.job_reports.specs.Paths.{folder_of}
use Rattle.job_reports.specs.Reports.{IsFault}
use Rattle.job_reports.specs.Stops.{Ran, out_of_memory_at}
use Rattle.job_answers.specs.declared.replies.Replies.{Replies}
use Rattle.copy_file.specs.Copying as file
use Rattle.copy_file.specs.Copying.{Copying, Places, begun_copy}
use Rattle.copy_file.specs.CopySteps as file_steps
use Rattle.copy_file.specs.PartNames.{IsChosen, NameStops}
use Rattle.copy_file.specs.PartSteps.{MakesPart}
use Rattle.copy_file.specs.declared.stage.FolderState.{FolderState}
use Rattle.copy_file.specs.declared.stage.FolderState.TheVariants as names_state
use Rattle.copy_file.specs.declared.stage.SourceFacts.{SourceFacts}
use Rattle.copy_link.specs.LinkCopying as link
use Rattle.copy_link.specs.LinkCopying.{LinkCopying}
use Rattle.copy_link.specs.LinkSteps as link_steps
use Rattle.copy_link.specs.declared.stage.Stage.TheVariants as link_stage
use Rattle.carry_job.specs.declared.stage.AfterStep.{AfterStep}
use Rattle.carry_job.specs.declared.stage.CarryStage.{CarryStage}
use Rattle.carry_job.specs.declared.stage.CarryStage.TheVariants.{Take, File, Link, SyncTarget, Remove}
use Rattle.carry_job.specs.declared.stage.CarryStage.TheVariants.{SyncSource, Finish, Settle, PassedOver}
use Rattle.carry_job.specs.declared.stage.CarryStage.TheVariants.{Stays}
use Rattle.carry_job.specs.declared.taking.Taken.{Taken}
use Rattle.carry_job.specs.declared.taking.Taken.TheVariants as taken
use Rattle.carry_job.specs.Carryings.{Carrying, after_beginning, after_file, after_link}
use Rattle.carry_job.specs.Carryings.{after_link_beginning, at_barrier, passed, skipped_stage}
use Rattle.carry_job.specs.Taking.{LooksStop, Takes}

-- a step that made so many calls, and where the carrying stands then
abbrev pub after_step : Did → ℕ → CarryStage → AfterStep
after_step did calls stage = record { did = did; calls = calls; stage = stage }

-- there is no memory, and nothing was done
abbrev pub out_of_memory_in : CarryStage → AfterStep
out_of_memory_in stage = after_step (Troubled (out_of_memory_at false)) 0 stage

-- a step that made no call, and left the tree as it was
pub record SaysOnly (said moved : AfterStep) (before after : Option CallLog)
    (faults faults_after : ℕ) : Type 0 where
  pub says : moved ≡ said
  pub same : after ≡ before
  pub later : faults ≤ faults_after

-- The copy of a file begins: its part was made, or the carrying stands where it stood.
pub record FileBegins (unclaimed : Route → Type 0) (facts : SourceFacts) (p : Places) (folder : FolderState)
    (moved : AfterStep) (before after : Option CallLog) (faults faults_after : ℕ) : Type 0 where
  pub begun : Copying
  pub makes : MakesPart unclaimed facts (begun_copy p.job p.source p.target) begun moved.did moved.calls
      before after faults faults_after
  pub stands : moved.stage ≡ after_beginning moved.did begun folder

-- the copy of the link by way of this part
abbrev pub link_begun : Places → Route → LinkCopying
link_begun p part =
    link.copying (link.places p.source p.target part) link_stage.Make names_state.Synced

-- the part of a link was made, or the carrying stands where it stood
pub record LinkPartMade (l : LinkCopying) (folder : FolderState) (moved : AfterStep)
    (before after : Option CallLog) (faults faults_after : ℕ) : Type 0 where
  pub begun : LinkCopying
  pub makes : link_steps.StepsOn l begun moved.did moved.calls before after faults faults_after
  pub stands : moved.stage ≡ after_link_beginning moved.did begun folder

-- the copy of a link begins by way of this part, or there is no memory for that
abbrev pub IsLinkBegun : Places → Route → FolderState → AfterStep → Option CallLog → Option CallLog
    → ℕ → ℕ → Type 0
IsLinkBegun p part folder moved before after faults faults_after =
    SaysOnly (out_of_memory_in (Take folder)) moved before after faults faults_after
    ⊎ LinkPartMade (link_begun p part) folder moved before after faults faults_after

-- The copy of a link begins. Its part has the first name that is free; the count of faults stood so after the
-- looks at the names.
pub record LinkBegins (unclaimed : Route → Type 0) (p : Places) (folder : FolderState) (moved : AfterStep)
    (before after : Option CallLog) (faults faults_after : ℕ) : Type 0 where
  pub part : Route
  pub chosen : IfKnown before (λ log. IsChosen (current log) unclaimed p part)
  pub since : ℕ
  pub looked : faults ≤ since
  pub begins : IsLinkBegun p part folder moved before after since faults_after

-- no name for the part of a link could be had
pub record Nameless (unclaimed : Route → Type 0) (p : Places) (folder : FolderState) (moved : AfterStep)
    (before after : Option CallLog) (faults faults_after : ℕ) : Type 0 where
  pub trouble : Trouble
  pub why : IfKnown before (λ log. NameStops (current log) unclaimed p trouble.cause trouble.path)
  pub apart : trouble.barrier ≡ false
  pub says : SaysOnly (after_step (Troubled trouble) 0 (Take folder)) moved before after faults faults_after
  pub fault : trouble.cause ≡ Tree refused.Fault → HasRisen faults faults_after

-- what stands at the target stays, or there is no memory to say so
abbrev pub KeepsTarget : Places → FolderState → AfterStep → Type 0
KeepsTarget p folder moved = (moved ≡ after_step (Kept p.target) 0 (passed folder))
    ⊎ (moved ≡ out_of_memory_in (Take folder))

-- what was taken up is begun
abbrev pub Begins : (Route → Type 0) → Places → FolderState → Taken → AfterStep → Option CallLog
    → Option CallLog → ℕ → ℕ → Type 0
Begins unclaimed p folder (taken.File facts) moved before after faults faults_after =
    SaysOnly (out_of_memory_in (Take folder)) moved before after faults faults_after
    ⊎ FileBegins unclaimed facts p folder moved before after faults faults_after
Begins unclaimed p folder taken.Link moved before after faults faults_after =
    Nameless unclaimed p folder moved before after faults faults_after
    ⊎ LinkBegins unclaimed p folder moved before after faults faults_after
Begins unclaimed p folder taken.Keeps moved before after faults faults_after =
    KeepsTarget p folder moved × (after ≡ before) × (faults ≤ faults_after)
Begins unclaimed p folder (taken.Asks question) moved before after faults faults_after =
    SaysOnly (after_step (Asked question) 0 (Take folder)) moved before after faults faults_after

-- A look stopped it. Nothing was changed.
pub record Stopped (p : Places) (folder : FolderState) (moved : AfterStep) (before after : Option CallLog)
    (faults faults_after : ℕ) : Type 0 where
  pub trouble : Trouble
  pub why : IfKnown before (λ log. LooksStop (current log) p trouble.cause trouble.path)
  pub apart : trouble.barrier ≡ false
  pub says : SaysOnly (after_step (Troubled trouble) 0 (Take folder)) moved before after faults faults_after
  pub fault : trouble.cause ≡ Tree refused.Fault → HasRisen faults faults_after

-- The thing was looked at, this comes of it, and it is begun. The count of faults stood so after the looks.
pub record TakenUp (unclaimed : Route → Type 0) (replies : Replies) (p : Places) (folder : FolderState)
    (moved : AfterStep) (before after : Option CallLog) (faults faults_after : ℕ) : Type 0 where
  pub what : Taken
  pub is : IfKnown before (λ log. Takes (current log) p replies what)
  pub since : ℕ
  pub looked : faults ≤ since
  pub begins : Begins unclaimed p folder what moved before after since faults_after

-- A step of the copy of a file whose part stands.
pub record FileWorks (unclaimed : Route → Type 0) (f : Copying) (moved : AfterStep)
    (before after : Option CallLog) (faults faults_after : ℕ) : Type 0 where
  pub copied : Copying
  pub steps : file_steps.StepsOn unclaimed f copied moved.did moved.calls before after faults faults_after
  pub sound : file.IsSound copied.stage copied.folder
  pub stands : moved.stage ≡ after_file moved.did copied

-- a step of the copy of a link
pub record LinkWorks (l : LinkCopying) (moved : AfterStep) (before after : Option CallLog)
    (faults faults_after : ℕ) : Type 0 where
  pub copied : LinkCopying
  pub steps : link_steps.StepsOn l copied moved.did moved.calls before after faults faults_after
  pub stands : moved.stage ≡ after_link moved.did copied

-- what is told of one call: it was made, and the carrying goes on; or its trouble, and it stands where it
-- stood
abbrev pub told_call : Did → CarryStage → CarryStage → Result ℕ Stop → AfterStep
told_call did at next (Ok calls) = after_step did calls next
told_call did at next (Err stop) = after_step (Troubled stop.trouble) stop.calls at

-- One call, in place of which no other is made.
pub record MakesCall (call : Call) (at_barrier : Bool) (did : Did) (at next : CarryStage) (moved : AfterStep)
    (before after : Option CallLog) (faults faults_after : ℕ) : Type 0 where
  pub answer : Result ℕ Stop
  pub ran : Ran (call ∷ []) at_barrier answer before after faults faults_after
  pub told : moved ≡ told_call did at next answer

-- the source is removed, or there is no memory to name it
abbrev pub Removes : Places → AfterStep → Option CallLog → Option CallLog → ℕ → ℕ → Type 0
Removes p moved before after faults faults_after =
    SaysOnly (out_of_memory_in Remove) moved before after faults faults_after
    ⊎ MakesCall (RemoveFile p.source) false (Removed p.source) Remove SyncSource moved before after faults
    faults_after

-- What a step does, by where the carrying stands. The source is removed only where the copy was placed and
-- the target's folder was synced then.
abbrev pub Works : (Route → Type 0) → Replies → Places → CarryStage → AfterStep → Option CallLog
    → Option CallLog → ℕ → ℕ → Type 0
Works unclaimed replies p (Take folder) moved before after faults faults_after =
    Stopped p folder moved before after faults faults_after
    ⊎ TakenUp unclaimed replies p folder moved before after faults faults_after
Works unclaimed replies p (File f) moved before after faults faults_after =
    FileWorks unclaimed f moved before after faults faults_after
Works unclaimed replies p (Link l) moved before after faults faults_after =
    LinkWorks l moved before after faults faults_after
Works unclaimed replies p SyncTarget moved before after faults faults_after =
    MakesCall (SyncFolder (folder_of p.target)) true Barrier SyncTarget Remove moved before after faults
    faults_after
Works unclaimed replies p Remove moved before after faults faults_after =
    Removes p moved before after faults faults_after
Works unclaimed replies p SyncSource moved before after faults faults_after =
    MakesCall (SyncFolder (folder_of p.source)) true Barrier SyncSource Finish moved before after faults
    faults_after
Works unclaimed replies p Settle moved before after faults faults_after =
    MakesCall (SyncFolder (folder_of p.target)) true Barrier Settle PassedOver moved before after faults
    faults_after
Works unclaimed replies p Finish moved before after faults faults_after =
    SaysOnly (after_step (Ended Finished None) 0 Finish) moved before after faults faults_after
Works unclaimed replies p PassedOver moved before after faults faults_after =
    SaysOnly (after_step (Ended Finished None) 0 PassedOver) moved before after faults faults_after
Works unclaimed replies p (Stays part) moved before after faults faults_after = ⊥

-- A step counts its changing calls, at most three, and reports a fault only where the tree's count has risen.
pub record Counts (did : Did) (calls : ℕ) (before after : Option CallLog)
    (faults faults_after : ℕ) : Type 0 where
  pub counted : IfKnown before (λ log. IfKnown after (HasMore log calls))
  pub few : calls ≤ 3
  pub unknown : before ≡ None → after ≡ None
  pub later : faults ≤ faults_after
  pub fault : IsFault did → HasRisen faults faults_after

-- A step of the carrying: what it does where that stands, and that nothing but where it stands has changed.
pub record CarryStep (unclaimed : Route → Type 0) (replies : Replies) (old new : Carrying) (did : Did)
    (calls : ℕ) (before after : Option CallLog) (faults faults_after : ℕ) : Type 0 where
  pub works : Works unclaimed replies old.places old.stage (after_step did calls new.stage) before after
      faults faults_after
  pub places : new.places ≡ old.places
  pub counts : Counts did calls before after faults faults_after

-- No part stands: the thing is passed over, or there is no memory to say so, and nothing is changed.
abbrev pub Passes : Places → CarryStage → Cause → Did → CarryStage → Type 0
Passes p stage cause did new = ((did ≡ Skipped p.source cause) × (new ≡ skipped_stage stage))
    ⊎ ((did ≡ Troubled (out_of_memory_at (at_barrier stage))) × (new ≡ stage))

-- a skip: a part that stands is to be removed
abbrev pub SkipsAt : Places → CarryStage → Cause → Did → CarryStage → Type 0
SkipsAt p (File f) cause did new =
    (moved : Copying) × file_steps.Skips cause f did moved × (new ≡ File moved)
SkipsAt p (Link l) cause did new =
    (moved : LinkCopying) × link_steps.Skips cause l did moved × (new ≡ Link moved)
SkipsAt p stage cause did new = Passes p stage cause did new

pub record CarrySkips (cause : Cause) (old : Carrying) (did : Did) (new : Carrying) : Type 0 where
  pub skips : SkipsAt old.places old.stage cause did new.stage
  pub places : new.places ≡ old.places
