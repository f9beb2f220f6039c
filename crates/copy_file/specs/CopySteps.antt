-- What a step of a copy does: its report, the copy after it, its calls of the tree, and how many
-- changing calls that was.
use Rattle.std.specs.Prelude.{◌≡◌, ◌⊎◌, ℕ, ◌<◌, ◌≤◌, ⊤, false, [], ◌∷◌, Option, None, Result, Ok, Err, IfErr}
use Rattle.mc_text.specs.Routes.{Route}
use Rattle.tree_trait.specs.Change.{CallLog, current}
use Rattle.tree_trait.specs.Answers.{IfKnown, HasRisen}
use Rattle.tree_trait.specs.declared.calls.TreeError.TheVariants as refused
use Rattle.job_reports.specs.declared.report.Cause.{Cause}
use Rattle.job_reports.specs.declared.report.Cause.TheVariants.{Tree}
use Rattle.job_reports.specs.declared.report.Did.{Did}
use Rattle.job_reports.specs.declared.report.Did.TheVariants.{Chunk, Placed, Skipped}
use Rattle.job_reports.specs.declared.report.Did.TheVariants.{Cleaned, Barrier, Troubled}
use Rattle.job_reports.specs.Reports.{IsFault}
use Rattle.copy_file.specs.declared.stage.Stage.{Stage}
use Rattle.copy_file.specs.declared.stage.Stage.TheVariants.{Decided}
use Rattle.copy_file.specs.declared.stage.FolderState.{FolderState}
use Rattle.job_reports.specs.declared.stop.Stop.{Stop}
use Rattle.copy_file.specs.declared.work.Made.{Made}
use Rattle.copy_file.specs.declared.work.AfterStep.{AfterStep}
use Rattle.job_reports.specs.CallRuns.{AllDone, HasMore}
use Rattle.copy_file.specs.Copying.{Places, Copying, IsSound, Tells, skipped_stage, at_barrier, steps_left}
use Rattle.copy_file.specs.declared.stage.SourceFacts.{SourceFacts}
use Rattle.copy_file.specs.CopyCalls.{CopyCalls, BeginStops, PartStops, making, making_with}
use Rattle.copy_file.specs.Looking.{HasRange, IsReady, AreFactsOf}
use Rattle.copy_file.specs.PartNames.{IsFirstFree, part_path}
use Rattle.job_reports.specs.Stops.{out_of_memory_at}

-- fewer steps are left
abbrev pub IsFewer : Copying → Copying → Type 0
IsFewer new old = steps_left new.stage new.folder < steps_left old.stage old.folder

-- Work leaves fewer steps to be made. Only a part that is made, also anew after its removal, brings more.
abbrev pub Falls : Did → Copying → Copying → Type 0
Falls (Chunk count) old new = IsFewer new old
Falls (Placed path) old new = IsFewer new old
Falls (Cleaned part) old new = new.stage ≡ Decided → IsFewer new old
Falls Barrier old new = IsFewer new old
Falls did old new = ⊤

-- A step of a copy: what it reports is allowed, the copy is then as it says, it made the calls of
-- the tree that it says, at most three of which change the tree, and it reports a fault only where
-- the tree's count has risen.
pub record StepsOn (unclaimed : Route → Type 0) (old new : Copying) (did : Did) (calls : ℕ)
    (before after : Option CallLog) (faults faults_after : ℕ) : Type 0 where
  pub tells : Tells old did new
  pub called : IfKnown before (λ log. CopyCalls unclaimed old did new log after)
  pub counted : IfKnown before (λ log. IfKnown after (HasMore log calls))
  pub few : calls ≤ 3
  pub unknown : before ≡ None → after ≡ None
  pub later : faults ≤ faults_after
  pub fault : IsFault did → HasRisen faults faults_after
  pub falls : Falls did old new

-- a skip reports the source as skipped, or that there is no memory for the report,
-- and then it changes nothing
abbrev pub Skips : Cause → Copying → Did → Copying → Type 0
Skips cause old did new =
    ((did ≡ Skipped old.source cause) × (new ≡ record old { stage = skipped_stage old.stage }))
    ⊎ ((did ≡ Troubled (out_of_memory_at (at_barrier old.stage))) × (new ≡ old))

-- A step that says where it left the copy: the copy then is sound.
pub record MovesOn (unclaimed : Route → Type 0) (old : Copying) (moved : AfterStep)
    (before after : Option CallLog) (faults faults_after : ℕ) : Type 0 where
  pub steps : StepsOn unclaimed old (record old { stage = moved.stage; folder = moved.folder }) moved.did
      moved.calls before after faults faults_after
  pub sound : IsSound moved.stage moved.folder

-- a trouble leaves the copy where it stood
abbrev pub moved_by : Stop → Stage → FolderState → AfterStep
moved_by stop stage folder =
    record { did = Troubled stop.trouble; calls = stop.calls; stage = stage; folder = folder }

-- a part was made, or the trouble is one that may come before
abbrev pub BeginRuns : (Route → Type 0) → Places → Result Made Stop → CallLog → Option CallLog → Type 0
BeginRuns unclaimed p (Ok made) log after =
    IsReady (current log) p × AreFactsOf (current log) p.source made.facts
    × ((k : ℕ) × (made.part ≡ part_path p k) × IsFirstFree (current log) unclaimed p k
    × AllDone log (making (current log) p k ∷ []) after)
BeginRuns unclaimed p (Err stop) log after =
    BeginStops unclaimed p stop.trouble.cause stop.trouble.path log after

-- how many changing calls the beginning made: one, or those until its trouble
abbrev pub begin_calls : Result Made Stop → ℕ
begin_calls (Ok made) = 1
begin_calls (Err stop) = stop.calls

-- what is known of a part that was made, and of the trouble before
abbrev pub IfBegun : Result Made Stop → Type 0
IfBegun (Ok made) = (made.named ≡ made.part) × HasRange made.facts
IfBegun (Err stop) = stop.trouble.barrier ≡ false

-- What the making of a part comes to, as in `Ran`.
pub record Begins (unclaimed : Route → Type 0) (p : Places) (result : Result Made Stop)
    (before after : Option CallLog) (faults faults_after : ℕ) : Type 0 where
  pub runs : IfKnown before (λ log. BeginRuns unclaimed p result log after)
  pub begun : IfBegun result
  pub counted : IfKnown before (λ log. IfKnown after (HasMore log (begin_calls result)))
  pub few : begin_calls result ≤ 1
  pub unknown : before ≡ None → after ≡ None
  pub later : faults ≤ faults_after
  pub fault : IfErr result (λ stop. stop.trouble.cause ≡ Tree refused.Fault → HasRisen faults faults_after)

-- a part was made of a file with these facts, or the trouble is one that may come before
abbrev pub NameRuns : (Route → Type 0) → SourceFacts → Places → Result Made Stop → CallLog
    → Option CallLog → Type 0
NameRuns unclaimed facts p (Ok made) log after =
    (k : ℕ) × (made.part ≡ part_path p k) × IsFirstFree (current log) unclaimed p k
    × AllDone log (making_with facts.mode p k ∷ []) after
NameRuns unclaimed facts p (Err stop) log after =
    PartStops unclaimed p facts.mode stop.trouble.cause stop.trouble.path log after

-- what is known of such a part, and of the trouble before
abbrev pub IfNamed : SourceFacts → Result Made Stop → Type 0
IfNamed facts (Ok made) = (made.named ≡ made.part) × (made.facts ≡ facts)
IfNamed facts (Err stop) = stop.trouble.barrier ≡ false

-- What the making of such a part comes to, as in `Ran`.
pub record Names (unclaimed : Route → Type 0) (facts : SourceFacts) (p : Places) (result : Result Made Stop)
    (before after : Option CallLog) (faults faults_after : ℕ) : Type 0 where
  pub runs : IfKnown before (λ log. NameRuns unclaimed facts p result log after)
  pub named : IfNamed facts result
  pub counted : IfKnown before (λ log. IfKnown after (HasMore log (begin_calls result)))
  pub few : begin_calls result ≤ 1
  pub unknown : before ≡ None → after ≡ None
  pub later : faults ≤ faults_after
  pub fault : IfErr result (λ stop. stop.trouble.cause ≡ Tree refused.Fault → HasRisen faults faults_after)
