-- The steps of a part whose bytes and mode the caller knows, in place of those that look at a source and
-- read it: it is made, and filled.
use Rattle.std.specs.Prelude.{◌≡◌, ℕ, ◌+◌, ◌≤◌, false, List, [], ◌∷◌, length, Option, None}
use Rattle.mc_text.specs.Routes.{Route}
use Rattle.tree_trait.specs.Calls.{Call, WriteAt}
use Rattle.tree_trait.specs.Change.{CallLog, current}
use Rattle.tree_trait.specs.Answers.{IfKnown, HasRisen}
use Rattle.job_reports.specs.declared.report.Did.{Did}
use Rattle.job_reports.specs.declared.report.Did.TheVariants.{Began, Chunk, Troubled}
use Rattle.job_reports.specs.Reports.{IsFault}
use Rattle.job_reports.specs.CallRuns.{AllDone, RunStops, HasMore}
use Rattle.copy_file.specs.declared.stage.SourceFacts.{SourceFacts}
use Rattle.copy_file.specs.declared.stage.Stage.{Stage}
use Rattle.copy_file.specs.declared.stage.Stage.TheVariants.{Begin, Fill, Clean, Left, Decided}
use Rattle.copy_file.specs.declared.stage.FolderState.TheVariants.{Dirty}
use Rattle.copy_file.specs.Chunks.{HasCount}
use Rattle.copy_file.specs.CopyCalls.{PartStops, making_with}
use Rattle.copy_file.specs.Copying.{Copying, places_of}
use Rattle.copy_file.specs.PartNames.{IsFirstFree, part_path}

-- a part of a file with these facts was made, or a trouble leaves the copy where it stood
abbrev pub TellsMade : SourceFacts → Copying → Did → Copying → Type 0
TellsMade facts c (Began part) new = new ≡ record c { stage = Fill part facts 0; folder = Dirty }
TellsMade facts c (Troubled trouble) new = (trouble.barrier ≡ false) × (new ≡ c)
TellsMade facts c did new = ⊥

-- by which calls
abbrev pub MadeCalls : (Route → Type 0) → SourceFacts → Copying → Did → CallLog → Option CallLog → Type 0
MadeCalls unclaimed facts c (Began part) log after =
    (k : ℕ) × (part ≡ part_path (places_of c) k) × IsFirstFree (current log) unclaimed (places_of c) k
    × AllDone log (making_with facts.mode (places_of c) k ∷ []) after
MadeCalls unclaimed facts c (Troubled trouble) log after =
    PartStops unclaimed (places_of c) facts.mode trouble.cause trouble.path log after
MadeCalls unclaimed facts c did log after = ⊥

-- The making of a part of a file with these facts.
pub record MakesPart (unclaimed : Route → Type 0) (facts : SourceFacts) (old new : Copying) (did : Did)
    (calls : ℕ) (before after : Option CallLog) (faults faults_after : ℕ) : Type 0 where
  pub tells : TellsMade facts old did new
  pub called : IfKnown before (λ log. MadeCalls unclaimed facts old did log after)
  pub counted : IfKnown before (λ log. IfKnown after (HasMore log calls))
  pub few : calls ≤ 1
  pub unknown : before ≡ None → after ≡ None
  pub later : faults ≤ faults_after
  pub fault : IsFault did → HasRisen faults faults_after

-- so many bytes may go next to the part: as many as a chunk may have, and none more than the file has
abbrev pub IsNext : Stage → ℕ → Type 0
IsNext (Fill part facts done) count = HasCount facts done count
IsNext Begin count = ⊥
IsNext (Clean part follows) count = ⊥
IsNext (Left part) count = ⊥
IsNext Decided count = ⊥

-- the part has so many bytes more
abbrev pub filled_by : ℕ → Stage → Stage
filled_by count (Fill part facts done) = Fill part facts (done + count)
filled_by count Begin = Begin
filled_by count (Clean part follows) = Clean part follows
filled_by count (Left part) = Left part
filled_by count Decided = Decided

-- the call that writes these bytes behind those that the part has
abbrev pub writing_next : List ℕ → Stage → List Call
writing_next bytes (Fill part facts done) = WriteAt part done bytes ∷ []
writing_next bytes Begin = []
writing_next bytes (Clean part follows) = []
writing_next bytes (Left part) = []
writing_next bytes Decided = []

-- the bytes were written, or a trouble leaves the copy where it stood
abbrev pub TellsWritten : List ℕ → Stage → Did → Stage → Type 0
TellsWritten bytes stage (Chunk count) new = (count ≡ length bytes) × (new ≡ filled_by (length bytes) stage)
TellsWritten bytes stage (Troubled trouble) new = (trouble.barrier ≡ false) × (new ≡ stage)
TellsWritten bytes stage did new = ⊥

-- by which calls
abbrev pub WrittenCalls : List ℕ → Stage → Did → CallLog → Option CallLog → Type 0
WrittenCalls bytes stage (Chunk count) log after = AllDone log (writing_next bytes stage) after
WrittenCalls bytes stage (Troubled trouble) log after =
    RunStops (writing_next bytes stage) trouble.cause trouble.path log after
WrittenCalls bytes stage did log after = ⊥

-- The writing of these bytes, where the copy stands so.
pub record WritesNext (bytes : List ℕ) (stage new : Stage) (did : Did) (calls : ℕ)
    (before after : Option CallLog) (faults faults_after : ℕ) : Type 0 where
  pub tells : TellsWritten bytes stage did new
  pub called : IfKnown before (λ log. WrittenCalls bytes stage did log after)
  pub counted : IfKnown before (λ log. IfKnown after (HasMore log calls))
  pub few : calls ≤ 1
  pub unknown : before ≡ None → after ≡ None
  pub later : faults ≤ faults_after
  pub fault : IsFault did → HasRisen faults faults_after
