-- What a save's report says of the calls that the step made, on a tree that tells what it holds.
use Rattle.std.specs.Prelude.{◌≡◌, ◌⊎◌, ℕ, ◌<◌, [], ◌∷◌, length, Option, Some}
use Rattle.mc_text.specs.Routes.{Route}
use Rattle.tree_trait.specs.Calls.{WriteAt, RemoveFile, SyncFolder}
use Rattle.tree_trait.specs.Change.{CallLog, current}
use Rattle.job_reports.specs.declared.report.Cause.{Cause}
use Rattle.job_reports.specs.declared.report.Did.{Did}
use Rattle.job_reports.specs.declared.report.Did.TheVariants.{Began, Chunk, Troubled}
use Rattle.job_reports.specs.CallRuns.{AllDone, RunStops}
use Rattle.job_reports.specs.Paths.{folder_of}
use Rattle.copy_file.specs.declared.stage.SourceFacts.{SourceFacts}
use Rattle.copy_file.specs.declared.stage.Stage.{Stage}
use Rattle.copy_file.specs.declared.stage.Stage.TheVariants.{Begin, Fill, Clean, Left, Decided}
use Rattle.copy_file.specs.Copying.{places_of}
use Rattle.copy_file.specs.CopyCalls.{CopyCalls, PartStops, making_with, placing}
use Rattle.copy_file.specs.PartNames.{IsFirstFree, part_path}
use Rattle.save_file.specs.Looking.{LookStops, TakesMode}
use Rattle.save_file.specs.Saving.{Saving, chunk_at}

-- The trouble before the part stands: of a look, or of the part's name or making, with the
-- mode that the file takes.
abbrev pub BeginStops : (Route → Type 0) → Saving → Cause → Option Route → CallLog → Option CallLog → Type 0
BeginStops unclaimed s cause path log after =
    (LookStops (current log) s.copy.target cause path × (after ≡ Some log))
    ⊎ ((mode : ℕ) × TakesMode (current log) s.copy.target mode
    × PartStops unclaimed (places_of s.copy) mode cause path log after)

-- the trouble of a step, by where the save stands
abbrev pub SaveStops : (Route → Type 0) → Saving → Stage → Cause → Option Route → CallLog
    → Option CallLog → Type 0
SaveStops unclaimed s Begin cause path log after = BeginStops unclaimed s cause path log after
SaveStops unclaimed s (Fill part facts done) cause path log after =
    ((done < facts.size) × RunStops (WriteAt part done (chunk_at s.bytes done) ∷ []) cause path log after)
    ⊎ ((done ≡ facts.size) × RunStops (placing facts.mode part s.copy.target) cause path log after)
SaveStops unclaimed s (Clean part follows) cause path log after =
    RunStops (RemoveFile part ∷ []) cause path log after
SaveStops unclaimed s (Left part) cause path log after = ⊥
SaveStops unclaimed s Decided cause path log after =
    RunStops (SyncFolder (folder_of s.copy.target) ∷ []) cause path log after

-- What a step says of the tree's calls: a part was made with the mode that the file takes, or the next
-- bytes were written to it; placing it, its removal and the sync are those of a copy; a trouble is the
-- refusal of what came next.
abbrev pub SaveCalls : (Route → Type 0) → Saving → Did → Saving → CallLog → Option CallLog → Type 0
SaveCalls unclaimed s (Began part) new log after =
    (mode : ℕ) × TakesMode (current log) s.copy.target mode
    × (new.copy.stage
    ≡ (let facts : SourceFacts = record { size = length s.bytes; mode = mode } in Fill part facts 0))
    × ((k : ℕ) × (part ≡ part_path (places_of s.copy) k) × IsFirstFree (current log) unclaimed
    (places_of s.copy) k × AllDone log (making_with mode (places_of s.copy) k ∷ []) after)
SaveCalls unclaimed s (Chunk count) new log after =
    (part : Route) × (facts : SourceFacts) × (done : ℕ) × (s.copy.stage ≡ Fill part facts done)
    × (count ≡ length (chunk_at s.bytes done))
    × AllDone log (WriteAt part done (chunk_at s.bytes done) ∷ []) after
SaveCalls unclaimed s (Troubled trouble) new log after =
    SaveStops unclaimed s s.copy.stage trouble.cause trouble.path log after
SaveCalls unclaimed s did new log after = CopyCalls unclaimed s.copy did new.copy log after
