-- What a copy's report says of the calls that the step made, on a tree that tells what it holds.
use Rattle.std.specs.Prelude.{◌≡◌, ◌⊎◌, ℕ, ◌-◌, ◌<◌, ◌≤◌, ◌==◌, List, [], ◌∷◌, ◌++◌, length}
use Rattle.std.specs.Prelude.{take, drop, min, bit_or, Option, Some, None, if◌then◌else◌}
use Rattle.mc_text.specs.Routes.{Route}
use Rattle.tree_trait.specs.declared.file_system.FileSystem.{FileSystem}
use Rattle.tree_trait.specs.Calls.{Call, ReadAt, MakeFile, WriteAt, SetMode}
use Rattle.tree_trait.specs.Calls.{Rename, RemoveFile, SyncFile, SyncFolder}
use Rattle.tree_trait.specs.Change.{CallLog, current}
use Rattle.job_reports.specs.declared.report.Cause.{Cause}
use Rattle.job_reports.specs.declared.report.Cause.TheVariants.{Tree, TargetKind, SpecialSource, TooDeep}
use Rattle.job_reports.specs.declared.report.Cause.TheVariants.{PartTaken, TooLong, Unnamed, Changed, Memory}
use Rattle.job_reports.specs.declared.report.Did.{Did}
use Rattle.job_reports.specs.declared.report.Did.TheVariants.{Began, Chunk, Placed, Removed, Made}
use Rattle.job_reports.specs.declared.report.Did.TheVariants.{Set, Kept, Skipped, Cleaned, Barrier}
use Rattle.job_reports.specs.declared.report.Did.TheVariants.{Asked, Merges, Moved, Troubled, Ended}
use Rattle.copy_file.specs.declared.stage.SourceFacts.{SourceFacts}
use Rattle.copy_file.specs.declared.stage.Stage.{Stage}
use Rattle.copy_file.specs.declared.stage.Stage.TheVariants.{Begin, Fill, Clean, Left, Decided}
use Rattle.job_reports.specs.CallRuns.{AllDone, RunStops}
use Rattle.copy_file.specs.Looking.{file_at, AreFactsOf, IsReady, LookStops}
use Rattle.job_reports.specs.Reading.{IsRefusedWith}
use Rattle.copy_file.specs.PartNames.{part_path, IsFirstFree, NameStops}
use Rattle.copy_file.specs.Copying.{Places, Copying, places_of, chunk_bytes}
use Rattle.job_reports.specs.Paths.{folder_of}

-- a part has the mode of the source, and its owner may read and write it
abbrev pub part_mode : ℕ → ℕ
part_mode mode = bit_or mode 0o600

-- the call that makes the part with this number, of a file with this mode
abbrev pub making_with : ℕ → Places → ℕ → Call
making_with mode p k = MakeFile (part_path p k) (part_mode mode)

-- of the source
abbrev pub making : FileSystem → Places → ℕ → Call
making s p k = making_with (file_at s p.source).mode p k

-- the call that gives a part the source's mode, if it has another
abbrev pub moding : Route → ℕ → List Call
moding part mode = if part_mode mode == mode then [] else SetMode part mode ∷ []

-- a full part is given the source's mode, is synced, and gets the target's name
abbrev pub placing : ℕ → Route → Route → List Call
placing mode part target = moding part mode ++ SyncFile part ∷ Rename part target ∷ []

-- how many bytes of the source a chunk may have
abbrev pub room_for : SourceFacts → ℕ → ℕ
room_for facts done = min chunk_bytes (facts.size - done)

-- the next bytes of the source that go to the part
abbrev pub next_bytes : FileSystem → Route → SourceFacts → ℕ → List ℕ
next_bytes s source facts done = take (room_for facts done) (drop done (file_at s source).bytes)

-- the call that writes them
abbrev pub writing : FileSystem → Places → Route → SourceFacts → ℕ → Call
writing s p part facts done = WriteAt part done (next_bytes s p.source facts done)

-- The trouble before the part stands: of a look, of a part's name, or of its making.
abbrev pub BeginStops : (Route → Type 0) → Places → Cause → Option Route → CallLog → Option CallLog → Type 0
BeginStops unclaimed p cause path log after =
    (LookStops (current log) p cause path × (after ≡ Some log))
    ⊎ (IsReady (current log) p × NameStops (current log) unclaimed p cause path × (after ≡ Some log))
    ⊎ ((k : ℕ) × IsReady (current log) p × IsFirstFree (current log) unclaimed p k
    × RunStops (making (current log) p k ∷ []) cause path log after)

-- the trouble before the part of a file with this mode stands: of its name, or of its making
abbrev pub PartStops : (Route → Type 0) → Places → ℕ → Cause → Option Route → CallLog
    → Option CallLog → Type 0
PartStops unclaimed p mode cause path log after =
    (NameStops (current log) unclaimed p cause path × (after ≡ Some log))
    ⊎ ((k : ℕ) × IsFirstFree (current log) unclaimed p k
    × RunStops (making_with mode p k ∷ []) cause path log after)

-- the trouble of reading the next bytes: the call is refused, or the source ends early
abbrev pub ReadStops : FileSystem → Route → SourceFacts → ℕ → Cause → Option Route → Type 0
ReadStops s source facts done (Tree e) path =
    (path ≡ Some source) × IsRefusedWith s (ReadAt source done (room_for facts done)) e
ReadStops s source facts done (Changed size got) path =
    (path ≡ Some source) × (size ≡ facts.size) × (got ≡ done) × (length (file_at s source).bytes ≤ done)
ReadStops s source facts done Memory path = path ≡ None
ReadStops s source facts done (TargetKind kind) path = ⊥
ReadStops s source facts done SpecialSource path = ⊥
ReadStops s source facts done TooDeep path = ⊥
ReadStops s source facts done (Unnamed count) path = ⊥
ReadStops s source facts done PartTaken path = ⊥
ReadStops s source facts done TooLong path = ⊥

-- the trouble of a part that isn't full: the source can't be read, or the part can't be written
abbrev pub ChunkStops : Places → Route → SourceFacts → ℕ → Cause → Option Route → CallLog
    → Option CallLog → Type 0
ChunkStops p part facts done cause path log after =
    (ReadStops (current log) p.source facts done cause path × (after ≡ Some log))
    ⊎ RunStops (writing (current log) p part facts done ∷ []) cause path log after

-- the trouble of a step, by where the copy stands
abbrev pub CopyStops : (Route → Type 0) → Places → Stage → Cause → Option Route → CallLog
    → Option CallLog → Type 0
CopyStops unclaimed p Begin cause path log after = BeginStops unclaimed p cause path log after
CopyStops unclaimed p (Fill part facts done) cause path log after =
    ((done < facts.size) × ChunkStops p part facts done cause path log after)
    ⊎ ((done ≡ facts.size) × RunStops (placing facts.mode part p.target) cause path log after)
CopyStops unclaimed p (Clean part follows) cause path log after =
    RunStops (RemoveFile part ∷ []) cause path log after
CopyStops unclaimed p (Left part) cause path log after = ⊥
CopyStops unclaimed p Decided cause path log after =
    RunStops (SyncFolder (folder_of p.target) ∷ []) cause path log after

-- the part was made of a source that is what was said
abbrev pub BeganOf : FileSystem → Places → Stage → Type 0
BeganOf s p (Fill part facts done) = AreFactsOf s p.source facts
BeganOf s p Begin = ⊥
BeganOf s p (Clean part follows) = ⊥
BeganOf s p (Left part) = ⊥
BeganOf s p Decided = ⊥

-- What a step says of the tree's calls: a report of work has made just its calls, and a trouble is
-- the refusal of the next.
abbrev pub CopyCalls : (Route → Type 0) → Copying → Did → Copying → CallLog → Option CallLog → Type 0
CopyCalls unclaimed c (Began part) new log after =
    IsReady (current log) (places_of c) × BeganOf (current log) (places_of c) new.stage
    × ((k : ℕ) × (part ≡ part_path (places_of c) k) × IsFirstFree (current log) unclaimed (places_of c) k
    × AllDone log (making (current log) (places_of c) k ∷ []) after)
CopyCalls unclaimed c (Chunk count) new log after =
    (part : Route) × (facts : SourceFacts) × (done : ℕ) × (c.stage ≡ Fill part facts done)
    × (count ≡ length (next_bytes (current log) c.source facts done))
    × AllDone log (writing (current log) (places_of c) part facts done ∷ []) after
CopyCalls unclaimed c (Placed path) new log after =
    (part : Route) × (facts : SourceFacts) × (c.stage ≡ Fill part facts facts.size)
    × AllDone log (placing facts.mode part c.target) after
CopyCalls unclaimed c (Cleaned part) new log after = AllDone log (RemoveFile part ∷ []) after
CopyCalls unclaimed c Barrier new log after = AllDone log (SyncFolder (folder_of c.target) ∷ []) after
CopyCalls unclaimed c (Troubled trouble) new log after =
    CopyStops unclaimed (places_of c) c.stage trouble.cause trouble.path log after
CopyCalls unclaimed c (Removed path) new log after = ⊥
CopyCalls unclaimed c (Made made) new log after = ⊥
CopyCalls unclaimed c (Set path) new log after = ⊥
CopyCalls unclaimed c (Kept path) new log after = ⊥
CopyCalls unclaimed c (Asked question) new log after = ⊥
CopyCalls unclaimed c (Merges transfer pair names) new log after = ⊥
CopyCalls unclaimed c (Moved pair) new log after = ⊥
CopyCalls unclaimed c (Skipped path cause) new log after = after ≡ Some log
CopyCalls unclaimed c (Ended ending part) new log after = after ≡ Some log
