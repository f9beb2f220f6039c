-- The laws of a save and the log: each of its steps keeps the tree guarded, the part gets the bytes that
-- are saved, and so the target is as it was or whole after any crash.
use Rattle.std.specs.Prelude.{◌≡◌, ◌≢◌, ◌⊎◌, ℕ, ◌<◌, Bool, true, false, List, ◌∷◌, length, take, Some, ⊤, Err}
use Rattle.mc_text.specs.Routes.{Route}
use Rattle.tree_trait.specs.declared.file_system.FileSystem.{FileSystem}
use Rattle.tree_trait.specs.FileSystem.{find, value_at}
use Rattle.tree_trait.specs.Answers.{Performs}
use Rattle.tree_trait.specs.Calls.{Call, WriteAt}
use Rattle.tree_trait.specs.Change.{CallLog, current, found_node}
use Rattle.tree_trait.specs.declared.calls.TreeError.{TreeError}
use Rattle.job_reports.specs.declared.report.Did.TheVariants.{Began, Chunk, Placed, Cleaned, Barrier}
use Rattle.job_reports.specs.CallRuns.{AllDone}
use Rattle.job_reports.specs.Paths.{folder_of}
use Rattle.laws_crash.specs.Possible.{IsImage}
use Rattle.laws_crash.specs.Guarded.{Holds, IsGuarded, IsSettledAt, Marks}
use Rattle.laws_crash.specs.NameKnowledge.{IsAnchored, is_near}
use Rattle.copy_file.specs.declared.stage.SourceFacts.{SourceFacts}
use Rattle.copy_file.specs.declared.stage.Stage.TheVariants.{Fill}
use Rattle.copy_file.specs.CopyCalls.{placing}
use Rattle.save_file.specs.Safe.{HasPart, IsAsFound, IsPlaced, KnowsPart}
use Rattle.save_file.specs.Safe.{MayBePart, next_node, saved_value, with_firm}
use Rattle.save_file.specs.SaveSteps.{StepsOn}
use Rattle.save_file.specs.Saving.{IsOwn, Saving}

-- The part is made, empty.
abbrev pub BeganLaw : Type 0
BeganLaw =
    (free : Route → Bool) (old new : Saving) (part : Route) (calls : ℕ) (log now : CallLog)
    (faults faults_after : ℕ) (marks : Marks)
    → StepsOn (λ path. free path ≡ true) old new (Began part) calls (Some log) (Some now) faults faults_after
    → IsGuarded marks log → IsAnchored marks log (folder_of old.copy.target)
    → marks.aside part ≡ true → MayBePart marks (next_node log)
    → IsGuarded marks now × KnowsPart marks now (next_node log) new.bytes new.copy.stage

-- It is filled: it then holds so many of the bytes more.
abbrev pub ChunkLaw : Type 0
ChunkLaw =
    (free : Route → Bool) (old new : Saving) (count calls : ℕ) (log now : CallLog) (faults faults_after : ℕ)
    (marks : Marks) (i : ℕ)
    → StepsOn (λ path. free path ≡ true) old new (Chunk count) calls (Some log) (Some now) faults faults_after
    → IsOwn old → IsGuarded marks log
    → KnowsPart marks log i old.bytes old.copy.stage
    → IsGuarded marks now × KnowsPart marks now i new.bytes new.copy.stage

-- It is placed: the target leads to it then, with all the bytes and the mode. Until its renaming the
-- target leads where it did.
pub record PlacedLaw : Type 0 where
  pub placed : (free : Route → Bool) (old new : Saving) (path : Route) (calls : ℕ) (log now : CallLog)
      (faults faults_after : ℕ) (marks : Marks) (i : ℕ) (part target : List ℕ) (up : Route)
      (facts : SourceFacts) (done : ℕ)
      → StepsOn (λ path. free path ≡ true) old new (Placed path) calls (Some log) (Some now) faults
      faults_after → IsOwn old → IsGuarded marks log
      → old.copy.stage ≡ Fill (part ∷ up) facts done → old.copy.target ≡ target ∷ up → part ≢ target
      → KnowsPart marks log i old.bytes old.copy.stage
      → IsAnchored marks log up → IsAsFound marks log (target ∷ up)
      → IsPlaced marks now (target ∷ up) i old.bytes facts.mode
  pub meanwhile : (marks : Marks) (log mid : CallLog) (part target : Route) (i mode count : ℕ)
      → IsGuarded marks log → HasPart marks log part i → count < length (placing mode part target)
      → AllDone log (take count (placing mode part target)) (Some mid)
      → IsGuarded marks mid × (find (current mid) target ≡ find (current log) target)

-- the tree stays guarded, and each path leads where it did
abbrev pub Keeps : Marks → CallLog → CallLog → Type 0
Keeps marks log now =
    IsGuarded marks now × ((path : Route) → find (current now) path ≡ find (current log) path)

-- bytes are written to the part alone
abbrev pub MayTear : Marks → CallLog → Call → Type 0
MayTear marks log (WriteAt path offset bytes) = (i : ℕ) × HasPart marks log path i
MayTear marks log call = ⊤

-- A call that is refused, or that fails, leaves each path where it led.
abbrev pub RefusedLaw : Type 0
RefusedLaw = (marks : Marks) (log now : CallLog) (call : Call) (e : TreeError) → IsGuarded marks log
    → MayTear marks log call → Performs {A = Unit {0}} log call (Err e) (Some now) → Keeps marks log now

-- A part that isn't to be placed is removed.
abbrev pub CleanedLaw : Type 0
CleanedLaw =
    (free : Route → Bool) (old new : Saving) (part : Route) (calls : ℕ) (log now : CallLog)
    (faults faults_after : ℕ) (marks : Marks) (i : ℕ)
    → StepsOn (λ path. free path ≡ true) old new (Cleaned part) calls (Some log) (Some now) faults
    faults_after → IsGuarded marks log → IsAnchored marks log (folder_of part)
    → HasPart marks log part i → IsGuarded marks now

-- The folder is synced, and the target then leads after any crash where it leads now.
abbrev pub BarrierLaw : Type 0
BarrierLaw =
    (free : Route → Bool) (old new : Saving) (calls : ℕ) (log now : CallLog) (faults faults_after : ℕ)
    (marks : Marks) (target : List ℕ) (up : Route)
    → StepsOn (λ path. free path ≡ true) old new Barrier calls (Some log) (Some now) faults faults_after
    → IsGuarded marks log → old.copy.target ≡ target ∷ up
    → IsSettledAt log up → is_near (found_node (current log) up) target log.changes ≡ true
    → IsGuarded marks now × IsSettledAt now (target ∷ up)

-- What a crash leaves at the target. Until it is placed that is what stood there; then that, or the file
-- with all its bytes and its mode; and once the folder is synced the file.
pub record WholeLaw : Type 0 where
  pub before : (marks : Marks) (log : CallLog) (image : FileSystem) (target : Route) → IsGuarded marks log
      → IsAsFound marks log target → marks.aside target ≡ false → IsImage log image
      → Holds marks (current log) (value_at image target) (marks.was target)
  pub after : (marks : Marks) (log : CallLog) (image : FileSystem) (target : Route) (i : ℕ) (bytes : List ℕ)
      (mode : ℕ) → IsPlaced marks log target i bytes mode → marks.aside target ≡ false
      → IsImage log image → (value_at image target ≡ Some (saved_value bytes mode))
      ⊎ Holds (with_firm marks i) (current log) (value_at image target) (marks.was target)
  pub synced : (marks : Marks) (log : CallLog) (image : FileSystem) (target : Route) (i : ℕ) (bytes : List ℕ)
      (mode : ℕ) → IsPlaced marks log target i bytes mode → IsSettledAt log target
      → IsImage log image → value_at image target ≡ Some (saved_value bytes mode)
