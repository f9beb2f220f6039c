-- Which runs are refused as their paths can't be read, and which are not.
use Rattle.std.specs.Prelude.{◌≡◌, ◌⊎◌, ℕ, ⊤, Option, Some, None, IsSome}
use Rattle.tree_trait.specs.declared.file_system.FileSystem.{FileSystem}
use Rattle.tree_trait.specs.Change.{CallLog, current}
use Rattle.tree_trait.specs.Answers.{HasRisen}
use Rattle.mc_desk.specs.declared.starts.Start.{Start}
use Rattle.mc_desk.specs.declared.starts.StartMode.{StartMode}
use Rattle.mc_desk.specs.declared.starts.StartMode.TheVariants.{Panels, View}
use Rattle.mc_desk.specs.Starts.{CanStart, file_refusal, path_refusal}
use Rattle.mc_main.specs.Statuses.{IsStatusOr}

-- one of the paths leads to no folder that can be listed, or to no file that can be read
abbrev pub CantRead : FileSystem → StartMode → Type 0
CantRead s (Panels left right) = IsSome (path_refusal s left) ⊎ IsSome (path_refusal s right)
CantRead s (View path) = IsSome (file_refusal s path)

abbrev pub CantStart : CallLog → Start → Type 0
CantStart log start = CantRead (current log) start.mode

-- a start is refused where a path leads to nothing that can be read so, or where the tree failed meanwhile
abbrev pub MayRefuseStart : CallLog → Option Start → ℕ → ℕ → Type 0
MayRefuseStart log None faults faults_after = ⊥
MayRefuseStart log (Some start) faults faults_after = CantStart log start ⊎ HasRisen faults faults_after

-- and it is refused there
abbrev pub RefusesStart : CallLog → Option Start → ℕ → Type 0
RefusesStart log None status = ⊤
RefusesStart log (Some start) status = CantStart log start → IsStatusOr 2 status

-- Where the words name paths that lead to folders which can be listed, or to a file which can be read, and
-- no device failed, the status is 0, or 5 where memory ran out.
abbrev pub IsComplete : CallLog → Option Start → ℕ → Type 0 → Type 0
IsComplete log None status failed = ⊤
IsComplete log (Some start) status failed =
    CanStart (current log) start.mode → (failed → ⊥) → (status ≡ 0) ⊎ (status ≡ 5)
