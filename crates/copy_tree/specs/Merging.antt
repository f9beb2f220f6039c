-- What stands at the target of a folder that is copied, and what can be merged with it.
use Rattle.std.specs.Prelude.{◌≡◌, ◌⊎◌, ℕ, ◌∷◌, ⊤, Bool, true, false, List, Result, Ok, Err, None}
use Rattle.mc_text.specs.declared.kind.Kind.{Kind}
use Rattle.mc_text.specs.declared.kind.Kind.TheVariants as kind
use Rattle.tree_trait.specs.declared.file_system.FileSystem.{FileSystem}
use Rattle.tree_trait.specs.Calls.{Stat}
use Rattle.tree_trait.specs.Change.{found_node}
use Rattle.tree_trait.specs.CrashImages.{Among}
use Rattle.tree_trait.specs.FileSystem.{node}
use Rattle.tree_trait.specs.Refusals.{refusal_of}
use Rattle.job_reports.specs.declared.job.Pair.{Pair}
use Rattle.job_reports.specs.declared.report.Cause.TheVariants.{TargetKind}
use Rattle.job_reports.specs.declared.report.Trouble.{Trouble}
use Rattle.job_reports.specs.Reading.{TargetStops}
use Rattle.job_reports.specs.Stops.{IsTroubleWithPath, out_of_memory_at}
use Rattle.copy_tree.specs.declared.copy.Stage.{Stage}
use Rattle.copy_tree.specs.declared.copy.Stage.TheVariants.{Begin, Going}
use Rattle.copy_tree.specs.declared.looking.Onto.{Onto}
use Rattle.copy_tree.specs.declared.looking.Onto.TheVariants as onto
use Rattle.copy_tree.specs.Asking.{IsFree}
use Rattle.copy_tree.specs.Taking.{AreShort, ChildStops, FolderStops, IsOnFolder, IsShort, Lists}

-- a copy that has changed nothing yet merges a folder with a folder
abbrev pub joins_folders : Stage → Kind → Bool
joins_folders Begin kind.Folder = true
joins_folders Begin kind.File = false
joins_folders Begin kind.Link = false
joins_folders Begin kind.Other = false
joins_folders Going found = false

-- this stands at the target
abbrev pub IsOnto : FileSystem → Pair → Onto → Type 0
IsOnto s pair onto.Nothing = IsFree s pair
IsOnto s pair onto.Folder = IsOnFolder s pair

-- where a folder is merged the copy has changed nothing yet
abbrev pub IsFreshOnto : Stage → Onto → Type 0
IsFreshOnto stage onto.Nothing = ⊤
IsFreshOnto stage onto.Folder = stage ≡ Begin

-- the trouble of what stands there: the look at it is refused, or it is no folder that can be merged with
abbrev pub OntoStops : FileSystem → Stage → Pair → Trouble → Type 0
OntoStops s stage pair t =
    TargetStops s pair.target t.cause t.path
    ⊎ ((refusal_of s (Stat pair.target) ≡ None)
    × IsTroubleWithPath (TargetKind (node s (found_node s pair.target)).kind) pair.target t
    × (joins_folders stage (node s (found_node s pair.target)).kind ≡ false))

-- something of this kind stands there
abbrev pub IsOntoKind : Stage → Pair → Kind → Result Onto Trouble → Type 0
IsOntoKind stage pair found (Ok onto.Nothing) = ⊥
IsOntoKind stage pair found (Ok onto.Folder) = (stage ≡ Begin) × (found ≡ kind.Folder)
IsOntoKind stage pair found (Err t) =
    IsTroubleWithPath (TargetKind found) pair.target t × (joins_folders stage found ≡ false)

-- what has this name can be told, with its target, or the trouble of it
abbrev pub IsChildOr : Pair → List ℕ → Result (Unit {0}) Trouble → Type 0
IsChildOr pair name (Ok it) = IsShort (name ∷ pair.source) × IsShort (name ∷ pair.target)
IsChildOr pair name (Err t) = ChildStops pair name t ⊎ (t ≡ out_of_memory_at false)

-- all that lies in the folder can be told, or the trouble of something that can't
abbrev pub AreChildrenOr : Pair → List (List ℕ) → Result (Unit {0}) Trouble → Type 0
AreChildrenOr pair names (Ok it) = AreShort pair names
AreChildrenOr pair names (Err t) =
    ((name : List ℕ) × Among names name × ChildStops pair name t) ⊎ (t ≡ out_of_memory_at false)

-- The trouble of a folder whose names are wanted for a merge: it can't be listed, or not all its names can
-- be shown; or something in it has too long a path, or would at its target; or there is no memory.
abbrev pub NamesStop : FileSystem → Pair → Trouble → Type 0
NamesStop s pair t =
    FolderStops s pair.source t
    ⊎ ((name : List ℕ) × (names : List (List ℕ)) × Lists s pair.source names × Among names name
    × ChildStops pair name t)
    ⊎ (t ≡ out_of_memory_at false)
