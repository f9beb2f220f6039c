-- The name of a part: the first of a thousand that is free beside the target.
use Rattle.std.specs.Prelude.{◌≡◌, ◌≢◌, ℕ, ◌<◌, ◌≤◌, List, [], ◌∷◌, ◌++◌, length, Option, Some, None}
use Rattle.std.specs.Fmt.{decimal}
use Rattle.mc_text.specs.Routes.{Route, spelled_route}
use Rattle.tree_trait.specs.declared.file_system.FileSystem.{FileSystem}
use Rattle.tree_trait.specs.declared.calls.TreeError.TheVariants as refused
use Rattle.tree_trait.specs.Calls.{Stat}
use Rattle.tree_trait.specs.Refusals.{refusal_of}
use Rattle.job_reports.specs.declared.report.Cause.{Cause}
use Rattle.job_reports.specs.declared.report.Cause.TheVariants.{Tree, TargetKind, SpecialSource, TooDeep}
use Rattle.job_reports.specs.declared.report.Cause.TheVariants.{PartTaken, TooLong, Unnamed, Changed, Memory}
use Rattle.copy_file.specs.Copying.{Places}
use Rattle.job_reports.specs.Paths.{folder_of}
use Rattle.job_reports.specs.Reading.{IsRefusedWith, TargetStops}

-- `.mc.`, the job's number, a dot, k, and `.part`
abbrev pub part_name : ℕ → ℕ → List ℕ
part_name job k = 46 ∷ 109 ∷ 99 ∷ 46 ∷ decimal job ++ 46 ∷ decimal k ++ 46 ∷ 112 ∷ 97 ∷ 114 ∷ 116 ∷ []

-- a path has at most so many bytes (PATH_MAX of 4,096)
abbrev pub IsShort : Route → Type 0
IsShort path = length (spelled_route path) ≤ 4096

-- The path of a part may be taken: it is neither the target nor the source, no job has a claim on it, and
-- nothing stands there. Where a path would be too long nothing can stand, and no job can have a claim.
pub record IsFree (s : FileSystem) (claims_none : Route → Type 0) (p : Places) (path : Route) : Type 0 where
  pub apart : path ≢ p.target
  pub unread : path ≢ p.source
  pub unclaimed : IsShort path → claims_none path
  pub missing : IsShort path → refusal_of s (Stat path) ≡ Some refused.Missing

-- the path with the number k: beside the target
abbrev pub part_path : Places → ℕ → Route
part_path p k = part_name p.job k ∷ folder_of p.target

-- no number below k gives a path that may be taken
abbrev pub NoneFree : FileSystem → (Route → Type 0) → Places → ℕ → Type 0
NoneFree s claims_none p k = (j : ℕ) → j < k → IsFree s claims_none p (part_path p j) → ⊥

-- the number k gives the first path that may be taken
pub record IsFirstFree (s : FileSystem) (claims_none : Route → Type 0) (p : Places) (k : ℕ) : Type 0 where
  pub few : k < 1000
  pub free : IsFree s claims_none p (part_path p k)
  pub first : NoneFree s claims_none p k

-- The trouble of the names of a part: one that may be taken but for what stands there can't be looked at,
-- the first that may be taken gives a path that is too long, or none may be taken.
abbrev pub NameStops : FileSystem → (Route → Type 0) → Places → Cause → Option Route → Type 0
NameStops s claims_none p (Tree e) path =
    (k : ℕ) × (k < 1000) × NoneFree s claims_none p k × (path ≡ Some (part_path p k))
    × IsRefusedWith s (Stat (part_path p k)) e × (e ≢ refused.Missing)
NameStops s claims_none p TooLong path =
    (path ≡ Some p.source) × ((k : ℕ) × IsFirstFree s claims_none p k × (IsShort (part_path p k) → ⊥))
NameStops s claims_none p PartTaken path = (path ≡ Some p.target) × NoneFree s claims_none p 1000
NameStops s claims_none p Memory path = path ≡ None
NameStops s claims_none p (TargetKind kind) path = ⊥
NameStops s claims_none p SpecialSource path = ⊥
NameStops s claims_none p TooDeep path = ⊥
NameStops s claims_none p (Unnamed count) path = ⊥
NameStops s claims_none p (Changed said got) path = ⊥

-- what the choice gives: the first path that may be taken
abbrev pub IsChosen : FileSystem → (Route → Type 0) → Places → Route → Type 0
IsChosen s claims_none p path = (k : ℕ) × (path ≡ part_path p k) × IsFirstFree s claims_none p k

-- the path with this number, or that it is too long
abbrev pub IsPathOf : Places → ℕ → Option Route → Type 0
IsPathOf p k (Some path) = (path ≡ part_path p k) × IsShort path
IsPathOf p k None = IsShort (part_path p k) → ⊥

-- a path that may be taken, or that this one may not
abbrev pub IsTakenPath : FileSystem → (Route → Type 0) → Places → Route → Option Route → Type 0
IsTakenPath s claims_none p path (Some free) = (free ≡ path) × IsFree s claims_none p path
IsTakenPath s claims_none p path None = IsFree s claims_none p path → ⊥

-- the path with this number, where it may be taken, or that it may not
abbrev pub IsTaken : FileSystem → (Route → Type 0) → Places → ℕ → Option Route → Type 0
IsTaken s claims_none p k free = IsTakenPath s claims_none p (part_path p k) free

-- the trouble of the look at a part's path
abbrev pub PathStops : FileSystem → Route → Cause → Option Route → Type 0
PathStops s look cause path = TargetStops s look cause path

-- the trouble of the number k: what stands at its path can't be looked at, or the path may
-- be taken, and is too long
abbrev pub TryStops : FileSystem → (Route → Type 0) → Places → ℕ → Cause → Option Route → Type 0
TryStops s claims_none p k TooLong path =
    (path ≡ Some p.source) × IsFree s claims_none p (part_path p k) × (IsShort (part_path p k) → ⊥)
TryStops s claims_none p k (Tree e) path = PathStops s (part_path p k) (Tree e) path
TryStops s claims_none p k Memory path = path ≡ None
TryStops s claims_none p k (TargetKind kind) path = ⊥
TryStops s claims_none p k SpecialSource path = ⊥
TryStops s claims_none p k TooDeep path = ⊥
TryStops s claims_none p k (Unnamed count) path = ⊥
TryStops s claims_none p k PartTaken path = ⊥
TryStops s claims_none p k (Changed said got) path = ⊥
