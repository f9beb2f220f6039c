-- The looks before a part is made: which mode the file takes, and the trouble that a look comes to.
use Rattle.std.specs.Prelude.{◌≡◌, ◌⊎◌, ℕ, Bool, true, false, List, []}
use Rattle.std.specs.Prelude.{◌∷◌, Option, Some, None, Result, Ok, Err}
use Rattle.mc_text.specs.Routes.{Route}
use Rattle.mc_text.specs.declared.kind.Kind.{Kind}
use Rattle.mc_text.specs.declared.kind.Kind.TheVariants.{File, Folder, Link, Other}
use Rattle.tree_trait.specs.declared.file_system.FileSystem.{FileSystem}
use Rattle.tree_trait.specs.declared.calls.Meta.{Meta}
use Rattle.tree_trait.specs.declared.calls.TreeError.TheVariants as refused
use Rattle.tree_trait.specs.Calls.{Stat}
use Rattle.tree_trait.specs.Refusals.{refusal_of}
use Rattle.job_reports.specs.declared.report.Cause.{Cause}
use Rattle.job_reports.specs.declared.report.Cause.TheVariants.{Tree, TargetKind, SpecialSource, TooDeep}
use Rattle.job_reports.specs.declared.report.Cause.TheVariants.{PartTaken, TooLong, Unnamed, Changed, Memory}
use Rattle.job_reports.specs.declared.report.Trouble.{Trouble}
use Rattle.job_reports.specs.Paths.{folder_of}
use Rattle.job_reports.specs.Stops.{IsTroubleWithPath}
use Rattle.copy_file.specs.Looking.{AllPass, IsFirstRefused, file_at}

-- the mode of a file that is new
abbrev pub new_file_mode : ℕ
new_file_mode = 0o644

-- The mode of a file that is saved over such a thing: a file's mode stays, and a link gives way to a new
-- file. A folder and a special thing don't give way.
abbrev pub mode_over : Kind → ℕ → Option ℕ
mode_over File mode = Some mode
mode_over Link mode = Some new_file_mode
mode_over Folder mode = None
mode_over Other mode = None

-- the mode that a file takes which is saved there
abbrev pub TakesMode : FileSystem → Route → ℕ → Type 0
TakesMode s target mode =
    ((refusal_of s (Stat target) ≡ Some refused.Missing) × (mode ≡ new_file_mode))
    ⊎ ((refusal_of s (Stat target) ≡ None)
    × (mode_over (file_at s target).kind (file_at s target).mode ≡ Some mode))

-- the looks, in their order: the target, which may be missing, and its folder
abbrev pub looks_at : Route → List (Route × Bool)
looks_at target = (target, true) ∷ (folder_of target, false) ∷ []

-- The trouble of the looks: one is refused, or none is, and what stands at the target doesn't give way.
abbrev pub LookStops : FileSystem → Route → Cause → Option Route → Type 0
LookStops s target (Tree e) path =
    (look : Route) × (path ≡ Some look) × IsFirstRefused s (looks_at target) look e
LookStops s target (TargetKind kind) path =
    (path ≡ Some target) × AllPass s (looks_at target) × (refusal_of s (Stat target) ≡ None)
    × (kind ≡ (file_at s target).kind)
    × (mode_over kind (file_at s target).mode ≡ None)
LookStops s target Memory path = path ≡ None
LookStops s target SpecialSource path = ⊥
LookStops s target TooDeep path = ⊥
LookStops s target (Unnamed count) path = ⊥
LookStops s target PartTaken path = ⊥
LookStops s target TooLong path = ⊥
LookStops s target (Changed said got) path = ⊥

-- what the look at the target comes to
abbrev pub Judges : Route → Option Meta → Result ℕ Trouble → Type 0
Judges target None (Ok mode) = mode ≡ new_file_mode
Judges target None (Err trouble) = ⊥
Judges target (Some meta) (Ok mode) = mode_over meta.kind meta.mode ≡ Some mode
Judges target (Some meta) (Err trouble) =
    (mode_over meta.kind meta.mode ≡ None) × IsTroubleWithPath (TargetKind meta.kind) target trouble
