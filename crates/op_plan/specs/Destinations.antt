-- Where a typed text leads.
use Rattle.std.specs.Prelude.{ℕ, Bool, ◌==◌, if◌then◌else◌, List, [], ◌∷◌, Option, Result, Ok, Err}
use Rattle.std.specs.Result.{result_ok}
use Rattle.std.specs.List.{list_any}
use Rattle.mc_text.specs.Routes.{Route, is_empty}
use Rattle.tree_trait.specs.declared.file_system.FileSystem.{FileSystem}
use Rattle.resolving.specs.declared.error.ResolveError.{ResolveError}
use Rattle.resolving.specs.declared.walking.Wanted.TheVariants.{FolderAlone}
use Rattle.resolving.specs.Resolution.{resolved_path}
use Rattle.op_plan.specs.declared.error.PlanError.{PlanError}
use Rattle.op_plan.specs.declared.error.PlanError.TheVariants.{Target}

abbrev pub has_slash : List ℕ → Bool
has_slash = list_any (λ byte. byte == 47)

-- what stands behind the last slash
abbrev pub last_part : List ℕ → List ℕ
last_part [] = []
last_part (byte ∷ text) = if has_slash (byte ∷ text) then last_part text else byte ∷ text

-- what stands before the last slash
abbrev pub prefix_part : List ℕ → List ℕ
prefix_part [] = []
prefix_part (byte ∷ text) = if has_slash text then byte ∷ prefix_part text else []

-- the text of the folder: what stands before the last slash, and the root's slash where nothing else does
abbrev pub folder_prefix : List ℕ → List ℕ
folder_prefix text =
    if has_slash text then (if is_empty (prefix_part text) then 47 ∷ [] else prefix_part text) else []

-- the folder that a text leads to, if it leads to one
abbrev pub folder_there : FileSystem → Route → List ℕ → Option Route
folder_there s from to = result_ok (resolved_path s FolderAlone from to)

-- the folder of a target, or why there is none
abbrev pub in_target : Result Route ResolveError → Result Route PlanError
in_target (Ok folder) = Ok folder
in_target (Err e) = Err (Target e)

abbrev pub folder_at : FileSystem → Route → List ℕ → Result Route PlanError
folder_at s from prefix = in_target (resolved_path s FolderAlone from prefix)
