-- The plan of a request: the first check that stands, or the job.
use Rattle.std.specs.Prelude.{ℕ, Bool, not, ◌&&◌, ◌==◌, nat_le, if◌then◌else◌, List, []}
use Rattle.std.specs.Prelude.{◌∷◌, length, chars, Option, Some, None, Result, Ok, Err}
use Rattle.std.specs.List.{list_any}
use Rattle.std.specs.Option.{option_map_or}
use Rattle.mc_text.specs.Routes.{Route}
use Rattle.tree_trait.specs.declared.calls.TreeError.{TreeError}
use Rattle.tree_trait.specs.declared.calls.TreeError.TheVariants.{Missing}
use Rattle.tree_trait.specs.declared.file_system.FileSystem.{FileSystem}
use Rattle.tree_trait.specs.Calls.{Stat}
use Rattle.tree_trait.specs.Refusals.{refusal_of}
use Rattle.resolving.specs.declared.error.ResolveError.TheVariants.{Tree}
use Rattle.tagging.specs.declared.glob.GlobPart.{GlobPart}
use Rattle.job_reports.specs.declared.job.Pair.{Pair}
use Rattle.op_plan.specs.declared.mask.MaskPiece.{MaskPiece}
use Rattle.op_plan.specs.declared.mask.MaskPiece.TheVariants.{Star}
use Rattle.op_plan.specs.declared.request.Request.{Request}
use Rattle.op_plan.specs.declared.request.Request.TheVariants as asked
use Rattle.op_plan.specs.declared.job.Job.{Job}
use Rattle.op_plan.specs.declared.job.Job.TheVariants.{Copy, Move, Delete, MakeFolder}
use Rattle.op_plan.specs.declared.job.Job.TheVariants.{SetMode, MakeLink, Save}
use Rattle.op_plan.specs.declared.error.PlanError.{PlanError}
use Rattle.op_plan.specs.declared.error.PlanError.TheVariants.{Target, TargetThere, BadLinkText}
use Rattle.op_plan.specs.Masks.{pieces_of, asks}
use Rattle.op_plan.specs.Naming.{pattern_in, chosen_sources, checked_name, names_for}
use Rattle.op_plan.specs.Destinations.{folder_prefix, last_part, folder_there, folder_at}
use Rattle.op_plan.specs.Answering.{and_then, or_bad_mask}
use Rattle.op_plan.specs.Checks.{some_source, none_nested, all_there, target_in}
use Rattle.op_plan.specs.Checks.{targets_in, paired_sources, none_into, none_twice}

-- the sources: at least one, of which none lies in another, and each is there
abbrev pub sources_of : FileSystem → List Route → Result (List Route) PlanError
sources_of s sources =
    and_then (some_source sources) (λ _.
    and_then (none_nested sources) (λ _. and_then (all_there s sources) (λ _. Ok sources)))

-- the sources, each with its target of this name in the folder, where none is or holds another
abbrev pub apart : List Pair → Result (List Pair) PlanError
apart pairs = and_then (none_into pairs) (λ _. and_then (none_twice pairs) (λ _. Ok pairs))

abbrev pub pairs_into : Route → List Route → List (List ℕ) → Result (List Pair) PlanError
pairs_into folder sources names =
    and_then (targets_in folder names) (λ targets. apart (paired_sources sources targets))

-- the folder that the whole text leads to, if its last part asks for nothing of a source's name
abbrev pub folder_for : FileSystem → List MaskPiece → Route → List ℕ → Option Route
folder_for s mask from to = if asks mask then None else folder_there s from to

-- each source under its own name in a folder
abbrev pub placed_there : Option (List GlobPart) → List Route → Route → Result (List Pair) PlanError
placed_there pattern sources folder =
    and_then (or_bad_mask (names_for pattern (Star ∷ []) sources)) (λ names. pairs_into folder sources names)

-- each source under the name that the mask makes of its own, in the folder that the front leads to, which is
-- looked for before the names are made
abbrev pub placed_masked : FileSystem → Option (List GlobPart) → List Route → List MaskPiece → Route → List ℕ
    → Result (List Pair) PlanError
placed_masked s pattern sources mask from prefix =
    and_then (folder_at s from prefix) (λ folder.
    and_then (or_bad_mask (names_for pattern mask sources)) (λ names. pairs_into folder sources names))

-- the pairs of a copy or a move
abbrev pub pairs_of : FileSystem → List Route → List ℕ → Route → List ℕ → Result (List Pair) PlanError
pairs_of s sources mask from to =
    and_then (sources_of s (chosen_sources (pattern_in mask) sources)) (λ left.
    option_map_or (placed_there (pattern_in mask) left)
    (folder_for s (pieces_of (chars (last_part to))) from to)
    (placed_masked s (pattern_in mask) left (pieces_of (chars (last_part to))) from (folder_prefix to)))

-- nothing stands at a path
abbrev pub nothing_there : Option TreeError → Route → Result Route PlanError
nothing_there None target = Err (TargetThere target)
nothing_there (Some Missing) target = Ok target
nothing_there (Some e) target = Err (Target (Tree target e))

-- the path of a folder or a link that is to be made
abbrev pub place_of : FileSystem → Route → List ℕ → Result Route PlanError
place_of s from to =
    and_then (or_bad_mask (checked_name (last_part to))) (λ name.
    and_then (folder_at s from (folder_prefix to)) (λ folder.
    and_then (target_in folder name) (λ target. nothing_there (refusal_of s (Stat target)) target)))

-- a link may say this: 1 to 4,095 bytes and no NUL
abbrev pub is_link_text : List ℕ → Bool
is_link_text text =
    (not (length text == 0) && nat_le (length text) 4095) && not (list_any (λ byte. byte == 0) text)

abbrev pub link_of : FileSystem → Route → List ℕ → List ℕ → Result Job PlanError
link_of s from to text = and_then (place_of s from to) (λ path.
    if is_link_text text then Ok (MakeLink path text) else Err BadLinkText)

abbrev pub plan_of : FileSystem → Request → Result Job PlanError
plan_of s (asked.Copy sources mask from to) =
    and_then (pairs_of s sources mask from to) (λ pairs. Ok (Copy pairs))
plan_of s (asked.Move sources mask from to) =
    and_then (pairs_of s sources mask from to) (λ pairs. Ok (Move pairs))
plan_of s (asked.Delete sources) = and_then (sources_of s sources) (λ left. Ok (Delete left))
plan_of s (asked.MakeFolder from to) = and_then (place_of s from to) (λ path. Ok (MakeFolder path))
plan_of s (asked.SetMode sources mode) = and_then (sources_of s sources) (λ left. Ok (SetMode left mode))
plan_of s (asked.MakeLink from to text) = link_of s from to text
plan_of s (asked.Save path bytes) = Ok (Save path bytes)
