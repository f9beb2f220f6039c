-- The checks of a plan, each with the first sources that show it.
use Rattle.std.specs.Prelude.{ℕ, Bool, if◌then◌else◌, nat_lt, List, [], ◌∷◌, length}
use Rattle.std.specs.Prelude.{map, Option, Some, None, option_map, Result, Ok, Err}
use Rattle.std.specs.List.{list_any, find}
use Rattle.mc_text.specs.Routes.{Route, spelled_route, same_path}
use Rattle.tree_trait.specs.declared.calls.TreeError.{TreeError}
use Rattle.tree_trait.specs.declared.file_system.FileSystem.{FileSystem}
use Rattle.tree_trait.specs.Calls.{Stat}
use Rattle.tree_trait.specs.Refusals.{refusal_of}
use Rattle.resolving.specs.declared.error.ResolveError.TheVariants.{TooLong}
use Rattle.job_reports.specs.declared.job.Pair.{Pair}
use Rattle.op_plan.specs.declared.error.PlanError.{PlanError}
use Rattle.op_plan.specs.declared.error.PlanError.TheVariants.{NoSelection, Nested, Source, Target}
use Rattle.op_plan.specs.declared.error.PlanError.TheVariants.{SameFile, IntoItself, TwoToOne}
use Rattle.op_plan.specs.Meeting.{meet, first_two, first_across}
use Rattle.op_plan.specs.Answering.{and_then, unless}

abbrev pub pair : Route → Route → Pair
pair source target = record { source = source; target = target }

-- there is a source
abbrev pub some_source : List Route → Result (Unit {0}) PlanError
some_source [] = Err NoSelection
some_source (source ∷ sources) = Ok tt

-- no source is another or lies in it
abbrev pub nested_error : Route × Route → PlanError
nested_error (first, second) = Nested first second

abbrev pub none_nested : List Route → Result (Unit {0}) PlanError
none_nested sources = unless (option_map nested_error (first_two meet [] sources))

-- each source is there
abbrev pub there_or : Option TreeError → Route → Result (Unit {0}) PlanError → Result (Unit {0}) PlanError
there_or (Some e) source others = Err (Source source e)
there_or None source others = others

abbrev pub all_there : FileSystem → List Route → Result (Unit {0}) PlanError
all_there s [] = Ok tt
all_there s (source ∷ sources) = there_or (refusal_of s (Stat source)) source (all_there s sources)

-- the path of this name in a folder would have more than 4,096 bytes
abbrev pub is_too_long : Route → List ℕ → Bool
is_too_long folder name = nat_lt 4096 (length (spelled_route (name ∷ folder)))

abbrev pub target_in : Route → List ℕ → Result Route PlanError
target_in folder name = if is_too_long folder name then Err (Target TooLong) else Ok (name ∷ folder)

-- the paths of these names in a folder
abbrev pub targets_in : Route → List (List ℕ) → Result (List Route) PlanError
targets_in folder names = if list_any (is_too_long folder) names then Err (Target TooLong)
    else Ok (map (λ name. name ∷ folder) names)

-- each source with its target
abbrev pub paired_sources : List Route → List Route → List Pair
paired_sources [] targets = []
paired_sources (source ∷ sources) [] = []
paired_sources (source ∷ sources) (target ∷ targets) = pair source target ∷ paired_sources sources targets

abbrev pub sources_in : List Pair → List Route
sources_in = map (λ (pair : Pair). pair.source)

abbrev pub targets_from : List Pair → List Route
targets_from = map (λ (pair : Pair). pair.target)

-- no source is its own target
abbrev pub none_same : List Pair → Result (Unit {0}) PlanError
none_same pairs = unless (option_map (λ (pair : Pair). SameFile pair.source)
    (find (λ (pair : Pair). same_path pair.source pair.target) pairs))

-- no source is, holds or lies in a target
abbrev pub into_itself : Route × Route → PlanError
into_itself (source, target) = IntoItself source target

abbrev pub none_across : List Pair → Result (Unit {0}) PlanError
none_across pairs =
    unless (option_map into_itself (first_across meet (sources_in pairs) (targets_from pairs)))

-- no source is its own target, and none is, holds or lies in a target
abbrev pub none_into : List Pair → Result (Unit {0}) PlanError
none_into pairs = and_then (none_same pairs) (λ _. none_across pairs)

-- no two sources have one target; targets lie in one folder, so two that meet are one
abbrev pub two_to_one : Pair × Pair → PlanError
two_to_one (first, second) = TwoToOne first.source second.source

abbrev pub none_twice : List Pair → Result (Unit {0}) PlanError
none_twice pairs =
    unless (option_map two_to_one (first_two (λ (a b : Pair). meet a.target b.target) [] pairs))

-- the name of the folder's child that a path is or lies in
abbrev pub child_above : Route → Route → Option (List ℕ)
child_above folder [] = None
child_above folder (name ∷ holder) = if same_path folder holder then Some name else child_above folder holder
