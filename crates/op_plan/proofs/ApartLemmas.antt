-- Sources that have nothing to do with the folder of the targets have nothing to do with a target.
use Rattle.std.proofs.Common.{◌≡◌, ℕ, Bool, false, List, [], ◌∷◌, length, map, None, Ok, refl, ap, ◌∙◌, arith}
use Rattle.std.specs.Prelude.{◌||◌, option_map}
use Rattle.std.specs.Option.{option_map_or}
use Rattle.std.specs.List.{list_any, find}
use Rattle.std.specs.Str.{bytes_eq}
use Rattle.std.proofs.lemmas.Bool.{both_ways, or_parts, or_right, false_from_ne_true}
use Rattle.mc_text.specs.Routes.{Route, same_path, is_prefix}
use Rattle.job_reports.specs.declared.job.Pair.{Pair}
use Rattle.op_plan.specs.declared.error.PlanError.TheVariants.{SameFile}
use Rattle.op_plan.specs.Meeting.{meet, first_across, with_first}
use Rattle.op_plan.specs.Answering.{and_then, unless}
use Rattle.op_plan.specs.Checks.{child_above, sources_in, targets_from, none_across, none_into, into_itself}
use Rattle.op_plan.proofs.Paths.{same-true, prefix-from}
use Rattle.op_plan.proofs.ChildLemmas.{child-outside, across-apart}
use Rattle.op_plan.proofs.CheckLemmas.{find-none}

-- one source and all targets
source_apart : (folder source : Route) (names : List (List ℕ)) → meet source folder ≡ false → list_any (meet source) (map (λ name. name ∷ folder) names) ≡ false
source_apart folder source names h =
    let parts = or_parts (is_prefix source folder) (is_prefix folder source) h in
    across-apart folder source names (λ n. list_any (bytes_eq n) names) (λ n. refl)
    (ap (λ (b : Bool). b || option_map_or (λ n. list_any (bytes_eq n) names) (child_above folder source) false) parts.0
    ∙ ap (λ o. option_map_or (λ n. list_any (bytes_eq n) names) o false) (child-outside folder source parts.1))

all_apart : (folder : Route) (names : List (List ℕ)) (pairs : List Pair) → list_any (λ (pair : Pair). meet pair.source folder) pairs ≡ false
    → list_any (λ source. list_any (meet source) (map (λ name. name ∷ folder) names)) (sources_in pairs) ≡ false
all_apart folder names [] h = refl
all_apart folder names (pair ∷ pairs) h =
    let parts = or_parts (meet pair.source folder) (list_any (λ (pair : Pair). meet pair.source folder) pairs) h in
    ap (λ (b : Bool). b || list_any (λ source. list_any (meet source) (map (λ name. name ∷ folder) names)) (sources_in pairs)) (source_apart folder pair.source names parts.0)
    ∙ all_apart folder names pairs parts.1

-- what no source meets is found by none
none_found : (sources targets : List Route) → list_any (λ source. list_any (meet source) targets) sources ≡ false → first_across meet sources targets ≡ None
none_found [] targets h = refl
none_found (source ∷ sources) targets h =
    let parts = or_parts (list_any (meet source) targets) (list_any (λ source. list_any (meet source) targets) sources) h in
    ap (λ o. with_first source o (first_across meet sources targets)) (find-none (meet source) targets parts.0) ∙ none_found sources targets parts.1

-- a source that is its own target lies in the folder
same_none : (folder : Route) (names : List (List ℕ)) (pairs : List Pair) → targets_from pairs ≡ map (λ name. name ∷ folder) names
    → list_any (λ (pair : Pair). meet pair.source folder) pairs ≡ false → find (λ (pair : Pair). same_path pair.source pair.target) pairs ≡ None
same_none folder names [] e h = refl
same_none folder [] (pair ∷ pairs) e h = absurd (let size = ap length e in omega (arith, size))
same_none folder (name ∷ names) (pair ∷ pairs) e h =
    let parts = or_parts (meet pair.source folder) (list_any (λ (pair : Pair). meet pair.source folder) pairs) h in
    let whole : pair.target ∷ targets_from pairs ≡ (name ∷ folder) ∷ map (λ name. name ∷ folder) names = e in
    let target : pair.target ≡ name ∷ folder = cc in
    let rest : targets_from pairs ≡ map (λ name. name ∷ folder) names = cc in
    let differs : same_path pair.source pair.target ≡ false =
    false_from_ne_true (same_path pair.source pair.target)
    (λ same. both_ways (meet pair.source folder) parts.0
    (or_right (is_prefix pair.source folder) (is_prefix folder pair.source) (prefix-from folder pair.source (name ∷ []) (same-true pair.source pair.target same ∙ target)))) in
    rw differs (same_none folder names pairs rest parts.1)

pub sources_apart : (folder : Route) (names : List (List ℕ)) (pairs : List Pair) → targets_from pairs ≡ map (λ name. name ∷ folder) names
    → list_any (λ (pair : Pair). meet pair.source folder) pairs ≡ false → list_any (λ source. list_any (meet source) (targets_from pairs)) (sources_in pairs) ≡ false
sources_apart folder names pairs e h =
    ap (λ (targets : List Route). list_any (λ source. list_any (meet source) targets) (sources_in pairs)) e ∙ all_apart folder names pairs h

pub none_into_apart : (folder : Route) (names : List (List ℕ)) (pairs : List Pair) → targets_from pairs ≡ map (λ name. name ∷ folder) names
    → list_any (λ (pair : Pair). meet pair.source folder) pairs ≡ false → none_into pairs ≡ Ok tt
none_into_apart folder names pairs e h =
    ap (λ o. and_then (unless (option_map (λ (pair : Pair). SameFile pair.source) o)) (λ _. none_across pairs)) (same_none folder names pairs e h)
    ∙ ap (λ o. unless (option_map into_itself o)) (none_found (sources_in pairs) (targets_from pairs) (sources_apart folder names pairs e h))
