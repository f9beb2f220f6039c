-- Sources that lie side by side in one folder, and keep their names in another one beside it.
use Rattle.std.proofs.Common.{◌≡◌, ◌≢◌, ℕ, zero, suc, ◌<◌, Bool, true, false, List, [], ◌∷◌, ◌++◌, length, map, get_or, Option, Some, None, Result, Ok, Err, refl, sym, ap, subst, ◌∙◌, inl, inr, arith}
use Rattle.std.specs.Prelude.{◌||◌, not, is_some, IfSome, IfOk, IfErr, OnOk}
use Rattle.std.specs.Option.{option_map_or}
use Rattle.std.specs.List.{All, list_any}
use Rattle.std.proofs.lemmas.Bool.{both_ways, or_cases, or_left, or_right, false_from_ne_true, false≢true}
use Rattle.mc_text.specs.Routes.{Route, is_prefix, last_of}
use Rattle.tagging.specs.declared.glob.GlobPart.{GlobPart}
use Rattle.resolving.specs.declared.error.ResolveError.TheVariants.{TooLong}
use Rattle.job_reports.specs.declared.job.Pair.{Pair}
use Rattle.op_plan.specs.declared.mask.MaskPiece.TheVariants.{Star}
use Rattle.op_plan.specs.declared.error.PlanError.{PlanError}
use Rattle.op_plan.specs.declared.error.PlanError.TheVariants.{Target, Memory}
use Rattle.op_plan.specs.Meeting.{meet, has_two}
use Rattle.op_plan.specs.Answering.{and_then, or_bad_mask, Plans, is_fault, is_memory}
use Rattle.op_plan.specs.Checks.{is_too_long, sources_in, targets_from, pair, paired_sources}
use Rattle.op_plan.specs.Planning.{apart, pairs_into, placed_there}
use Rattle.op_plan.specs.Asking.{ArePlaced}
use Rattle.op_plan.specs.Naming.{all_of, names_for, target_name}
use Rattle.op_plan.specs.Soundness.{ArePairsApart}
use Rattle.op_plan.specs.Digests.{name_of, IsChild, LieApart, LieBeside}
use Rattle.op_plan.proofs.Paths.{prefix-way, prefix-from}
use Rattle.op_plan.proofs.AskingLemmas.{placed_pairs}
use Rattle.op_plan.proofs.ApartLemmas.{none_into_apart, sources_apart}
use Rattle.op_plan.proofs.CheckLemmas.{twice-none}
use Rattle.op_plan.proofs.Siblings.{siblings-two}
use Rattle.op_plan.proofs.DigestLemmas.{children-are}

-- ---- the last name

pub name_last : (path : Route) (name : List ℕ) → Some name ≡ last_of path → name_of path ≡ name
name_last [] name e = cc
name_last (own ∷ folder) name e = cc

pub no_last : (path : Route) → None ≡ last_of path → path ≡ []
no_last [] e = refl
no_last (own ∷ folder) e = cc

pub child_some : (folder path : Route) → IsChild folder path → path ≢ []
child_some folder [] child none = let size = ap length child.path_is in omega (arith, size)
child_some folder (name ∷ rest) child none = let size = ap length none in omega (arith, size)

pub any_at : {X : Type 0} (p : X → Bool) (xs : List X) (k : ℕ) (d : X) → k < length xs → p (get_or xs k d) ≡ true → list_any p xs ≡ true
any_at p [] k d below h = absurd (omega (arith, below))
any_at p (x ∷ xs) zero d below h = or_left (p x) (list_any p xs) h
any_at p (x ∷ xs) (suc k) d below h = or_right (p x) (list_any p xs) (any_at p xs k d (omega (arith, below)) h)

pub any_name : (p : List ℕ → Bool) (paths : List Route) → list_any p (map name_of paths) ≡ list_any (λ path. p (name_of path)) paths
any_name p [] = refl
any_name p (path ∷ paths) = ap (λ (b : Bool). p (name_of path) || b) (any_name p paths)

-- ---- pairs

-- a source with the target of its own name
abbrev pub kept : Route → Route → Pair
kept folder source = pair source (name_of source ∷ folder)

kept_sources : (folder : Route) (sources : List Route) → sources_in (map (kept folder) sources) ≡ sources
kept_sources folder [] = refl
kept_sources folder (source ∷ sources) = ap (λ (l : List Route). source ∷ l) (kept_sources folder sources)

kept_targets : (folder : Route) (sources : List Route) → targets_from (map (kept folder) sources) ≡ map (λ name. name ∷ folder) (map name_of sources)
kept_targets folder [] = refl
kept_targets folder (source ∷ sources) = ap (λ (l : List Route). (name_of source ∷ folder) ∷ l) (kept_targets folder sources)

kept_paired : (folder : Route) (sources : List Route) → paired_sources sources (map (λ name. name ∷ folder) (map name_of sources)) ≡ map (kept folder) sources
kept_paired folder [] = refl
kept_paired folder (source ∷ sources) = ap (λ (l : List Pair). kept folder source ∷ l) (kept_paired folder sources)

-- what lies in a folder beside another one has nothing to do with that
child_beside : (folder other : Route) (name : List ℕ) → meet folder other ≡ false → meet (name ∷ folder) other ≡ false
child_beside folder other name h =
    false_from_ne_true (meet (name ∷ folder) other)
    (λ met. elim (or_cases (is_prefix (name ∷ folder) other) (is_prefix other (name ∷ folder)) met) [
      | inl within ↦ both_ways (meet folder other) h (or_left (is_prefix folder other) (is_prefix other folder) (below (prefix-way (name ∷ folder) other within)))
      | inr above ↦ both_ways (meet folder other) h (over (prefix-way other (name ∷ folder) above).0 (prefix-way other (name ∷ folder) above).1)
    ])
  where
    below : ((rest : Route) × (other ≡ rest ++ name ∷ folder)) → is_prefix folder other ≡ true
    below (rest, e) = prefix-from folder other (rest ++ name ∷ []) (e ∙ sym (joined rest))
      where
        joined : (rest : Route) → (rest ++ name ∷ []) ++ folder ≡ rest ++ name ∷ folder
        joined [] = refl
        joined (r ∷ rest) = ap (λ (l : Route). r ∷ l) (joined rest)

    over : (rest : Route) → name ∷ folder ≡ rest ++ other → meet folder other ≡ true
    over [] e = or_left (is_prefix folder other) (is_prefix other folder) (prefix-from folder other (name ∷ []) (sym e))
    over (r ∷ rest) e = let tail : folder ≡ rest ++ other = cc in or_right (is_prefix folder other) (is_prefix other folder) (prefix-from other folder rest tail)

none_meets : (folder other : Route) (sources : List Route) → All (IsChild folder) sources → meet folder other ≡ false
    → list_any (λ (pair : Pair). meet pair.source other) (map (kept other) sources) ≡ false
none_meets folder other [] at h = refl
none_meets folder other (source ∷ sources) at h =
    ap (λ (b : Bool). b || list_any (λ (pair : Pair). meet pair.source other) (map (kept other) sources))
    (ap (λ (r : Route). meet r other) (at 0 source (omega arith)).path_is ∙ child_beside folder other (name_of source) h)
    ∙ none_meets folder other sources (λ k d below. at (suc k) d (omega arith)) h

pub kept_apart : (other : Route) (sources : List Route) → sources ≢ [] → LieBeside other sources → ArePairsApart (map (kept other) sources)
kept_apart other sources some beside =
    let pairs = map (kept other) sources in
    let names = map name_of sources in
    let lie = beside.lie in
    let at : targets_from pairs ≡ map (λ name. name ∷ other) names = kept_targets other sources in
    let own : has_two meet (map (λ name. name ∷ beside.folder) names) ≡ false = sym (ap (has_two meet) (children-are beside.folder sources lie.children)) ∙ lie.apart in
    record {
      some = λ none. some (sym (kept_sources other sources) ∙ ap sources_in none);
      sources = ap (has_two meet) (kept_sources other sources) ∙ lie.apart;
      targets = ap (has_two meet) at ∙ (siblings-two other names ∙ (sym (siblings-two beside.folder names) ∙ own));
      across = sources_apart other names pairs at (none_meets beside.folder other sources lie.children beside.beside);
    }

-- they are the pairs that the plan has
pub kept_planned : (other : Route) (sources : List Route) → sources ≢ [] → LieBeside other sources → list_any (is_too_long other) (map name_of sources) ≡ false
    → pairs_into other sources (map name_of sources) ≡ Ok (map (kept other) sources)
kept_planned other sources some beside fits =
    let pairs = map (kept other) sources in
    let names = map name_of sources in
    let into = none_into_apart other names pairs (kept_targets other sources) (none_meets beside.folder other sources beside.lie.children beside.beside) in
    let twice = twice-none pairs (kept_apart other sources some beside).targets in
    rw fits (ap apart (kept_paired other sources) ∙ rw (into, twice) refl)

pub kept_refused : (other : Route) (sources : List Route) → list_any (is_too_long other) (map name_of sources) ≡ true
    → pairs_into other sources (map name_of sources) ≡ Err (Target TooLong)
kept_refused other sources long = rw long refl

-- ---- what a call makes of them

pub all_yielded : {X : Type 0} (yielded xs : List X) → map (λ x. x) yielded ≡ xs → yielded ≡ xs
all_yielded {X} yielded xs e = sym (same yielded) ∙ e
  where
    same : (l : List X) → map (λ x. x) l ≡ l
    same [] = refl
    same (x ∷ l) = ap (λ (m : List X). x ∷ m) (same l)

pub beside_planned : (other : Route) (sources : List Route) (made : Result (List Pair) PlanError) → sources ≢ [] → LieBeside other sources
    → IfOk made (λ pairs. pairs ≡ map (kept other) sources) → OnOk made (list_any (is_too_long other) (map name_of sources) ≡ false)
    → IfErr made (λ e. e ≢ Memory → (e ≡ Target TooLong) × (list_any (is_too_long other) (map name_of sources) ≡ true))
    → Plans (pairs_into other sources (map name_of sources)) made
beside_planned other sources (Ok pairs) some beside is fits long = kept_planned other sources some beside fits ∙ ap (λ (l : List Pair). Ok l) (sym is)
beside_planned other sources (Err e) some beside is fits long = λ calm.
    let refused = long (λ memory. false≢true (sym calm ∙ ap (λ (x : PlanError). is_fault x || is_memory x) memory)) in
    kept_refused other sources refused.1 ∙ ap (λ (x : PlanError). Err x) (sym refused.0)

pub beside_apart : (other : Route) (sources : List Route) (made : Result (List Pair) PlanError) → sources ≢ [] → LieBeside other sources
    → IfOk made (λ pairs. pairs ≡ map (kept other) sources) → IfOk made ArePairsApart
beside_apart other sources (Ok pairs) some beside is = subst ArePairsApart (sym is) (kept_apart other sources some beside)
beside_apart other sources (Err e) some beside is = tt

pub beside_sources : (other : Route) (sources : List Route) (made : Result (List Pair) PlanError)
    → IfOk made (λ pairs. pairs ≡ map (kept other) sources) → IfOk made (λ pairs. sources_in pairs ≡ sources)
beside_sources other sources (Ok pairs) is = ap sources_in is ∙ kept_sources other sources
beside_sources other sources (Err e) is = tt

pub beside_targets : (other : Route) (sources : List Route) (made : Result (List Pair) PlanError)
    → IfOk made (λ pairs. pairs ≡ map (kept other) sources)
    → IfOk made (λ pairs. targets_from pairs ≡ map (λ name. name ∷ other) (map name_of sources))
beside_targets other sources (Ok pairs) is = ap targets_from is ∙ kept_targets other sources
beside_targets other sources (Err e) is = tt

-- ---- names

-- a star alone keeps the names of sources that have one
pub kept_names : (folder : Route) (parts : List GlobPart) (sources : List Route) → All (IsChild folder) sources
    → all_of (target_name parts (Star ∷ [])) sources ≡ Some (map name_of sources)
kept_names folder parts [] at = refl
kept_names folder parts (source ∷ sources) at =
    rw (own source (at 0 source (omega arith)), kept_names folder parts sources (λ k d below. at (suc k) d (omega arith))) refl
  where
    own : (source : Route) → IsChild folder source → target_name parts (Star ∷ []) source ≡ Some (name_of source)
    own [] child = absurd (child_some folder [] child refl)
    own (name ∷ rest) child = rw child.named refl

-- ---- where a plan asks for them

held_beside : (holder : Option Route) (other : Route) (sources : List Route) → IfSome holder (λ folder. LieApart folder sources)
    → option_map_or (λ held. not (meet held other)) holder false ≡ true → LieBeside other sources
held_beside None other sources lie h = absurd (false≢true h)
held_beside (Some folder) other sources lie h = record { folder = folder; lie = lie; beside = denied (meet folder other) h }
  where
    denied : (b : Bool) → not b ≡ true → b ≡ false
    denied true e = absurd (false≢true e)
    denied false e = refl

all_kept : (pattern : Option (List GlobPart)) (other : Route) (sources : List Route) → is_some pattern ≡ true → LieBeside other sources
    → names_for pattern (Star ∷ []) sources ≡ Some (map name_of sources)
all_kept None other sources some beside = absurd (false≢true some)
all_kept (Some parts) other sources some beside = kept_names beside.folder parts sources beside.lie.children

pub beside_there : (pattern : Option (List GlobPart)) (holder : Option Route) (other : Route) (sources : List Route) (made : Result (List Pair) PlanError)
    → is_some pattern ≡ true → IfSome holder (λ folder. LieApart folder sources) → option_map_or (λ held. not (meet held other)) holder false ≡ true
    → Plans (pairs_into other sources (map name_of sources)) made → Plans (placed_there pattern sources other) made
beside_there pattern holder other sources made some lie h planned =
    let named = all_kept pattern other sources some (held_beside holder other sources lie h) in
    let same : placed_there pattern sources other ≡ pairs_into other sources (map name_of sources) =
    ap (λ (o : Option (List (List ℕ))). and_then (or_bad_mask o) (λ names. pairs_into other sources names)) named in
    subst (λ (expected : Result (List Pair) PlanError). Plans expected made) (sym same) planned

pub beside_placed : (pattern : Option (List GlobPart)) (holder : Option Route) (other : Route) (sources : List Route) (made : Result (List Pair) PlanError)
    → is_some pattern ≡ true → IfSome holder (λ folder. LieApart folder sources) → option_map_or (λ held. not (meet held other)) holder false ≡ true
    → IfOk made (λ pairs. sources_in pairs ≡ sources) → IfOk made (λ pairs. targets_from pairs ≡ map (λ name. name ∷ other) (map name_of sources))
    → IfOk made (ArePlaced pattern (Star ∷ []))
beside_placed pattern holder other sources made some lie h same at =
    placed_pairs pattern (Star ∷ []) other (map name_of sources) sources made (all_kept pattern other sources some (held_beside holder other sources lie h)) same at
