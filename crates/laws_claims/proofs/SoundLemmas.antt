-- The pairs of a sound job have nothing in common.
use Rattle.std.proofs.Common.{◌≡◌, Bool, true, false, List, [], ◌∷◌, refl, sym, ap, ◌∙◌}
use Rattle.std.specs.Prelude.{◌||◌, ◌&&◌, not}
use Rattle.std.specs.List.{list_any, list_all}
use Rattle.std.proofs.lemmas.Bool.{or_parts, and_from}
use Rattle.mc_text.specs.Routes.{Route}
use Rattle.job_reports.specs.declared.job.Pair.{Pair}
use Rattle.op_plan.specs.Meeting.{meet, has_two}
use Rattle.op_plan.specs.Checks.{sources_in, targets_from}
use Rattle.op_plan.specs.Soundness.{ArePairsApart}
use Rattle.op_plan.proofs.Paths.{meet-turned}
use Rattle.laws_claims.proofs.Apart.{are_apart, all_apart}

not_false : (b : Bool) → b ≡ false → not b ≡ true
not_false true h = sym h
not_false false h = refl

-- one pair beside others
each_apart : (pair : Pair) (pairs : List Pair) → list_any (meet pair.source) (sources_in pairs) ≡ false → list_any (meet pair.target) (targets_from pairs) ≡ false
    → list_any (meet pair.source) (targets_from pairs) ≡ false → list_any (λ source. meet source pair.target) (sources_in pairs) ≡ false
    → list_all (are_apart pair) pairs ≡ true
each_apart pair [] ss tt st ts = refl
each_apart pair (other ∷ pairs) ss tt st ts =
    let a = or_parts (meet pair.source other.source) (list_any (meet pair.source) (sources_in pairs)) ss in
    let b = or_parts (meet pair.target other.target) (list_any (meet pair.target) (targets_from pairs)) tt in
    let c = or_parts (meet pair.source other.target) (list_any (meet pair.source) (targets_from pairs)) st in
    let d = or_parts (meet other.source pair.target) (list_any (λ source. meet source pair.target) (sources_in pairs)) ts in
    and_from (are_apart pair other) (list_all (are_apart pair) pairs)
    (and_from (not (meet pair.source other.source)) (not (meet pair.target other.target) && (not (meet pair.source other.target) && not (meet pair.target other.source)))
    (not_false (meet pair.source other.source) a.0)
    (and_from (not (meet pair.target other.target)) (not (meet pair.source other.target) && not (meet pair.target other.source))
    (not_false (meet pair.target other.target) b.0)
    (and_from (not (meet pair.source other.target)) (not (meet pair.target other.source))
    (not_false (meet pair.source other.target) c.0)
    (not_false (meet pair.target other.source) (meet-turned pair.target other.source ∙ d.0)))))
    (each_apart pair pairs a.1 b.1 c.1 d.1)

-- no source meets the first target, and none meets the others
first_target : (target : Route) (targets sources : List Route) → list_any (λ source. meet source target || list_any (meet source) targets) sources ≡ false
    → (list_any (λ source. meet source target) sources ≡ false) × (list_any (λ source. list_any (meet source) targets) sources ≡ false)
first_target target targets [] h = (refl, refl)
first_target target targets (source ∷ sources) h =
    let a = or_parts (meet source target || list_any (meet source) targets) (list_any (λ source. meet source target || list_any (meet source) targets) sources) h in
    let b = or_parts (meet source target) (list_any (meet source) targets) a.0 in
    let c = first_target target targets sources a.1 in (
      ap (λ (x : Bool). x || list_any (λ source. meet source target) sources) b.0 ∙ c.0,
      ap (λ (x : Bool). x || list_any (λ source. list_any (meet source) targets) sources) b.1 ∙ c.1,
    )

pairs_apart : (pairs : List Pair) → has_two meet (sources_in pairs) ≡ false → has_two meet (targets_from pairs) ≡ false
    → list_any (λ source. list_any (meet source) (targets_from pairs)) (sources_in pairs) ≡ false → all_apart pairs ≡ true
pairs_apart [] ss tt st = refl
pairs_apart (pair ∷ pairs) ss tt st =
    let a = or_parts (list_any (meet pair.source) (sources_in pairs)) (has_two meet (sources_in pairs)) ss in
    let b = or_parts (list_any (meet pair.target) (targets_from pairs)) (has_two meet (targets_from pairs)) tt in
    let c = or_parts (meet pair.source pair.target || list_any (meet pair.source) (targets_from pairs))
    (list_any (λ source. meet source pair.target || list_any (meet source) (targets_from pairs)) (sources_in pairs)) st in
    let d = or_parts (meet pair.source pair.target) (list_any (meet pair.source) (targets_from pairs)) c.0 in
    let e = first_target pair.target (targets_from pairs) (sources_in pairs) c.1 in
    and_from (not (meet pair.source pair.target)) (list_all (are_apart pair) pairs && all_apart pairs)
    (not_false (meet pair.source pair.target) d.0)
    (and_from (list_all (are_apart pair) pairs) (all_apart pairs) (each_apart pair pairs a.0 b.0 d.1 e.0) (pairs_apart pairs a.1 b.1 e.1))

pub sound_pairs : (pairs : List Pair) → ArePairsApart pairs → all_apart pairs ≡ true
sound_pairs pairs h = pairs_apart pairs h.sources h.targets h.across
