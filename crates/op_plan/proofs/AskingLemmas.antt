-- Pairs that are made of the sources' names and a folder.
use Rattle.std.proofs.Common.{◌≡◌, ◌∙◌, List, ℕ, ◌∷◌, [], ap, subst, Option, Some, Result, Ok, Err, inl, inr}
use Rattle.std.specs.Prelude.{map, IfOk, chars}
use Rattle.mc_text.specs.Routes.{Route}
use Rattle.tagging.specs.declared.glob.GlobPart.{GlobPart}
use Rattle.job_reports.specs.declared.job.Pair.{Pair}
use Rattle.op_plan.specs.declared.mask.MaskPiece.{MaskPiece}
use Rattle.op_plan.specs.declared.mask.MaskPiece.TheVariants.{Star}
use Rattle.op_plan.specs.declared.error.PlanError.{PlanError}
use Rattle.op_plan.specs.Masks.{pieces_of}
use Rattle.op_plan.specs.Naming.{pattern_in, chosen_sources, names_for}
use Rattle.op_plan.specs.Destinations.{last_part}
use Rattle.op_plan.specs.Checks.{sources_in, targets_from}
use Rattle.op_plan.specs.Asking.{ArePlaced, ArePairsFor}

-- pairs of these sources, with targets of the names that the mask makes of them
pub placed_pairs : (pattern : Option (List GlobPart)) (mask : List MaskPiece) (folder : Route) (names : List (List ℕ)) (sources : List Route)
    → (made : Result (List Pair) PlanError)
    → names_for pattern mask sources ≡ Some names
    → IfOk made (λ pairs. sources_in pairs ≡ sources)
    → IfOk made (λ pairs. targets_from pairs ≡ map (λ name. name ∷ folder) names)
    → IfOk made (ArePlaced pattern mask)
placed_pairs pattern mask folder names sources (Ok pairs) named same at =
    record { folder = folder; names = names; targets = at; named = ap (names_for pattern mask) same ∙ named }
placed_pairs pattern mask folder names sources (Err e) named same at = tt

-- pairs whose targets the typed text names
pub masked_pairs : (sources : List Route) (mask to : List ℕ) (pattern : Option (List GlobPart)) (left : List Route) (pieces : List MaskPiece)
    → (made : Result (List Pair) PlanError)
    → pattern ≡ pattern_in mask → left ≡ chosen_sources pattern sources → pieces ≡ pieces_of (chars (last_part to))
    → IfOk made (λ pairs. sources_in pairs ≡ left) → IfOk made (ArePlaced pattern pieces) → IfOk made (ArePairsFor sources mask to)
masked_pairs sources mask to pattern left pieces (Ok pairs) p l m same at = record {
  sources_are = same ∙ (l ∙ ap (λ (q : Option (List GlobPart)). chosen_sources q sources) p);
  targets_are = inl (subst (λ (q : Option (List GlobPart)). ArePlaced q (pieces_of (chars (last_part to))) pairs) p
      (subst (λ (q : List MaskPiece). ArePlaced pattern q pairs) m at));
}
masked_pairs sources mask to pattern left pieces (Err e) p l m same at = tt

-- pairs whose targets have the names of their sources
pub kept_pairs : (sources : List Route) (mask to : List ℕ) (pattern : Option (List GlobPart)) (left : List Route)
    → (made : Result (List Pair) PlanError)
    → pattern ≡ pattern_in mask → left ≡ chosen_sources pattern sources
    → IfOk made (λ pairs. sources_in pairs ≡ left) → IfOk made (ArePlaced pattern (Star ∷ [])) → IfOk made (ArePairsFor sources mask to)
kept_pairs sources mask to pattern left (Ok pairs) p l same at = record {
  sources_are = same ∙ (l ∙ ap (λ (q : Option (List GlobPart)). chosen_sources q sources) p);
  targets_are = inr (subst (λ (q : Option (List GlobPart)). ArePlaced q (Star ∷ []) pairs) p at);
}
kept_pairs sources mask to pattern left (Err e) p l same at = tt
