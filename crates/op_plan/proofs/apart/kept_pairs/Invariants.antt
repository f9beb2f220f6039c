-- The pairs of the sources so far, of whose targets none is too long.
use Rattle.std.proofs.Common.{◌≡◌, ◌∷◌, false, map}
use Rattle.std.specs.List.{list_any}
use Rattle.op_plan.specs.Checks.{is_too_long, pair}
use Rattle.op_plan.specs.Digests.{name_of}
use Rattle.op_plan.proofs.apart.kept_pairs.Given as goal

abbrev pub invariant-loop-source : goal.invariant-loop-source
invariant-loop-source l = record {
  made : l.pairs.items ≡ map (λ source. pair source (name_of source ∷ l.folder)) l.yielded;
  fits : list_any (λ source. is_too_long l.folder (name_of source)) l.yielded ≡ false;
}
