-- The paths that were looked at lie in the folder, and the numbers are those of their names.
use Rattle.std.proofs.Common.{◌≡◌, ℕ, ◌<◌, map, take, get_or}
use Rattle.mc_text.specs.Routes.{Route}
use Rattle.op_plan.specs.Digests.{digest, name_of, IsChild}
use Rattle.op_plan.proofs.digest.lie_apart.Given as goal

abbrev pub invariant-loop-path : goal.invariant-loop-path
invariant-loop-path l = record {
  children : (k : ℕ) (d : Route) → k < l.path-index → IsChild l.folder (get_or l.paths k d);
  numbers : l.digests.items ≡ map (λ path. digest (name_of path)) (take l.path-index l.paths);
}
