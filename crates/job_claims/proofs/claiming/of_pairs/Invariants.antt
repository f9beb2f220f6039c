use Rattle.std.proofs.Common.{◌≡◌, take}
use Rattle.job_claims.specs.Claiming.{of_pairs}
use Rattle.job_claims.proofs.claiming.of_pairs.Given as goal

abbrev pub invariant-loop-pair : goal.invariant-loop-pair
invariant-loop-pair l = l.claimed.items ≡ of_pairs l.moves (take l.pair-index l.pairs)
