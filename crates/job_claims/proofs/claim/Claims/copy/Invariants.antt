use Rattle.std.proofs.Common.{◌≡◌, take}
use Rattle.job_claims.proofs.claim.Claims.copy.Given as goal

abbrev pub invariant-loop-claim : goal.invariant-loop-claim
invariant-loop-claim l = l.copies.items ≡ take l.claim-index l.claim-items
