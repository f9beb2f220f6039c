use Rattle.std.proofs.Common.{◌≡◌, take, map, true}
use Rattle.job_claims.specs.Claiming.{claim}
use Rattle.job_claims.proofs.claiming.all_written.Given as goal

abbrev pub invariant-loop-path : goal.invariant-loop-path
invariant-loop-path l = l.claimed.items ≡ map (claim true) (take l.path-index l.paths)
