use Rattle.std.proofs.Common.{◌≡◌, take}
use Rattle.job_reports.proofs.job.Pairs.copy.Given as goal

abbrev pub invariant-loop-pair : goal.invariant-loop-pair
invariant-loop-pair l = l.copies.items ≡ take l.pair-index l.pair-items
