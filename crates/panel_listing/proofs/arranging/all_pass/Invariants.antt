use Rattle.std.proofs.Common.{◌≡◌, true, replicate}
use Rattle.panel_listing.proofs.arranging.all_pass.Given as goal

abbrev pub invariant-loop : goal.invariant-loop
invariant-loop l = l.passing.items ≡ replicate l.counter true
