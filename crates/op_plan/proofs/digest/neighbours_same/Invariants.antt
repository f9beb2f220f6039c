-- No number that was looked at is the one before it.
use Rattle.std.proofs.Common.{◌≡◌, ◌==◌, ℕ, ◌+◌, ◌<◌, false, get_or}
use Rattle.op_plan.proofs.digest.neighbours_same.Given as goal

abbrev pub invariant-loop-i : goal.invariant-loop-i
invariant-loop-i l = (k : ℕ) (d : ℕ) → k + 1 < l.i → (get_or l.sorted k d == get_or l.sorted (k + 1) d) ≡ false
