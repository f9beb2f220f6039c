-- No path that was looked at begins with the one before it.
use Rattle.std.proofs.Common.{◌≡◌, ℕ, ◌+◌, ◌<◌, false, get_or}
use denote.Ref.{Bor}
use Rattle.mc_text.specs.Routes.{Route, is_prefix}
use Rattle.op_plan.proofs.meeting.neighbours_meet.Given as goal

abbrev pub invariant-loop-i : goal.invariant-loop-i
invariant-loop-i l = (k : ℕ) (d : Bor Route) → k + 1 < l.i → is_prefix (get_or l.sorted k d).now (get_or l.sorted (k + 1) d).now ≡ false
