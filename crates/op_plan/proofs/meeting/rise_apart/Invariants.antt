-- Each path that was looked at comes before the next one, and doesn't hold it.
use Rattle.std.proofs.Common.{◌≡◌, ℕ, ◌+◌, ◌<◌, true, get_or}
use Rattle.mc_text.specs.Routes.{Route}
use Rattle.op_plan.specs.Sorting.{comes_apart}
use Rattle.op_plan.proofs.meeting.rise_apart.Given as goal

abbrev pub invariant-loop-i : goal.invariant-loop-i
invariant-loop-i l = (k : ℕ) (d : Route) → k + 1 < l.i → comes_apart (get_or l.paths k d) (get_or l.paths (k + 1) d) ≡ true
