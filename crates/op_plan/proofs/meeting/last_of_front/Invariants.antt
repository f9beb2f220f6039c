-- Two meet among the first `meeting`, and none among the first `apart`.
use Rattle.std.proofs.Common.{◌≡◌, ◌-◌, ◌<◌, ◌≤◌, true, false, take, length}
use Rattle.op_plan.specs.Meeting.{meet, has_two}
use Rattle.op_plan.proofs.meeting.last_of_front.Given as goal

abbrev pub invariant-loop-apart : goal.invariant-loop-apart
invariant-loop-apart l = record {
  apart : has_two meet (take l.apart l.paths) ≡ false;
  meets : has_two meet (take l.meeting l.paths) ≡ true;
  order : l.apart < l.meeting;
  within : l.meeting ≤ length l.paths;
}

abbrev pub decreases-loop-apart : goal.decreases-loop-apart
decreases-loop-apart l = l.meeting - l.apart
