-- It goes on from there, and none was met yet.
use Rattle.std.proofs.Common.{◌≤◌, ◌-◌, length}
use Rattle.job_unsynced.specs.Folders.{NoneBetween}
use Rattle.job_unsynced.proofs.dirty.Dirty.first_from.Given as goal

abbrev pub invariant-loop-at : goal.invariant-loop-at
invariant-loop-at l = record {
  least : l.fn.from ≤ l.at;
  none : NoneBetween l.fn.folder l.fn.top l.fn.self l.fn.from l.at;
}

abbrev pub decreases-loop-at : goal.decreases-loop-at
decreases-loop-at l = length l.fn.self - l.at
