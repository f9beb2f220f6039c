-- What is left tells of the trouble what all entries tell.
use Rattle.std.proofs.Common.{◌≡◌, length}
use Rattle.session_log.specs.Told.{waits_told}
use Rattle.session_log.proofs.log.waits_told.Given as goal

abbrev pub invariant-loop-left : goal.invariant-loop-left
invariant-loop-left l = waits_told l.left ≡ waits_told l.fn.entries

abbrev pub decreases-loop-left : goal.decreases-loop-left
decreases-loop-left l = length l.left
