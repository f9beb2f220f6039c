-- What is left says of the part what all entries say.
use Rattle.std.proofs.Common.{◌≡◌, length}
use Rattle.session_log.specs.Told.{news_left}
use Rattle.session_log.proofs.log.news_left.Given as goal

abbrev pub invariant-loop-left : goal.invariant-loop-left
invariant-loop-left l = news_left l.left ≡ news_left l.fn.entries

abbrev pub decreases-loop-left : goal.decreases-loop-left
decreases-loop-left l = length l.left
