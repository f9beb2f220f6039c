-- Below `at` the bytes stand nowhere on the seam.
use Rattle.std.proofs.Common.{◌++◌}
use Rattle.gap_text.specs.Places.{StandNowhere}
use Rattle.gap_text.proofs.places.place_on_seam.Given as goal

abbrev pub invariant-loop-at : goal.invariant-loop-at
invariant-loop-at l = StandNowhere (l.front ++ l.back) l.bytes l.low l.at
