use Rattle.std.proofs.Common.{length}
use Rattle.hotlist.proofs.places.+items_below.Given as goal

abbrev pub decreases-items_below : goal.decreases-items_below
decreases-items_below l = length l.place.now
