use Rattle.std.proofs.Common.{length}
use Rattle.hotlist.proofs.places.+item_in.Given as goal

abbrev pub decreases-item_in : goal.decreases-item_in
decreases-item_in l = length l.place.now
