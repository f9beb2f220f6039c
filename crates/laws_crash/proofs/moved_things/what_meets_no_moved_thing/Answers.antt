use Rattle.laws_crash.proofs.Moved.{moved_law}
use Rattle.laws_crash.proofs.moved_things.what_meets_no_moved_thing.Goals as goal

pub returns : goal.returns
returns c = moved_law
