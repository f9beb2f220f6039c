use Rattle.laws_crash.proofs.Wholeness.{whole_law}
use Rattle.laws_crash.proofs.moved_things.what_is_moved_stays_whole.Goals as goal

pub returns : goal.returns
returns c = whole_law
