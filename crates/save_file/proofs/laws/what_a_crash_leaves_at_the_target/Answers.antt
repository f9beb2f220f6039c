use Rattle.save_file.proofs.PlacingLaws.{whole_law}
use Rattle.save_file.proofs.laws.what_a_crash_leaves_at_the_target.Goals as goal

pub returns : goal.returns
returns c = whole_law
