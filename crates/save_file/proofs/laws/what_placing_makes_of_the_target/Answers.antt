use Rattle.save_file.proofs.PlacingLaws.{placed_law}
use Rattle.save_file.proofs.laws.what_placing_makes_of_the_target.Goals as goal

pub returns : goal.returns
returns c = placed_law
