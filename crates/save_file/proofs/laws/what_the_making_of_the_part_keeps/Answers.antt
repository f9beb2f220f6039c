use Rattle.save_file.proofs.PartLaws.{began_law}
use Rattle.save_file.proofs.laws.what_the_making_of_the_part_keeps.Goals as goal

pub returns : goal.returns
returns c = began_law
