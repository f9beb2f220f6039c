use Rattle.copy_tree.proofs.Staying.{staying_law}
use Rattle.copy_tree.proofs.laws.skips_and_last_steps_keep_a_copy_in_its_place.Goals as goal

pub returns : goal.returns
returns c = staying_law
