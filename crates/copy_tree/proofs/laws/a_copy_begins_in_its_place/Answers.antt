use Rattle.copy_tree.proofs.Beginnings.{beginning_law}
use Rattle.copy_tree.proofs.laws.a_copy_begins_in_its_place.Goals as goal

pub returns : goal.returns
returns c = beginning_law
