use Rattle.copy_tree.proofs.InPlaces.{place_law}
use Rattle.copy_tree.proofs.laws.a_copy_keeps_to_its_place.Goals as goal

pub returns : goal.returns
returns c = place_law
