use Rattle.copy_tree.proofs.OnDisks.{on_disk_law}
use Rattle.copy_tree.proofs.laws.a_made_folder_is_on_the_disk_before_it_is_filled.Goals as goal

pub returns : goal.returns
returns c = on_disk_law
