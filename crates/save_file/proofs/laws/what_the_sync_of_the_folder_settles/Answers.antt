use Rattle.save_file.proofs.PartLaws.{barrier_law}
use Rattle.save_file.proofs.laws.what_the_sync_of_the_folder_settles.Goals as goal

pub returns : goal.returns
returns c = barrier_law
