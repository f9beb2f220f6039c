use Rattle.copy_tree.proofs.Worked.{worked_folder_law}
use Rattle.copy_tree.proofs.laws.what_is_at_work_lies_in_the_folder_that_is_worked.Goals as goal

pub returns : goal.returns
returns c = worked_folder_law
