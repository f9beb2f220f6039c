use Rattle.laws_outcomes.proofs.CutKeeps.{keeps_law}
use Rattle.laws_outcomes.proofs.KeepsExample.{copied_folder_stays, deleted_file, emptied_folder, file_beside, made_folder, moded_file, moved_file, new_folder_there, new_link_there, replaced_file}
use Rattle.laws_outcomes.proofs.what_a_power_cut_leaves.Goals as goal

pub returns : goal.returns
returns c = keeps_law
