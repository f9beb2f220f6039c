use Rattle.laws_crash.proofs.Leading.{find_law}
use Rattle.laws_crash.proofs.possible_paths.where_a_path_leads.Goals as goal

pub returns : goal.returns
returns c = find_law
