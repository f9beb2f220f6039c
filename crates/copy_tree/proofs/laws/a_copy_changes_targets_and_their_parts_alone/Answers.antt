use Rattle.copy_tree.proofs.CallLaws.{call_law}
use Rattle.copy_tree.proofs.laws.a_copy_changes_targets_and_their_parts_alone.Goals as goal

pub returns : goal.returns
returns c = call_law
