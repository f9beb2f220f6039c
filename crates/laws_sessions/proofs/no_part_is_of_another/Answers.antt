use Rattle.laws_sessions.proofs.OtherParts.{no_other_parts}
use Rattle.laws_sessions.proofs.no_part_is_of_another.Goals as goal

pub returns : goal.returns
returns c = no_other_parts
