use Rattle.laws_outcomes.proofs.NoOthers.{no_others_law}
use Rattle.laws_outcomes.proofs.what_others_name_meanwhile.Goals as goal

pub returns : goal.returns
returns c = no_others_law
