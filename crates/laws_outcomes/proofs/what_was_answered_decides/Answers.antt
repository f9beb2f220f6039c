use Rattle.laws_outcomes.proofs.AnswersLaw.{answered_law}
use Rattle.laws_outcomes.proofs.what_was_answered_decides.Goals as goal

pub returns : goal.returns
returns c = answered_law
