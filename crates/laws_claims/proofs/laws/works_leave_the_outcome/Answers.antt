use Rattle.laws_claims.proofs.Whole.{fit_law}
use Rattle.laws_claims.proofs.laws.works_leave_the_outcome.Goals as goal

pub returns : goal.returns
returns c = fit_law
