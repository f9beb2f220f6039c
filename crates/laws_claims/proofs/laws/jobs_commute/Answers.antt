use Rattle.laws_claims.proofs.CommutingLemmas.{works_commute, outcomes_commute}
use Rattle.laws_claims.proofs.laws.jobs_commute.Goals as goal

pub returns-clause-works : goal.returns-clause-works
returns-clause-works c = works_commute

pub returns-clause-outcomes : goal.returns-clause-outcomes
returns-clause-outcomes c = outcomes_commute
