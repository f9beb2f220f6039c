use Rattle.laws_claims.proofs.PlannedLemmas.{between_law}
use Rattle.laws_claims.proofs.laws.nothing_else_stands_there.Goals as goal

pub returns : goal.returns
returns c = between_law
