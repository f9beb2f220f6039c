use Rattle.laws_claims.proofs.LocalLemmas.{work_law}
use Rattle.laws_claims.proofs.laws.works_keep_to_claims.Goals as goal

pub returns : goal.returns
returns c = work_law
