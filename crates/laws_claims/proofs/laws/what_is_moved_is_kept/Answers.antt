use Rattle.laws_claims.proofs.KeepingLemmas.{kept_law}
use Rattle.laws_claims.proofs.laws.what_is_moved_is_kept.Goals as goal

pub returns : goal.returns
returns c = kept_law
