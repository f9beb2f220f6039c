use Rattle.laws_claims.proofs.RecursionLemmas.{recursion_law}
use Rattle.laws_claims.proofs.laws.a_copy_is_a_recursion.Goals as goal

pub returns : goal.returns
returns c = recursion_law
