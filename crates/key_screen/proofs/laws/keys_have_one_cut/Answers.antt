use Rattle.key_screen.proofs.CutLemmas.{one_cut, key-short}
use Rattle.key_screen.proofs.laws.keys_have_one_cut.Goals as goal

pub returns-clause-only : goal.returns-clause-only
returns-clause-only c = one_cut

pub returns-clause-bounded : goal.returns-clause-bounded
returns-clause-bounded c = key-short
