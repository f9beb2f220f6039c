-- The bytes of a slice are small.
use Rattle.host_tree.proofs.ranked.rank_of.Goals as goal

pub returns-clause-bytes : goal.returns-clause-bytes
returns-clause-bytes c = λ k. (c.type_inv.name k).fits
