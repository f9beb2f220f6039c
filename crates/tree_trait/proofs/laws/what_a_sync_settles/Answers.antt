use Rattle.tree_trait.proofs.Synced.{sync_law}
use Rattle.tree_trait.proofs.laws.what_a_sync_settles.Goals as goal

pub returns : goal.returns
returns c = sync_law
