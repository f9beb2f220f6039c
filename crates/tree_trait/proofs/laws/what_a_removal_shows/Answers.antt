use Rattle.tree_trait.proofs.Visible.{removal_shows}
use Rattle.tree_trait.proofs.laws.what_a_removal_shows.Goals as goal

pub returns : goal.returns
returns c = removal_shows
