use Rattle.key_screen.specs.DrawnText.{cluster_columns}
use Rattle.key_screen.proofs.drawn.columns_of.Goals as goal

pub returns-clause-value : goal.returns-clause-value
unfolding cluster_columns
returns-clause-value c = c.width.ensures.value
