use Rattle.mc_text.specs.Fit.{cluster_columns}
use Rattle.ui_words.proofs.path_lines.columns_of_cluster.Goals as goal

pub returns : goal.returns
unfolding cluster_columns
returns c = c.width.ensures.value
