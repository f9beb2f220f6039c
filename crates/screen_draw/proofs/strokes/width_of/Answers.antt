use Rattle.key_screen.specs.DrawnText.{cluster_columns}
use Rattle.screen_draw.proofs.strokes.width_of.Goals as goal

pub returns : goal.returns
unfolding cluster_columns
returns c = c.width.ensures.value
