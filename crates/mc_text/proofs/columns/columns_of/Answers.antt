use Rattle.std.proofs.Common.{◌≡◌, length, ap, arith, true}
use Rattle.std.specs.List.{concat}
use Rattle.unicode_segmentation.specs.Grapheme.{graphemes, is_grapheme_break}
use Rattle.unicode_segmentation.proofs.SegmentsLemmas.{concat-segments}
use Rattle.mc_text.proofs.columns.columns_of.Goals as goal

-- the clusters of a text are the text
pub loop-cluster-init : goal.loop-cluster-init
loop-cluster-init c =
    let whole : concat (graphemes true c.args.text.now) ≡ c.args.text.now = concat-segments (is_grapheme_break true) c.args.text.now c.utf8.text in
    rw (c.into_iter-cluster-iterator.ensures.into_iter_gives, c.graphemes-cluster-items.ensures.left)
    (tt, tt, omega arith, omega (arith, ap length whole))
