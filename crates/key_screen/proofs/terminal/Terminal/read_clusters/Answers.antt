-- the clusters of a text are the text
use Rattle.std.proofs.Common.{◌≡◌, ◌+◌, length, ap, true, refl}
use Rattle.std.specs.List.{concat}
use Rattle.unicode_segmentation.specs.Grapheme.{graphemes, is_grapheme_break}
use Rattle.unicode_segmentation.proofs.SegmentsLemmas.{concat-segments}
use Rattle.key_screen.proofs.terminal.Terminal.read_clusters.Goals as goal

pub loop-cluster-init : goal.loop-cluster-init
loop-cluster-init c =
    let whole : concat (graphemes true c.args.text.now) ≡ c.args.text.now = concat-segments (is_grapheme_break true) c.args.text.now c.utf8.text in
    rw (c.into_iter-cluster-iterator.ensures.into_iter_gives, c.graphemes-cluster-items.ensures.left)
    (tt, tt, ap (λ text. c.args.position + length text) whole, refl)
