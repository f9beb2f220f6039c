-- The clusters of a text are the text.
use Rattle.std.proofs.Common.{◌≡◌, ◌++◌, ℕ, List, length, ap, arith, true}
use Rattle.std.specs.List.{concat}
use Rattle.unicode_segmentation.specs.Grapheme.{graphemes, is_grapheme_break}
use Rattle.unicode_segmentation.proofs.SegmentsLemmas.{concat-segments}
use Rattle.ui_editor.specs.EditorFrames.{clusters_within}
use Rattle.ui_editor.proofs.marking.shown_within.Goals as goal

pub loop-cluster-init : goal.loop-cluster-init
loop-cluster-init c =
    let whole : concat (graphemes true c.args.text.now) ≡ c.args.text.now = concat-segments (is_grapheme_break true) c.args.text.now c.utf8.text in
    rw (c.into_iter-cluster-iterator.ensures.into_iter_gives, c.graphemes-cluster-items.ensures.left) (
      tt,
      tt,
      ap (λ (l : List ℕ). l ++ clusters_within c.args.from c.args.to 0 (graphemes true c.args.text.now)) c.new-shown.ensures.bytes,
      omega (arith, ap length whole),
    )
