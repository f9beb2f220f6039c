use Rattle.std.proofs.Common.{true, length, ap, ◌∙◌, sym, ◌==◌, ◌&&◌}
use Rattle.std.specs.Str.{is_utf8}
use Rattle.std.proofs.lemmas.Str.{is_utf8-from_IsUtf8}
use Rattle.std.proofs.lemmas.Iterator.Consumers.{count_from_yields_List}
use Rattle.unicode_segmentation.proofs.SegmentsLemmas.{YieldsList-from_gives}
use Rattle.unicode_segmentation.specs.Grapheme.{graphemes}
use Rattle.key_screen.specs.DrawnText.{stands_alone}
use Rattle.key_screen.proofs.drawn.is_alone.Goals as goal

pub returns : goal.returns
unfolding stands_alone
returns c =
    let count = count_from_yields_List _ _ c.count.ensures.ran (YieldsList-from_gives _ _ c.graphemes.result) ∙ ap length c.graphemes.ensures.left in
    ap (λ n. n == 1) count ∙ ap (λ test. test && length (graphemes true c.args.cluster.now) == 1) (sym (is_utf8-from_IsUtf8 c.args.cluster.now c.utf8.cluster))
