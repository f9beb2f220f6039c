-- what is drawn and what is still to be drawn make up the whole
use Rattle.std.proofs.Common.{◌≡◌, ◌-◌, ◌≤◌, ◌++◌, true, map, take, vec_len}
use Rattle.unicode_segmentation.specs.Grapheme.{graphemes}
use Rattle.unicode_segmentation.specs.Iter.{graphemes_left}
use Rattle.key_screen.specs.DrawnText.{drawn_glyph}
use Rattle.key_screen.proofs.drawn.drawn.Given as goal

abbrev pub invariant-loop-cluster : goal.invariant-loop-cluster
invariant-loop-cluster l =
    (goal.iterator-loop-cluster).can_next l.cluster-iterator ×
    (goal.iterator-loop-cluster).is_finite l.cluster-iterator ×
    (vec_len l.glyphs ≤ l.count) ×
    (l.glyphs.items ++ map drawn_glyph (take (l.count - vec_len l.glyphs) (graphemes_left l.cluster-iterator))
    ≡ map drawn_glyph (take l.count (graphemes true l.text)))
