-- the columns are those of the clusters left, and what was put and the end of those left are the whole
use Rattle.std.proofs.Common.{◌≡◌, ◌++◌, true, sum_by, string_bytes}
use Rattle.std.specs.List.{concat}
use Rattle.unicode_segmentation.specs.Grapheme.{graphemes}
use Rattle.unicode_segmentation.specs.Iter.{graphemes_left}
use Rattle.mc_text.specs.Fit.{cluster_columns}
use Rattle.ui_words.specs.PathLines.{end_within}
use Rattle.ui_words.proofs.path_lines.push_end.Given as goal

abbrev pub invariant-loop-cluster : goal.invariant-loop-cluster
invariant-loop-cluster l =
    (goal.iterator-loop-cluster).can_next l.cluster-iterator ×
    (goal.iterator-loop-cluster).is_finite l.cluster-iterator ×
    (l.left ≡ sum_by cluster_columns (graphemes_left l.cluster-iterator)) ×
    (string_bytes l.line ++ concat (end_within l.room (graphemes_left l.cluster-iterator))
    ≡ string_bytes l.initial.line ++ concat (end_within l.room (graphemes true l.text)))
