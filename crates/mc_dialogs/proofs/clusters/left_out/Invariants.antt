-- the columns are those of the clusters left, and what these leave out is still to be counted
use Rattle.std.proofs.Common.{◌≡◌, ◌+◌, ◌≤◌, length, true, sum_by}
use Rattle.unicode_segmentation.specs.Grapheme.{graphemes}
use Rattle.unicode_segmentation.specs.Iter.{graphemes_left}
use Rattle.mc_text.specs.Fit.{cluster_columns}
use Rattle.mc_dialogs.specs.InputField.{left_out}
use Rattle.mc_dialogs.proofs.clusters.left_out.Given as goal

abbrev pub invariant-loop-cluster : goal.invariant-loop-cluster
invariant-loop-cluster l =
    (goal.iterator-loop-cluster).can_next l.cluster-iterator ×
    (goal.iterator-loop-cluster).is_finite l.cluster-iterator ×
    (l.columns ≡ sum_by cluster_columns (graphemes_left l.cluster-iterator)) ×
    (l.count + left_out l.room (graphemes_left l.cluster-iterator) ≡ left_out l.room (graphemes true l.text)) ×
    (l.count + length (graphemes_left l.cluster-iterator) ≤ length l.text)
