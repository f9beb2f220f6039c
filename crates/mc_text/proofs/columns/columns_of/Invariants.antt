use Rattle.std.proofs.Common.{◌≡◌, ◌+◌, ◌*◌, ◌≤◌, length, sum_by}
use Rattle.std.specs.List.{concat}
use Rattle.unicode_segmentation.specs.Iter.{graphemes_left}
use Rattle.mc_text.specs.Fit.{cluster_columns, columns_in}
use Rattle.mc_text.proofs.columns.columns_of.Given as goal

abbrev pub invariant-loop-cluster : goal.invariant-loop-cluster
invariant-loop-cluster l =
    (goal.iterator-loop-cluster).can_next l.cluster-iterator ×
    (goal.iterator-loop-cluster).is_finite l.cluster-iterator ×
    (l.total + sum_by cluster_columns (graphemes_left l.cluster-iterator) ≡ columns_in l.text) ×
    (l.total + 2 * length (concat (graphemes_left l.cluster-iterator)) ≤ 2 * length l.text)
