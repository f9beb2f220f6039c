-- what is put and what the clusters left will add are the later clusters
use Rattle.std.proofs.Common.{◌≡◌, ◌++◌, drop, string_bytes}
use Rattle.std.specs.List.{concat}
use Rattle.unicode_segmentation.specs.Iter.{graphemes_left}
use Rattle.mc_dialogs.specs.InputKeys.{later_clusters}
use Rattle.mc_dialogs.proofs.clusters.later_clusters.Given as goal

abbrev pub invariant-loop-cluster : goal.invariant-loop-cluster
invariant-loop-cluster l =
    (goal.iterator-loop-cluster).can_next l.cluster-iterator ×
    (goal.iterator-loop-cluster).is_finite l.cluster-iterator ×
    (string_bytes l.later ++ concat (drop l.left (graphemes_left l.cluster-iterator)) ≡ later_clusters l.count l.text)
