-- what is put and what the clusters left will add are the first clusters
use Rattle.std.proofs.Common.{◌≡◌, ◌++◌, take, string_bytes}
use Rattle.std.specs.List.{concat}
use Rattle.unicode_segmentation.specs.Iter.{graphemes_left}
use Rattle.mc_dialogs.specs.InputKeys.{first_clusters}
use Rattle.mc_dialogs.proofs.clusters.first_clusters.Given as goal

abbrev pub invariant-loop-cluster : goal.invariant-loop-cluster
invariant-loop-cluster l =
    (goal.iterator-loop-cluster).can_next l.cluster-iterator ×
    (goal.iterator-loop-cluster).is_finite l.cluster-iterator ×
    (string_bytes l.first ++ concat (take l.left (graphemes_left l.cluster-iterator)) ≡ first_clusters l.count l.text)
